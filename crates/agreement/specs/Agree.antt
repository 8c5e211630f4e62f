-- The lent form and the plain form agree: a table by value with the places Z past its chips, and the chips alone as a lent
-- slice, come to the same by every event, by every search and by every card, and the places Z stay.
use Rattle.std.specs.Prelude.{ℕ, ◌≡◌, refl, length, drop, Result, Bool}
use Rattle.line.specs.declared.Refusal.{Refusal}
use Rattle.std.proofs.Common.{arith, ◌∙◌}
use mathlib.Core.List.{List, ◌++◌, append_assoc}
use Rattle.std.proofs.Math.Path.{ap, sym}
use Rattle.std.proofs.lemmas.List.{drop-append-le}
use Rattle.chip.specs.declared.Chip.{Chip}
use Rattle.line.specs.Event.{answered, Outcome, outcome, event_of}
use Rattle.line.specs.Layout.{lent, capped}
use Rattle.line.specs.Prefix.{with_rest, event_rest}
use Rattle.line.specs.declared.Event.{Event}
use Rattle.card.specs.Card.{carded, Read, all, none, read_from, SetUp, set_up, from_read, set_up_of}
use Rattle.card.specs.declared.Refused.{Refused}
use Rattle.search.specs.Prefix.{search_rest, search-rest}
use Rattle.line.specs.Attached.{attached}
use Rattle.search.specs.Search.{searched, Search, outcome as found, search_of}
use Rattle.search.specs.declared.Fault.{Fault}
use Rattle.card.specs.Fits.{AtMost, read_fits}
use Rattle.coincide.specs.Answered.{answered_once}
use Rattle.coincide.specs.Carded.{carded_once}
use Rattle.coincide.specs.Searched.{searched_once}

module _ (cs Z : List Chip) where
  -- what `line::take_event` leaves of a table, and `lent::take_event` of its chips
  pub event_agrees : (e : Event) (ms ss : List ℕ) (a b : Result Bool Refusal) (n : ℕ) (ds ks : List Chip) (is ps js qs : List ℕ)
      → outcome (answered a) n (lent ds is ps) ≡ event_of (length cs) (cs ++ Z) e ms ss
      → outcome (answered b) (length ks) (lent ks js qs) ≡ event_of (length cs) cs e ms ss
      → (a ≡ b) × (n ≡ length ks) × (ds ≡ ks ++ Z) × (is ≡ js) × (ps ≡ qs)
  event_agrees e ms ss a b n ds ks is ps js qs p q =
      let r : outcome (answered a) n (lent ds is ps) ≡ with_rest Z (outcome (answered b) (length ks) (lent ks js qs))
      = p ∙ event_rest (length cs) cs Z (omega arith) e ms ss ∙ ap (with_rest Z) (sym q) in (
        answered_once a b (ap (λ (o : Outcome). o.answer) r),
        ap (λ (o : Outcome). o.count) r,
        ap (λ (o : Outcome). o.lent.chips) r,
        ap (λ (o : Outcome). o.lent.images) r,
        ap (λ (o : Outcome). o.lent.pads) r,
      )

  -- what `search::search_line` leaves of a table, and `lent::search_line` of its chips
  pub search_agrees : (list ms ss : List ℕ) (a b : Result (Unit {0}) Fault) (n m : ℕ) (x y : List ℕ) (r u s v k : ℕ) (ds ks : List Chip) (is ps js qs : List ℕ)
      → found (searched a) n x r s (attached k ds is ps) ≡ search_of list (attached (length cs) (cs ++ Z) ms ss)
      → found (searched b) m y u v (attached (length ks) ks js qs) ≡ search_of list (attached (length cs) cs ms ss)
      → (a ≡ b) × (n ≡ m) × (x ≡ y) × (r ≡ u) × (s ≡ v) × (k ≡ length ks) × (ds ≡ ks ++ Z) × (is ≡ js) × (ps ≡ qs)
  search_agrees list ms ss a b n m x y r u s v k ds ks is ps js qs p q =
      let z : found (searched a) n x r s (attached k ds is ps) ≡ search_rest Z (found (searched b) m y u v (attached (length ks) ks js qs))
      = p ∙ search-rest (length cs) (length cs) (omega arith) Z list (attached (length cs) cs ms ss) (record { chips = refl; places = refl }) ∙ ap (search_rest Z) (sym q) in (
        searched_once a b (ap (λ (o : Search). o.answer) z),
        ap (λ (o : Search). o.number) z,
        ap (λ (o : Search). o.list) z,
        ap (λ (o : Search). o.resets) z,
        ap (λ (o : Search). o.slots) z,
        ap (λ (o : Search). o.line.count) z,
        ap (λ (o : Search). o.line.lent.chips) z,
        ap (λ (o : Search). o.line.lent.images) z,
        ap (λ (o : Search). o.line.lent.pads) z,
      )

  table_rest : (n : ℕ) (q : Read) → AtMost (length cs) q → ((from_read n (cs ++ Z) q).answer ≡ (from_read 0 cs q).answer) × ((from_read n (cs ++ Z) q).table ≡ (from_read 0 cs q).table ++ Z)
  table_rest n (all ds) l = (refl, ap (λ (k : List Chip). ds ++ k) (drop-append-le (length ds) cs Z l) ∙ sym (append_assoc ds (drop (length ds) cs) Z))
  table_rest n (none r at) f = (refl, refl)

  -- what `card::set_up` leaves of a table with as many places to fill, and `lent::set_up` of those places
  pub set_up_agrees : (s : List ℕ) (n m : ℕ) (a b : Result ℕ Refused) (ds ks : List Chip)
      → set_up (carded a) m ds ≡ set_up_of (length cs) s n (cs ++ Z)
      → (carded b ≡ (set_up_of (length cs) s 0 cs).answer) × (ks ≡ (set_up_of (length cs) s 0 cs).table)
      → (a ≡ b) × (ds ≡ ks ++ Z)
  unfolding set_up_of
  set_up_agrees s n m a b ds ks p q =
      let t = table_rest n (read_from (capped (length cs)) s 0) (read_fits (length cs) s 0) in (
        carded_once a b (ap (λ (o : SetUp). o.answer) p ∙ t.0 ∙ sym q.0),
        ap (λ (o : SetUp). o.table) p ∙ t.1 ∙ ap (λ (k : List Chip). k ++ Z) (sym q.1),
      )
