-- Demand 1 for the search: 8 and 5 "both without an event, counts 0"; and neither is given exactly where the table stands well. When 4 is
-- given needs the codes on the line, and stands with the listing.
use Rattle.std.specs.Prelude.{ℕ, ◌≤◌, Bool, true, false, List, ◌≡◌, refl, length, Result}
use Rattle.line.specs.declared.Refusal.{Refusal}
use Rattle.std.proofs.Common.{arith, true≢false, ◌∙◌, sym}
use Rattle.std.proofs.Math.Path.{ap}
use Rattle.base.specs.Pick.{pick, pick_if, pick_of}
use Rattle.base.specs.Exactly.{Iff, by_else, by_then, by_neither}
use Rattle.line.specs.Event.{table_in_range, sizes_fit, verdict_of}
use Rattle.line.specs.Refusals.{in_range_few}
use Rattle.search.specs.Host.{play, search_host}
use Rattle.line.specs.Attached.{Attached, Stands}
use Rattle.search.specs.Search.{Searched, complete, refused, complete_or4, wire, Search, outcome, search_by, search_of}

pub numbered : (r s : ℕ) → (r ≡ s → ⊥) → refused r ≡ refused s → ⊥
numbered r s n e = n (number e)
  where
    number : refused r ≡ refused s → r ≡ s
    number p = cc

pub not_complete : (s : ℕ) → complete ≡ refused s → ⊥
not_complete s e = let z : ◌≡◌ {A = ℕ} 0 1 = cc in omega arith

module _ (list : List ℕ) (l : Attached) where
  abbrev ranged : Bool
  ranged = table_in_range l.count l.lent.chips

  abbrev sized : Bool
  sized = sizes_fit l.count l.lent.chips l.lent.images l.lent.pads

  -- whether the host found no code more than its places
  abbrev whole : Bool
  whole = (play wire (search_host (length list)) l).result.complete

  answer_is : (search_of list l).answer ≡ pick ranged (pick sized (complete_or4 whole) (refused 5)) (refused 8)
  unfolding search_of verdict_of
  answer_is =
      let f : Result (Unit {0}) Refusal → Searched = λ (v : Result (Unit {0}) Refusal). (search_by v list l).answer in
      pick_of f _ _ _ ∙ ap (λ (x : Searched). pick ranged x (refused 8)) (pick_of f _ _ _)

  answers : (s : ℕ) {B : Type 0} → Iff (pick ranged (pick sized (complete_or4 whole) (refused 5)) (refused 8) ≡ refused s) B → Iff ((search_of list l).answer ≡ refused s) B
  answers s i = ((λ p. i.0 (sym answer_is ∙ p)), (λ p. answer_is ∙ i.1 p))

  past_4 : (s : ℕ) → (4 ≡ s → ⊥) → complete_or4 whole ≡ refused s → ⊥
  past_4 s k = by_neither whole _ _ _ (not_complete s) (numbered 4 s k)

  pub refused_8 : Iff ((search_of list l).answer ≡ refused 8) (ranged ≡ false)
  refused_8 = answers 8 (by_else ranged _ _ (by_neither sized _ _ _ (past_4 8 (λ p. omega arith)) (numbered 5 8 (λ p. omega arith))))

  pub refused_5 : Iff ((search_of list l).answer ≡ refused 5) ((ranged ≡ true) × (sized ≡ false))
  refused_5 = answers 5 (by_then _ ranged _ _ _ (numbered 8 5 (λ p. omega arith)) (by_else sized _ _ (past_4 5 (λ p. omega arith))))

  -- under 8 and 5 no event was put on the line, and list and line are as they were
  abbrev Eventless : Search → Type 0
  Eventless o = (r : ℕ) → (r ≡ 4 → ⊥) → o.answer ≡ refused r → o ≡ outcome (refused r) 0 list 0 0 l

  plainly : (s : ℕ) → Eventless (outcome (refused s) 0 list 0 0 l)
  plainly s r k p = ap (λ (x : Searched). outcome x 0 list 0 0 l) p

  pub refused_eventless : (r : ℕ) → (r ≡ 4 → ⊥) → (search_of list l).answer ≡ refused r → search_of list l ≡ outcome (refused r) 0 list 0 0 l
  unfolding search_of verdict_of
  refused_eventless =
      pick_if (λ (v : Result (Unit {0}) Refusal). Eventless (search_by v list l)) _ _ _
      (λ a. pick_if (λ (v : Result (Unit {0}) Refusal). Eventless (search_by v list l)) _ _ _ (λ b r k p. absurd (past_4 r (λ q. k (sym q)) p)) (λ b. plainly 5))
      (λ a. plainly 8)

  -- neither 8 nor 5 is given exactly where the table stands well, which is what theorems about searches ask for; of a table with at least
  -- as many places as its count, where that is at most 16: a `Table` has 16, and a slice as many as chips
  pub given_neither : (l.count ≤ 16 → l.count ≤ length l.lent.chips)
      → Iff (((search_of list l).answer ≡ refused 8 → ⊥) × ((search_of list l).answer ≡ refused 5 → ⊥)) (Stands l)
  given_neither places = ((λ n. go ranged sized refl refl n), (λ s. ((λ p. true≢false (sym s.range ∙ refused_8.0 p)), (λ p. true≢false (sym s.sizes ∙ (refused_5.0 p).1)))))
    where
      go : (a b : Bool) → ranged ≡ a → sized ≡ b → ((search_of list l).answer ≡ refused 8 → ⊥) × ((search_of list l).answer ≡ refused 5 → ⊥) → Stands l
      go true true e f n = record { range = e; sizes = f; places = places (in_range_few l.count l.lent.chips e) }
      go true false e f n = absurd (n.1 (refused_5.1 (e, f)))
      go false b e f n = absurd (n.0 (refused_8.1 e))
