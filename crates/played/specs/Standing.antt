-- The line that a recording's card sets up stands well, however much of the card was read: so no event of a recording is refused by 8 or 5.
use Rattle.std.specs.Prelude.{ℕ, zero, suc, ◌+◌, ◌<◌, ◌≤◌, Bool, true, false, List, [], ◌∷◌, ◌++◌, ◌≡◌, refl, leb, ltb, length, take, set, Result, Ok, Err}
use Rattle.std.proofs.Common.{add-one, arith, ◌∙◌, ap, length-set, take-suc-set, le-leb, lt-ltb, eq-eqb}
use Rattle.std.proofs.lemmas.List.{length-replicate}
use Rattle.base.specs.Pick.{pick_true, pick_both}
use Rattle.base.specs.Both.{both_holds, both_true'}
use Rattle.chip.specs.Chip.{set_up_chip}
use Rattle.chip.specs.Range.{in_range}
use Rattle.chip.specs.Kinds.{known_kind}
use Rattle.chip.specs.declared.Chip.{Chip}
use Rattle.line.specs.Event.{all_in_range, table_in_range, sizes_fit}
use Rattle.line.specs.Layout.{images_size, pads_size, images_asked, pads_asked}
use Rattle.line.specs.Tables.{blank_table, joined}
use Rattle.line.specs.declared.Table.{Table}
use Rattle.recording.specs.declared.Fault.{Fault}
use Rattle.recording.specs.Reading.{starts_event, found_at}
use Rattle.recording.specs.Ways.{found_has}
use Rattle.recording.specs.Cards.{room_for, cards_on, cards_from, cards_of}
use Rattle.recording.specs.Playing.{set_up_line}
use Rattle.recording.specs.declared.Record.TheVariants as record_of
use Rattle.recording.specs.declared.Found.{Found}
use Rattle.recording.specs.declared.Found.TheVariants as found
use Rattle.recording.specs.declared.CardsRead.{CardsRead}
use Rattle.histories.specs.SetUp.{set_up_range}
use Rattle.line.specs.Attached.{Stands}

-- a table of 16 places whose chips lie in their ranges
pub record CardTable (t : Table) : Type 0 where
  pub few : t.n ≤ 16
  pub places : length t.chips ≡ 16
  pub range : all_in_range (take t.n t.chips) ≡ true

-- with images and scratchpads of the sizes that it asks for it stands well
pub table_stands : (t : Table) → CardTable t → Stands (set_up_line t)
unfolding table_in_range sizes_fit images_asked pads_asked
table_stands t c =
    let b = le-leb t.n 16 c.few in
    record {
      range = pick_true (leb t.n 16) _ false b ∙ c.range;
      sizes = both_true' _ _
          (eq-eqb _ (images_size (take t.n t.chips)) (length-replicate _ _ ∙ pick_true (leb t.n 16) _ 0 b))
          (eq-eqb _ (pads_size (take t.n t.chips)) (length-replicate _ _ ∙ pick_true (leb t.n 16) _ 0 b));
      places = let p = c.places in let f = c.few in omega arith;
    }

-- the table that reading starts with
pub blank-table : CardTable (blank_table 0)
blank-table = record { few = omega arith; places = refl; range = refl }

-- chips in range, with one more after them
one_more_in_range : (cs : List Chip) (c : Chip) → all_in_range cs ≡ true → in_range c ≡ true → all_in_range (cs ++ (c ∷ [])) ≡ true
one_more_in_range [] c h k = both_true' _ _ k refl
one_more_in_range (d ∷ cs) c h k = let p = both_holds (in_range d) (all_in_range cs) h in both_true' _ _ p.0 (one_more_in_range cs c p.1 k)

-- a chip that joins it where there is room
pub join_keeps : (c : Chip) (t : Table) → t.n < 16 → in_range c ≡ true → CardTable t → CardTable (joined c t)
unfolding joined
join_keeps c t r k g =
    rw (pick_true {A = Table} (ltb t.n 16) (record { n = t.n + 1; chips = set t.chips t.n c }) (record { n = 17; chips = t.chips }) (lt-ltb t.n 16 r))
    (record {
      few = omega arith;
      places = simp length-set g.places;
      range = ap (λ (j : ℕ). all_in_range (take j (set t.chips t.n c))) (add-one t.n)
          ∙ ap all_in_range (take-suc-set t.chips t.n c (let p = g.places in omega arith))
          ∙ one_more_in_range (take t.n t.chips) c g.range k;
    })

-- reading ------------------------------------------------------------------------------------------------

-- a chip that is found in a recording is of a known kind, and there is room for it
abbrev pub FoundFits : ℕ → Result Found Fault → Type 0
FoundFits room (Ok found.End) = Unit
FoundFits room (Ok found.Part) = Unit
FoundFits room (Ok (found.Record (record_of.Chip code kind) next)) = (known_kind kind ≡ true) × (0 < room)
FoundFits room (Ok (found.Record (record_of.Slots count from to) next)) = Unit
FoundFits room (Ok (found.Record (record_of.Event e) next)) = Unit
FoundFits room (Err f) = Unit

pub found_fits : (s : List ℕ) (at room : ℕ) (over more : Bool) → FoundFits room (found_at s at room over more)
found_fits s at room over more =
    found_has (FoundFits room) s at room over more (λ e. tt) (λ a. tt) (λ f. tt) (λ w k t r. (k, r)) (λ w k t u. tt) (λ w t. tt)

-- reading keeps the table so, whatever the bytes are; a refused card leaves the table of no chips
on_found : (go : ℕ → Table → CardsRead) (at : ℕ) (t : Table) → CardTable t → ((next : ℕ) (u : Table) → CardTable u → CardTable (go next u).table)
    → (f : Result Found Fault) → FoundFits (room_for t.n) f → CardTable (cards_on go at t f).table
on_found go at t g on (Ok found.End) f = g
on_found go at t g on (Ok found.Part) f = g
on_found go at t g on (Ok (found.Record (record_of.Chip code kind) next)) (k, r) =
    on next (joined (set_up_chip code kind) t) (join_keeps (set_up_chip code kind) t (omega arith) (set_up_range code kind k) g)
on_found go at t g on (Ok (found.Record (record_of.Slots count from to) next)) f = g
on_found go at t g on (Ok (found.Record (record_of.Event e) next)) f = g
on_found go at t g on (Err x) f = blank-table

cards_from_keep : (k : ℕ) (more : Bool) (s : List ℕ) (at : ℕ) (t : Table) → CardTable t → CardTable (cards_from k more s at t).table
unfolding cards_from
cards_from_keep zero more s at t g = g
cards_from_keep (suc k) more s at t g =
    pick_both (λ (r : CardsRead). CardTable r.table) (starts_event s at) _ _ g
    (on_found (λ (next : ℕ) (u : Table). cards_from k more s next u) at t g (λ next u h. cards_from_keep k more s next u h) (found_at s at (room_for t.n) false more) (found_fits s at (room_for t.n) false more))

pub cards_keep : (more : Bool) (s : List ℕ) (t : Table) → CardTable t → CardTable (cards_of more s t).table
unfolding cards_of
cards_keep more s t g = cards_from_keep (suc (length s)) more s 0 t g

-- THEOREM: the line that the card of a recording sets up stands well
pub set_up_line_stands : (more : Bool) (s : List ℕ) → Stands (set_up_line (cards_of more s (blank_table 0)).table)
set_up_line_stands more s = table_stands (cards_of more s (blank_table 0)).table (cards_keep more s (blank_table 0) blank-table)
