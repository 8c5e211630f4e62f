-- Laws: the loop that reads the card of a recording.
use Prim.Native.Nat.{ℕ, suc, ◌+◌, ◌-◌, ◌<◌, ◌≤◌}
use native.Mathlib.Omega.{arith}
use Rattle.std.specs.Prelude.{Bool, true, false, List, ◌≡◌, refl, length, Result, Ok, Err}
use Rattle.std.proofs.Common.{◌∙◌, sym}
use Rattle.std.proofs.Math.Path.{ap}
use Rattle.base.specs.Pick.{pick, pick_true, pick_false}
use Rattle.chip.specs.Chip.{set_up_chip}
use Rattle.chip.specs.declared.Chip.{Chip}
use Rattle.line.specs.Tables.{joined}
use Rattle.line.specs.declared.Table.{Table}
use Rattle.recording.specs.declared.Fault.{Fault}
use Rattle.recording.specs.Reading.{found_at, starts_event}
use Rattle.recording.specs.Cards.{room_for, cards_read, stopped_by, table_by, stopped_at, on_card, cards_on, cards_from, cards_of}
use Rattle.recording.specs.Next.{Lies, found_lies}
use Rattle.recording.specs.declared.Record.{Record}
use Rattle.recording.specs.declared.Record.TheVariants as record_of
use Rattle.recording.specs.declared.Found.{Found}
use Rattle.recording.specs.declared.Found.TheVariants as found
use Rattle.recording.specs.declared.Ending.{Ending}
use Rattle.recording.specs.declared.CardsEnding.TheVariants as cards
use Rattle.recording.specs.declared.CardsRead.{CardsRead}

-- where no record is found, the card stops
stops : (go : ℕ → Table → CardsRead) (at : ℕ) (t : Table) (f : Result Found Fault) → ((r : Record) (next : ℕ) → f ≡ Ok (found.Record r next) → ⊥)
    → cards_on go at t f ≡ stopped_at at t f
stops go at t (Ok found.End) none = refl
stops go at t (Ok found.Part) none = refl
stops go at t (Ok (found.Record r next)) none = absurd (none r next refl)
stops go at t (Err x) none = refl

-- a record that is no chip ends the card
ends : (go : ℕ → Table → CardsRead) (at : ℕ) (t : Table) (next : ℕ) (r : Record) → ((code kind : ℕ) → r ≡ record_of.Chip code kind → ⊥)
    → on_card go at t next r ≡ cards_read cards.Events at t
ends go at t next (record_of.Chip code kind) none = absurd (none code kind refl)
ends go at t next (record_of.Slots count from to) none = refl
ends go at t next (record_of.Event e) none = refl

-- where the loop stands: reading from here, over enough records, is reading from the beginning
pub record Taking (more : Bool) (s : List ℕ) (first : Table) (at : ℕ) (t : Table) : Type 0 where
  pub records : ℕ
  pub enough : length s < at + records
  pub left : cards_from records more s at t ≡ cards_of more s first
  pub within : at ≤ length s

-- it stands so at the beginning
pub taking_start : (more : Bool) (s : List ℕ) (t : Table) → Taking more s t 0 t
unfolding cards_of
taking_start more s t = record { records = suc (length s); enough = omega arith; left = refl; within = omega arith }

module _ (more : Bool) (s : List ℕ) (first : Table) (at : ℕ) (t : Table) (g : Taking more s first at t) where
  -- how reading goes on after this record
  abbrev onward : ℕ → Table → CardsRead
  onward next u = cards_from (g.records - 1) more s next u

  -- one record
  one_record : pick (starts_event s at) (cards_read cards.Events at t) (cards_on onward at t (found_at s at (room_for t.n) false more)) ≡ cards_of more s first
  unfolding cards_from
  one_record =
      let e = g.enough in
      let w = g.within in
      let k : suc (g.records - 1) ≡ g.records = omega arith in
      ap (λ (j : ℕ). cards_from j more s at t) k ∙ g.left

  module _ (event : Bool) (e : event ≡ starts_event s at) where
    -- an event ends the card
    pub taking_event : event ≡ true → cards_read cards.Events at t ≡ cards_of more s first
    taking_event h = sym (pick_true (starts_event s at) _ _ (sym e ∙ h)) ∙ one_record

    module _ (h : event ≡ false) (room : ℕ) (q : room ≡ room_for t.n) (f : Result Found Fault) (d : f ≡ found_at s at room false more) where
      -- what is found says how reading goes on
      by_found : cards_on onward at t f ≡ cards_of more s first
      by_found =
          ap (cards_on onward at t) (d ∙ ap (λ (j : ℕ). found_at s at j false more) q)
          ∙ sym (pick_false (starts_event s at) _ _ (sym e ∙ h))
          ∙ one_record

      -- no record can be taken
      pub taking_stopped : (x : Result Ending Fault) (u : Table) → ((r : Record) (next : ℕ) → f ≡ Ok (found.Record r next) → ⊥) → x ≡ stopped_by f → u ≡ table_by f t
          → cards_read (cards.Stopped x) at u ≡ cards_of more s first
      taking_stopped x u none a b = (λ j. cards_read (cards.Stopped (a j)) at (b j)) ∙ sym (stops onward at t f none) ∙ by_found

      module _ (r : Record) (next : ℕ) (k : f ≡ Ok (found.Record r next)) where
        by_record : on_card onward at t next r ≡ cards_of more s first
        by_record = ap (cards_on onward at t) (sym k) ∙ by_found

        lies : Lies s at r next
        lies = found_lies s at room false more r next (sym d ∙ k)

        -- the record is no chip
        pub taking_other : ((code kind : ℕ) → r ≡ record_of.Chip code kind → ⊥) → cards_read cards.Events at t ≡ cards_of more s first
        taking_other none = sym (ends onward at t next r none) ∙ by_record

        -- a chip fills the next place, and reading goes on after its record
        pub taking_next : (code kind : ℕ) (c : Chip) (u : Table) → r ≡ record_of.Chip code kind → c ≡ set_up_chip code kind → u ≡ joined c t
            → Taking more s first next u
        taking_next code kind c u p a b =
            let n = g.enough in
            let m = lies.further in
            record {
              records = g.records - 1;
              enough = omega arith;
              left = ap (onward next) (b ∙ ap (λ (x : Chip). joined x t) a) ∙ ap (on_card onward at t next) (sym p) ∙ by_record;
              within = lies.within;
            }

        -- less of the recording is left
        pub taking_less : length s - next < length s - at
        taking_less = let m = lies.further in let w = lies.within in omega arith
