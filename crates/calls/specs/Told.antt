-- What a search, and a run of slots, tells its caller, beside the line that it leaves.
use Rattle.std.specs.Prelude.{ℕ, List}
use Rattle.line.specs.Slots.{Slotted, RunOutcome}
use Rattle.search.specs.Search.{Searched, Search}

pub record Told : Type 0 where
  pub answer : Searched
  pub number : ℕ
  pub list : List ℕ
  pub resets : ℕ
  pub slots : ℕ

abbrev pub told : Search → Told
told s = record { answer = s.answer; number = s.number; list = s.list; resets = s.resets; slots = s.slots }

pub record ToldSlots : Type 0 where
  pub answer : Slotted
  pub answers : List ℕ

abbrev pub told_slots : RunOutcome → ToldSlots
told_slots o = record { answer = o.answer; answers = o.answers }

-- a call that a form does not have
pub record NoCall : Type 2 where
  pub none : ⊥
