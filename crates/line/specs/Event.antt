-- Document 01, "Refusal numbers": the event over a table and its buffers, for every input.
use Rattle.std.specs.Prelude.{ℕ, ◌≤◌, Bool, true, false, List, [], ◌∷◌, ◌≡◌, eqb, ltb, leb, length, take, get_or, Result, Ok, Err}
use Rattle.base.specs.Pick.{pick}
use Rattle.base.specs.Bits.{both}
use Rattle.chip.specs.Chip.{Whole}
use Rattle.chip.specs.With.{no_chip}
use Rattle.chip.specs.Range.{in_range}
use Rattle.chip.specs.Kinds.{takes_outside}
use Rattle.chip.specs.declared.Chip.{Chip}
use Rattle.line.specs.Line.{bus_of, after_by}
use Rattle.line.specs.Layout.{images_size, pads_size, chips_of, line_of, Lent, lent, lent_from}
use Rattle.line.specs.declared.Event.{Event}
use Rattle.line.specs.declared.Refusal.{Refusal}
use Rattle.line.specs.declared.Refusal.TheVariants.{OutOfRange, WrongSize, NoSuchEvent, NoSuchOutside}
use Rattle.line.specs.declared.Plan.{Plan}
use Rattle.line.specs.declared.Plan.TheVariants as plan

-- what an event answers: the bus bit, or document 01's refusal number; "Refused events carry no bus bit."
pub data Answered : Type 0 where
  bit : Bool → Answered
  refused : ℕ → Answered

-- document 01's number of each refusal
abbrev pub number_of : Refusal → ℕ
number_of OutOfRange = 8
number_of WrongSize = 5
number_of NoSuchEvent = 6
number_of NoSuchOutside = 7

-- the number and value of each answer
abbrev pub answered : Result Bool Refusal → Answered
answered (Ok b) = bit b
answered (Err r) = refused (number_of r)

-- every chip's fields lie in their ranges
abbrev pub all_in_range : List Chip → Bool
all_in_range [] = true
all_in_range (c ∷ cs) = both (in_range c) (all_in_range cs)

-- not 8: "the table has over 16 chips, or a field lies outside its range"
unfoldable pub table_in_range : ℕ → List Chip → Bool
table_in_range n cs = pick (leb n 16) (all_in_range (take n cs)) false

-- not 5: "an image or scratchpad buffer has another size than the table asks"
unfoldable pub sizes_fit : ℕ → List Chip → List ℕ → List ℕ → Bool
sizes_fit n cs ms ss = both (eqb (length ms) (images_size (take n cs))) (eqb (length ss) (pads_size (take n cs)))

-- not 7: "event 4 names an absent chip, one of kind 1, or levels over 3"; there are n chips, and the one named has a kind
unfoldable pub outside_fits : Event → ℕ → ℕ → Bool
outside_fits e n kind = pick (eqb e.number 4) (both (ltb e.chip n) (both (takes_outside kind) (leb e.outside 3))) true

-- what has to hold, or else a refusal is given
pub record Test : Type 0 where
  pub holds : Bool
  pub refusal : Refusal

abbrev pub test : Bool → Refusal → Test
test t r = record { holds = t; refusal = r }

-- "Where several hold, the first in order is given."
abbrev pub judge : List Test → Result (Unit {0}) Refusal
judge [] = Ok tt
judge (t ∷ ts) = pick t.holds (judge ts) (Err t.refusal)

-- "Event: 8, 5, 6, 7.": the first two judge the table and its buffers
abbrev pub table_tests : Bool → Bool → List Test
table_tests range sizes = test range OutOfRange ∷ test sizes WrongSize ∷ []

-- and these the event; 6: "the event number is over 4"
abbrev pub event_tests : Event → ℕ → ℕ → List Test
event_tests e n kind = test (leb e.number 4) NoSuchEvent ∷ test (outside_fits e n kind) NoSuchOutside ∷ []

-- what a table and its buffers are judged to
unfoldable pub verdict_of : ℕ → List Chip → List ℕ → List ℕ → Result (Unit {0}) Refusal
verdict_of n cs ms ss = judge (table_tests (table_in_range n cs) (sizes_fit n cs ms ss))

-- what an event answers, and what it leaves
pub record Outcome : Type 0 where
  pub answer : Answered
  pub count : ℕ
  pub lent : Lent

abbrev pub outcome : Answered → ℕ → Lent → Outcome
outcome a n l = record { answer = a; count = n; lent = l }

-- what the code knows of a table that is not refused by 8 or 5
pub record Fits (n : ℕ) (cs : List Chip) (ms ss : List ℕ) : Type 0 where
  pub few : n ≤ 16
  pub images : length ms ≡ images_size (take n cs)
  pub pads : length ss ≡ pads_size (take n cs)

-- what an event asks, by its number
unfoldable pub asked_by : Event → Plan
asked_by e =
    pick (ltb e.number 2) (plan.Slot (eqb e.number 1))
    (pick (eqb e.number 2) plan.Reset
    (pick (eqb e.number 3) plan.PowerOn
    (plan.Outside e.chip e.outside)))

-- a plan, where nothing refuses it
abbrev pub plan_by : Result (Unit {0}) Refusal → Result Plan Refusal → Result Plan Refusal
plan_by (Ok tt) p = p
plan_by (Err r) p = Err r

-- what an event comes to on n chips that stand well, where the one that it names has a kind
unfoldable pub plan_event : Event → ℕ → ℕ → Result Plan Refusal
plan_event e n kind = plan_by (judge (event_tests e n kind)) (Ok (asked_by e))

-- the same on a list of chips
abbrev pub plan_in : List Chip → Event → Result Plan Refusal
plan_in cs e = plan_event e (length cs) (get_or cs e.chip no_chip).kind

-- what an event comes to on a table and its buffers
unfoldable pub plan_of : ℕ → List Chip → Event → List ℕ → List ℕ → Result Plan Refusal
plan_of n cs e ms ss = plan_by (verdict_of n cs ms ss) (plan_in (take n cs) e)

-- what an event comes to on a line of whole chips
abbrev pub plan_on : Event → List Whole → Result Plan Refusal
plan_on e L = plan_in (chips_of L) e

-- what is answered; "Events 3 and 4 answer 1."
abbrev pub answer_by : Plan → List Whole → Answered
answer_by (plan.Slot b) L = bit (bus_of (plan.Slot b) L)
answer_by plan.Reset L = bit (bus_of plan.Reset L)
answer_by plan.PowerOn L = bit true
answer_by (plan.Outside i l) L = bit true

abbrev pub answer_plan : Result Plan Refusal → List Whole → Answered
answer_plan (Ok p) L = answer_by p L
answer_plan (Err r) L = refused (number_of r)

-- what a plan comes to on a table; refused, nothing changes
abbrev pub did : Plan → ℕ → List Chip → List ℕ → List ℕ → Outcome
did p n cs ms ss = let L = line_of n cs ms ss in outcome (answer_by p L) n (lent_from n cs (after_by p L))

abbrev pub done_of : Result Plan Refusal → ℕ → List Chip → List ℕ → List ℕ → Outcome
done_of (Ok p) n cs ms ss = did p n cs ms ss
done_of (Err r) n cs ms ss = outcome (refused (number_of r)) n (lent cs ms ss)

-- "Event: 8, 5, 6, 7.", each with nothing changed
unfoldable pub event_of : ℕ → List Chip → Event → List ℕ → List ℕ → Outcome
event_of n cs e ms ss = done_of (plan_of n cs e ms ss) n cs ms ss
