-- The customer's theorems of calls, stated together, and that they hold of each form: a table by value, a lent slice of chips, and bytes from C.
-- "A refused call changes no byte" is in Refused, form by form.
use Rattle.calls.specs.Form.{Form, StandsOn, stands_on}
use Rattle.calls.specs.Wired.{SlotsShowAnd, ResetsShowPresence, OthersAnswer1, slots_show_and, resets_show_presence, others_answer_1}
use Rattle.calls.specs.Runs.{RunsAreEvents, runs_are_events}
use Rattle.calls.specs.Listed.{ListsCodes, lists_codes}
use Rattle.calls.specs.Protected.{Protects, OnlyFall, protects, only_fall}
use Rattle.calls.specs.Recovered.{Recovers, recovers}
use Rattle.calls.specs.Plain.{plain}
use Rattle.calls.specs.Slice.{slice}
use Rattle.calls.specs.InC.{in_c}

pub record Customer (F : Form) : Type 2 where
  -- refusals 8 and 5 never come up after a call that neither refused
  pub stands_on : StandsOn F
  -- "the line shows the wired AND"
  pub slots : SlotsShowAnd F
  pub resets : ResetsShowPresence F
  pub others : OthersAnswer1 F
  -- a run of slots is the history of its slot events
  pub runs : RunsAreEvents F
  -- "the search lists each code once, in branch order"
  pub lists : ListsCodes F
  -- "Protected blocks never change, and in EPROM mode no bit rises."
  pub protects : Protects F
  pub only_fall : OnlyFall F
  -- "Recovery after noise"
  pub recovers : Recovers F

-- THEOREM: all of it, in each form
customer : (F : Form) → Customer F
customer F = record {
  stands_on = stands_on F;
  slots = slots_show_and F;
  resets = resets_show_presence F;
  others = others_answer_1 F;
  runs = runs_are_events F;
  lists = lists_codes F;
  protects = protects F;
  only_fall = only_fall F;
  recovers = recovers F;
}

-- `line::take_event`, `search::search_line` and `line::take_slots`
pub of_plain : Customer plain
of_plain = customer plain

-- `lent::take_event` and `lent::search_line`
pub of_slice : Customer slice
of_slice = customer slice

-- `tk_event`, `tk_search` and `tk_slots`
pub from_c : Customer in_c
from_c = customer in_c
