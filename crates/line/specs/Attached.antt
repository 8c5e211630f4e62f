-- A table of chips with its buffers, as events find and leave it.
use Rattle.std.specs.Prelude.{ℕ, ◌≤◌, true, List, ◌≡◌, length, Result}
use Rattle.line.specs.declared.Refusal.{Refusal}
use Rattle.chip.specs.Chip.{Whole}
use Rattle.chip.specs.declared.Chip.{Chip}
use Rattle.line.specs.Layout.{Lent, lent, line_of, lent_from}
use Rattle.line.specs.Event.{table_in_range, sizes_fit, verdict_of, Answered, Outcome, event_of}
use Rattle.line.specs.declared.Event.{Event}

-- so many chips, and the table with its buffers
pub record Attached : Type 0 where
  pub count : ℕ
  pub lent : Lent

abbrev pub attached : ℕ → List Chip → List ℕ → List ℕ → Attached
attached n cs ms ss = record { count = n; lent = lent cs ms ss }

abbrev event_on : Event → Attached → Outcome
event_on e l = event_of l.count l.lent.chips e l.lent.images l.lent.pads

-- what an outcome leaves
abbrev pub left_by : Outcome → Attached
left_by o = record { count = o.count; lent = o.lent }

-- what an event answers there, and what it leaves
unfoldable pub says_of : Event → Attached → Answered
says_of e l = (event_on e l).answer

unfoldable pub leaves_of : Event → Attached → Attached
leaves_of e l = left_by (event_on e l)

-- how they are judged: 8, then 5
abbrev pub verdict_at : Attached → Result (Unit {0}) Refusal
verdict_at l = verdict_of l.count l.lent.chips l.lent.images l.lent.pads

-- a table with its buffers that is refused by neither 8 nor 5, and has its chips in its places
pub record Stands (l : Attached) : Type 0 where
  pub range : table_in_range l.count l.lent.chips ≡ true
  pub sizes : sizes_fit l.count l.lent.chips l.lent.images l.lent.pads ≡ true
  pub places : l.count ≤ length l.lent.chips

-- the line of a table
abbrev pub line_from : Attached → List Whole
line_from l = line_of l.count l.lent.chips l.lent.images l.lent.pads

-- a table with another line in its first places
abbrev pub with_line : Attached → List Whole → Attached
with_line l L = record { count = l.count; lent = lent_from l.count l.lent.chips L }
