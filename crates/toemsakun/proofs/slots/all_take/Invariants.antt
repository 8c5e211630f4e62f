use mathlib.Core.List.{map}
use mathlib.Core.Path.{◌≡◌}
use lib.ListN.{length}
use Rattle.chip.specs.Chip.{takes_of}
use Rattle.toemsakun.specs.Slots.{line_in}
use Rattle.toemsakun.specs.SlotLoops.{Taking}
use Rattle.toemsakun.proofs.slots.all_take.Given as goal

abbrev pub invariant-loop-i : goal.invariant-loop-i
invariant-loop-i l = Taking l.v (map (takes_of l.v) (line_in l.initial.table l.initial.ms l.initial.ss)) l.table l.ms l.ss l.i-end l.parts.image l.parts.pad l.i × (length l.table ≡ length l.initial.table) × (length l.ms ≡ length l.initial.ms) × (length l.ss ≡ length l.initial.ss)
