use Prim.Native.Nat.{◌-◌}
use lib.ListN.{length}
use Rattle.recording.specs.Joining.{GatheredTo}
use Rattle.recording.proofs.joining.gather_runs.Given as goal

abbrev pub invariant-loop-count : goal.invariant-loop-count
invariant-loop-count l = GatheredTo l.more l.s l.room l.at l.slots l.initial.host l.all l.next l.host

abbrev pub decreases-loop-count : goal.decreases-loop-count
decreases-loop-count l = length l.s - l.next
