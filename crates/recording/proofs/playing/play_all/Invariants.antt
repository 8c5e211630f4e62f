use Prim.Native.Nat.{◌-◌}
use lib.ListN.{length}
use Rattle.line.specs.Attached.{attached}
use Rattle.recording.specs.PlayLoop.{Underway}
use Rattle.recording.proofs.playing.play_all.Given as goal

abbrev pub invariant-loop-taken : goal.invariant-loop-taken
invariant-loop-taken l = Underway l.more l.s l.initial.out (attached l.initial.table.n l.initial.table.chips l.initial.ms l.initial.ss) l.out (attached l.table.n l.table.chips l.ms l.ss) l.at l.place

abbrev pub decreases-loop-taken : goal.decreases-loop-taken
decreases-loop-taken l = length l.s - l.at
