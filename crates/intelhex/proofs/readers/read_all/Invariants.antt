use Rattle.std.proofs.Common.{◌-◌, length}
use Rattle.intelhex.proofs.Underway.{Underway}
use Rattle.intelhex.proofs.readers.read_all.Given as goal

abbrev pub invariant-loop-size : goal.invariant-loop-size
invariant-loop-size l = Underway l.more l.over l.text l.initial.image l.image l.at l.lines l.past

abbrev pub decreases-loop-size : goal.decreases-loop-size
decreases-loop-size l = length l.text - l.at
