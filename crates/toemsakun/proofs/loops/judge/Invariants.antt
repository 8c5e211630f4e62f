use Rattle.toemsakun.specs.Standing.{Judging}
use Rattle.toemsakun.proofs.loops.judge.Given as goal

abbrev pub invariant-loop-i : goal.invariant-loop-i
invariant-loop-i l = Judging l.n l.table l.i l.ok l.image l.pad
