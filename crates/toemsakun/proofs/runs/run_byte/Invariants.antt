use Rattle.toemsakun.specs.Runs.{ByteBytes}
use Rattle.toemsakun.proofs.runs.run_byte.Given as goal

abbrev pub invariant-loop-i : goal.invariant-loop-i
invariant-loop-i l = ByteBytes l.bits l.count l.initial.table l.initial.ms l.initial.ss l.g l.i l.host l.sum l.worth l.table l.ms l.ss
