use Rattle.toemsakun.specs.Runs.{RunBytes}
use Rattle.toemsakun.proofs.runs.run_all.Given as goal

abbrev pub invariant-loop-at : goal.invariant-loop-at
invariant-loop-at l = RunBytes l.slots l.bits l.initial.answers l.initial.table l.initial.ms l.initial.ss l.g l.at l.left l.answers l.table l.ms l.ss
