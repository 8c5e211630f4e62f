use Rattle.toemsakun.specs.Acting.{Acting}
use Rattle.toemsakun.proofs.loops.all_turn.Given as goal

abbrev pub invariant-loop-i : goal.invariant-loop-i
invariant-loop-i l = Acting l.plan l.value l.initial.table l.initial.ms l.initial.ss l.table l.ms l.ss l.n l.i l.initial.spot l.spot
