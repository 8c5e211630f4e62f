use Rattle.recording.specs.JoinLoop.{Adding}
use Rattle.recording.proofs.joining.add_bits.Given as goal

abbrev pub invariant-loop-i : goal.invariant-loop-i
invariant-loop-i l = Adding l.initial.host l.slots l.bits l.count l.host l.i
