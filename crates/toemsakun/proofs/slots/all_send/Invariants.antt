use Rattle.toemsakun.specs.SlotLoops.{Sending}
use Rattle.toemsakun.proofs.slots.all_send.Given as goal

abbrev pub invariant-loop-i : goal.invariant-loop-i
invariant-loop-i l = Sending l.host l.table l.ms l.ss l.i-end l.value l.parts.image l.parts.pad l.i
