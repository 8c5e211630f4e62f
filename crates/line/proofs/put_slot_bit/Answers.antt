use Rattle.line.specs.Slots.{with_slot_bit}
use Rattle.line.proofs.put_slot_bit.Goals as goal

pub returns : goal.returns
unfolding with_slot_bit
returns c = cc
