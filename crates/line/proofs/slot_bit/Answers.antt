use Rattle.line.specs.Slots.{slot_bit}
use Rattle.line.proofs.slot_bit.Goals as goal

pub returns : goal.returns
unfolding slot_bit
returns c = cc
