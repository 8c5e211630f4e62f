use Rattle.line.specs.Packing.{worth_is, worth_few}
use Rattle.line.proofs.packing.worth_of.Goals as goal

pub returns : goal.returns
returns c = let k = c.args.place in let h = c.requires in record { value = worth_is k h; result_nonzero = rw (worth_is k h) (worth_few k h) }
