use Rattle.line.specs.Carrier.{bus_with}
use Rattle.line.proofs.steps.bus_with.Goals as goal

pub returns : goal.returns
unfolding bus_with
returns c = cc
