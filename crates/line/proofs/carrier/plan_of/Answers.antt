use Rattle.line.specs.Carrier.{plan_seen}
use Rattle.line.proofs.carrier.plan_of.Goals as goal

pub returns : goal.returns
unfolding plan_seen
returns c = cc
