use Rattle.line.specs.Carrier.{verdict_with}
use Rattle.line.proofs.carrier.verdict_with.Goals as goal

pub returns : goal.returns
unfolding verdict_with
returns c = cc
