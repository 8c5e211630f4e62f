use Rattle.line.specs.Carrier.{verdict_by}
use Rattle.line.proofs.carrier.verdict_by.Goals as goal

pub returns : goal.returns
unfolding verdict_by
returns c = c.verdict_with.ensures
