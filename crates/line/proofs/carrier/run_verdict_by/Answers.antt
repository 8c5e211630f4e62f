use Rattle.line.specs.Carrier.{run_verdict_by}
use Rattle.line.proofs.carrier.run_verdict_by.Goals as goal

pub returns : goal.returns
unfolding run_verdict_by
returns c = cc
