use Rattle.line.specs.Carrier.{survey_chip}
use Rattle.line.proofs.carrier.survey_chip.Goals as goal

pub returns : goal.returns
unfolding survey_chip
returns c = cc
