use Rattle.line.proofs.carrier.first_survey.Goals as goal

pub returns : goal.returns
returns c = cc
