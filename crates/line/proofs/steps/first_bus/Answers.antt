use Rattle.line.proofs.steps.first_bus.Goals as goal

pub returns : goal.returns
returns c = cc
