use Rattle.base.specs.Rules.{cases}
use Rattle.line.proofs.carrier.judged.Goals as goal

pub returns-then-sizes : goal.returns-then-sizes
returns-then-sizes c = search cases

pub returns-then-range : goal.returns-then-range
returns-then-range c = search cases

pub returns : goal.returns
returns c = search cases
