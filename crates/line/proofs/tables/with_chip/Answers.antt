use Rattle.line.specs.Tables.{joined}
use Rattle.base.specs.Rules.{cases}
use Rattle.line.proofs.tables.with_chip.Goals as goal

pub returns-then-n-lt16 : goal.returns-then-n-lt16
unfolding joined
returns-then-n-lt16 c = search cases

pub returns : goal.returns
unfolding joined
returns c = search cases
