use Rattle.base.specs.Rules.{cases}
use Rattle.line.proofs.carrier.next_count.Goals as goal

pub returns-then-left-lt8 : goal.returns-then-left-lt8
returns-then-left-lt8 c = search cases

pub returns-else-left-lt8 : goal.returns-else-left-lt8
returns-else-left-lt8 c = search cases
