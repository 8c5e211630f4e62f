use Rattle.line.specs.Layout.{capped}
use Rattle.base.specs.Rules.{cases}
use Rattle.line.proofs.used_places.Goals as goal

pub returns-then-places-lt16 : goal.returns-then-places-lt16
unfolding capped
returns-then-places-lt16 c = search cases

pub returns-else-places-lt16 : goal.returns-else-places-lt16
unfolding capped
returns-else-places-lt16 c = search cases
