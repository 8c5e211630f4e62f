use Rattle.base.specs.Rules.{cases}
use Rattle.line.proofs.carrier.kind_seen.Goals as goal

pub returns-then-named : goal.returns-then-named
returns-then-named c = search cases

pub returns-else-named : goal.returns-else-named
returns-else-named c = search cases
