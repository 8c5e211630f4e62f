use Rattle.base.specs.Rules.{cases}
use Rattle.line.proofs.carrier.outside_if.Goals as goal

pub returns-then-named : goal.returns-then-named
returns-then-named c = search (cases, c.set_outside.ensures)

pub returns : goal.returns
returns c = search cases
