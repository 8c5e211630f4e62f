use Rattle.base.specs.Rules.{cases}
use Rattle.line.proofs.events.slot.Goals as goal

pub returns-then-bit : goal.returns-then-bit
returns-then-bit c = search (cases, c.numbered.ensures)

pub returns : goal.returns
returns c = search (cases, c.numbered-2.ensures)
