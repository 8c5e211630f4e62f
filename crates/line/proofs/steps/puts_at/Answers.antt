use Rattle.line.specs.Carrier.{puts-at}
use Rattle.base.specs.Rules.{cases}
use Rattle.line.proofs.steps.puts_at.Goals as goal

pub returns-in-Slot : goal.returns-in-Slot
returns-in-Slot c = search (cases, puts-at, c.bit_at.ensures)

pub returns-in-Reset : goal.returns-in-Reset
returns-in-Reset c = search (cases, puts-at)
