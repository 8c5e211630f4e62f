use Rattle.line.specs.Carrier.{does-at}
use Rattle.base.specs.Rules.{cases}
use Rattle.line.proofs.steps.does_at.Goals as goal

pub returns-in-Slot : goal.returns-in-Slot
returns-in-Slot c = search (cases, does-at, ← c.act_at.ensures)

pub returns-in-Reset : goal.returns-in-Reset
returns-in-Reset c = search (cases, does-at, ← c.act_at-in-Reset.ensures)

pub returns-in-PowerOn : goal.returns-in-PowerOn
returns-in-PowerOn c = search (cases, does-at, ← c.act_at-in-PowerOn.ensures)

pub returns-in-Outside : goal.returns-in-Outside
returns-in-Outside c = search (cases, does-at, c.outside_if.ensures)
