use Rattle.chip.specs.Chip.{reset_of, power_on_of}
use Rattle.line.specs.Loops.{acted_at}
use Rattle.base.specs.Rules.{cases}
use Rattle.line.proofs.loops.act_on.Goals as goal

pub returns-in-Take : goal.returns-in-Take
returns-in-Take c = search (cases, acted_at, ← c.takes.ensures)

pub returns-in-Reset : goal.returns-in-Reset
unfolding reset_of
returns-in-Reset c = search (cases, acted_at, c.reset.ensures)

pub returns-in-PowerOn : goal.returns-in-PowerOn
unfolding power_on_of
returns-in-PowerOn c = search (cases, acted_at, ← c.power_on.ensures.0, ← c.power_on.ensures.1)
