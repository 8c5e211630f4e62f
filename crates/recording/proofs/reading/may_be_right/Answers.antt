use Rattle.base.specs.Bits.{both}
use Rattle.base.specs.Rules.{cases}
use Rattle.recording.specs.Reading.{may_be_right}
use Rattle.recording.proofs.reading.may_be_right.Goals as goal

pub returns-then-left-lt6 : goal.returns-then-left-lt6
unfolding may_be_right both
returns-then-left-lt6 c = search (cases, ← c.length_asked-asked.ensures)

pub returns-else-left-lt6 : goal.returns-else-left-lt6
unfolding may_be_right both
returns-else-left-lt6 c = search (cases, ← c.length_asked-asked.ensures)
