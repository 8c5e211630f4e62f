use Rattle.recording.specs.Reading.{slots_record}
use Rattle.base.specs.Rules.{cases}
use Rattle.recording.proofs.reading.slots_record.Goals as goal

pub returns-then-unused_clear : goal.returns-then-unused_clear
unfolding slots_record
returns-then-unused_clear c = search (cases, ← c.unused_clear.ensures, ← c.pair_at-count.ensures)

pub returns : goal.returns
unfolding slots_record
returns c = search (cases, ← c.unused_clear.ensures, ← c.pair_at-count.ensures)
