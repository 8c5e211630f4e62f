use Rattle.recording.specs.Reading.{chip_record}
use Rattle.base.specs.Rules.{cases}
use Rattle.recording.proofs.reading.chip_record.Goals as goal

pub returns-then-over : goal.returns-then-over
unfolding chip_record
returns-then-over c = search cases

pub returns : goal.returns
unfolding chip_record
returns c = search cases
