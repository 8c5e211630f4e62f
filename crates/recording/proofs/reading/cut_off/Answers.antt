use Rattle.recording.specs.Reading.{cut_off}
use Rattle.base.specs.Rules.{cases}
use Rattle.recording.proofs.reading.cut_off.Goals as goal

pub returns-then-more : goal.returns-then-more
unfolding cut_off
returns-then-more c = search cases

pub returns-else-right : goal.returns-else-right
unfolding cut_off
returns-else-right c = search cases
