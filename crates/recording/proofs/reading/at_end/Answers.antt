use Rattle.recording.specs.Reading.{at_end}
use Rattle.base.specs.Rules.{cases}
use Rattle.recording.proofs.reading.at_end.Goals as goal

pub returns-then-more : goal.returns-then-more
unfolding at_end
returns-then-more c = search cases

pub returns-else-more : goal.returns-else-more
unfolding at_end
returns-else-more c = search cases
