use Rattle.base.specs.Bits.{both}
use Rattle.base.specs.Rules.{cases}
use Rattle.recording.specs.Reading.{is_event}
use Rattle.recording.proofs.reading.is_event.Goals as goal

pub returns-in-16-to-19 : goal.returns-in-16-to-19
unfolding is_event both
returns-in-16-to-19 c = search cases

pub returns-in_default : goal.returns-in_default
unfolding is_event both
returns-in_default c = search cases

pub returns-in_default-2 : goal.returns-in_default-2
unfolding is_event both
returns-in_default-2 c = search cases
