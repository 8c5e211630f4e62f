use Rattle.recording.specs.Heads.{event_at}
use Rattle.recording.specs.Reading.{starts_event}
use Rattle.base.specs.Rules.{cases}
use Rattle.recording.proofs.reading.starts_event.Goals as goal

pub returns-in-End : goal.returns-in-End
unfolding starts_event
returns-in-End c = search (cases, event_at, ← c.head_at.ensures)

pub returns-in-Cut : goal.returns-in-Cut
unfolding starts_event
returns-in-Cut c = search (cases, event_at, c.is_event.ensures, ← c.head_at.ensures)
