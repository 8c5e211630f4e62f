use Rattle.recording.specs.Reading.{whole_record}
use Rattle.base.specs.Rules.{cases}
use Rattle.recording.proofs.reading.whole_record.Goals as goal

pub returns-then-is_event : goal.returns-then-is_event
unfolding whole_record
returns-then-is_event c = search (cases, c.event_record.ensures, ← c.is_event.ensures)

pub returns : goal.returns
unfolding whole_record
returns c = search (cases, c.card_record.ensures, ← c.entry_at.ensures, ← c.is_event.ensures)
