use Rattle.recording.specs.Reading.{cut_record}
use Rattle.base.specs.Rules.{cases}
use Rattle.recording.proofs.reading.cut_record.Goals as goal

pub returns-then-is_event : goal.returns-then-is_event
unfolding cut_record
returns-then-is_event c = search (cases, c.cut_off.ensures, ← c.may_be_right-right.ensures, ← c.is_event.ensures)

pub returns-then-is_known : goal.returns-then-is_known
unfolding cut_record
returns-then-is_known c = search (cases, c.cut_off-then-is_known.ensures, ← c.is_known.ensures, ← c.is_event.ensures)

pub returns : goal.returns
unfolding cut_record
returns c = search (cases, ← c.is_known.ensures, ← c.is_event.ensures)
