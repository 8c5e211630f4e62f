use Rattle.recording.specs.Reading.{event_in}
use Rattle.base.specs.Rules.{cases}
use Rattle.recording.proofs.reading.event_in.Goals as goal

pub returns-then-kind-eq17 : goal.returns-then-kind-eq17
unfolding event_in
returns-then-kind-eq17 c = search (cases, c.reset.ensures)

pub returns-then-kind-eq18 : goal.returns-then-kind-eq18
unfolding event_in
returns-then-kind-eq18 c = search (cases, c.power_on.ensures)

pub returns : goal.returns
unfolding event_in
returns c = search (cases, c.outside.ensures, ← c.byte_at-outside.ensures, ← c.byte_at-chip.ensures)
