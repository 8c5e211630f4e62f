use Rattle.recording.specs.Reading.{length_asked}
use Rattle.base.specs.Rules.{cases}
use Rattle.recording.proofs.reading.length_asked.Goals as goal

pub returns-then-kind-eq16 : goal.returns-then-kind-eq16
unfolding length_asked
returns-then-kind-eq16 c = search (cases, c.bytes_asked-bytes.ensures, ← c.pair_at-count.ensures)

pub returns-then-kind-eq19 : goal.returns-then-kind-eq19
unfolding length_asked
returns-then-kind-eq19 c = search cases

pub returns : goal.returns
unfolding length_asked
returns c = search cases
