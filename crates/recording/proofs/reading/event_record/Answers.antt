use native.Mathlib.Omega.{arith}
use Rattle.recording.specs.Heads.{slots_asked, kind_counted}
use Rattle.recording.specs.Reading.{event_record}
use Rattle.base.specs.Rules.{cases}
use borrow.Author.Rules.{rules}
use Rattle.recording.proofs.reading.event_record.Goals as goal

pub slots_record-requires : goal.slots_record-requires
slots_record-requires c = let a = c.args in let e = slots_asked a.s.now a.body a.kind c.if-kind-eq16.true in let l = c.length_asked-asked.ensures in (omega (arith, e, l), search rules)

pub returns-then-kind-eq16 : goal.returns-then-kind-eq16
unfolding event_record
returns-then-kind-eq16 c = search (cases, c.slots_record.ensures, ← c.length_asked-asked.ensures)

pub event_in-event-requires : goal.event_in-event-requires
event_in-event-requires c = let a = c.args in let e = kind_counted a.s.now a.body a.kind in let l = c.length_asked-asked.ensures in omega (arith, e, l)

pub returns-then-size-asked : goal.returns-then-size-asked
unfolding event_record
returns-then-size-asked c = search (cases, c.event_in-event.ensures, ← c.length_asked-asked.ensures)

pub returns : goal.returns
unfolding event_record
returns c = search (cases, ← c.length_asked-asked.ensures)
