use native.Mathlib.Omega.{arith}
use mathlib.Core.Path.{refl, ap, subst}
use Rattle.line.specs.Attached.{attached}
use Rattle.recording.specs.Putting.{RecordFits, answers_most}
use Rattle.recording.specs.Next.{run-bytes}
use Rattle.recording.specs.Puts.{record_put}
use Rattle.recording.proofs.playing.put_record.Goals as goal

pub slice_bounds-put_slots-count : goal.slice_bounds-put_slots-count
slice_bounds-put_slots-count c = let a = c.args in let f = subst (RecordFits a.s.now) c.in-Slots.is c.requires.0 in let e = f.0 in omega arith

pub slice_bounds-put_slots-start : goal.slice_bounds-put_slots-start
slice_bounds-put_slots-start c = let a = c.args in let f = subst (RecordFits a.s.now) c.in-Slots.is c.requires.0 in let e = f.0 in omega arith

pub slice_bounds-put_slots-end : goal.slice_bounds-put_slots-end
slice_bounds-put_slots-end c = let a = c.args in let f = subst (RecordFits a.s.now) c.in-Slots.is c.requires.0 in f.1

pub put_slots-requires : goal.put_slots-requires
put_slots-requires c = let a = c.args in let f = subst (RecordFits a.s.now) c.in-Slots.is c.requires.0 in let g = c.in-Slots in let m = ap answers_most g.is in let o = c.requires.1 in (run-bytes a.s.now g.count g.from g.to f, omega arith)

pub returns-in-Chip : goal.returns-in-Chip
returns-in-Chip c = let a = c.args in record_put a.s.now (attached a.t.n a.t.chips a.ms.now a.ss.now) a.place a.out.now a.taken _ _ c.in-Chip.is refl

pub returns-in-Slots : goal.returns-in-Slots
returns-in-Slots c = let a = c.args in record_put a.s.now (attached a.t.n a.t.chips a.ms.now a.ss.now) a.place a.out.now a.taken _ _ c.in-Slots.is c.put_slots.ensures

pub returns-in-Event : goal.returns-in-Event
returns-in-Event c = let a = c.args in record_put a.s.now (attached a.t.n a.t.chips a.ms.now a.ss.now) a.place a.out.now a.taken _ _ c.in-Event.is c.put_event.ensures
