use borrow.Enum.Refused.{opened}
use Rattle.std.proofs.Common.{arith}
use borrow.Author.Rules.{rules}
use mathlib.Core.Path.{◌≡◌, ◌∙◌, ap}
use lib.ListN.{length}
use Rattle.std.specs.Prelude.{Ok}
use Rattle.line.specs.Attached.{attached}
use Rattle.recording.specs.Putting.{written_by}
use Rattle.recording.specs.PlayLoop.{handed_by, underway_start, underway_stopped, underway_lies, underway_room, underway_less, underway_refused, underway_next}
use Rattle.recording.proofs.Absent.{no_record, no_record_refused}
use Rattle.recording.proofs.playing.play_all.Goals as goal
use Rattle.recording.proofs.playing.play_all.Goals.{in_default-via-in-Ok+in_default, in_default-via-in_default}

pub loop-taken-init : goal.loop-taken-init
loop-taken-init c = let a = c.args in let full : length a.t.chips ≡ 16 = omega arith in underway_start a.more a.s.now a.out.now (attached a.t.n a.t.chips a.ms.now a.ss.now) c.requires full

pub with_next_runs-joined-requires : goal.with_next_runs-joined-requires
with_next_runs-joined-requires c = let l = underway_lies _ _ _ _ _ _ _ _ c.loop-taken.invariant _ c.room_for-room.ensures _ c.record_at-found.ensures _ _ (let e = c.in-Ok-Record in e.is ∙ (λ j. Ok ((rw e.is at e.field-0-is) j))) in (l.fits, l.within)

pub put_record-put-requires : goal.put_record-put-requires
put_record-put-requires c = (c.with_next_runs-joined.ensures.fits, underway_room _ _ _ _ _ _ _ _ c.loop-taken.invariant _ c.room_for-room.ensures _ c.record_at-found.ensures _ _ (let e = c.in-Ok-Record in e.is ∙ (λ j. Ok ((rw e.is at e.field-0-is) j))) _ _ _ c.with_next_runs-joined.ensures)

pub returns-in_default-answer : goal.returns-in_default-answer
returns-in_default-answer c =
    let p = c.put_record-put in
    ap (handed_by p.new.out p.new.ms p.new.ss) c.played-in_default-answer.ensures
    ∙ underway_refused _ _ _ _ _ _ _ _ c.loop-taken.invariant _ c.room_for-room.ensures _ c.record_at-found.ensures _ _ (let e = c.in-Ok-Record in e.is ∙ (λ j. Ok ((rw e.is at e.field-0-is) j))) _ _ _ c.with_next_runs-joined.ensures _ _
    (attached p.result.table.n p.result.table.chips p.new.ms p.new.ss) _ _ (ap written_by c.in_default-answer.is) c.refused_record.ensures p.ensures

pub returns-in_default : goal.returns-in_default
returns-in_default c =
    let l = c.loop-taken in
    ap (handed_by l.out l.ms l.ss) c.played.ensures
    ∙ underway_stopped _ _ _ _ _ _ _ _ l.invariant _ c.room_for-room.ensures _ c.record_at-found.ensures _ (elim c.in_default.branch [ in_default-via-in-Ok+in_default w ↦ no_record _ _ w.in_default.is (rw w.in_default.is at (opened w.in_default.in-End-own.keys2)) | in_default-via-in_default w ↦ no_record_refused _ _ w.in_default.is ]) c.stopped_by.ensures

pub overflow_add-place : goal.overflow_add-place
overflow_add-place c = let p = c.put_record-put in let u = underway_next _ _ _ _ _ _ _ _ c.loop-taken.invariant _ c.room_for-room.ensures _ c.record_at-found.ensures _ _ (let e = c.in-Ok-Record in e.is ∙ (λ j. Ok ((rw e.is at e.field-0-is) j))) _ _ _ c.with_next_runs-joined.ensures _ _ (attached p.result.table.n p.result.table.chips p.new.ms p.new.ss) _ p.auto.ms p.auto.ss (ap written_by c.in-Ok.is) p.ensures in let f = u.few in let w = u.within in let r = u.room in search (rules, f, w, r, c.well_formed.1.1.1.0)

pub loop-taken-smaller : goal.loop-taken-smaller
loop-taken-smaller c = underway_less _ _ _ _ _ _ _ _ c.loop-taken.invariant _ c.room_for-room.ensures _ c.record_at-found.ensures _ _ (let e = c.in-Ok-Record in e.is ∙ (λ j. Ok ((rw e.is at e.field-0-is) j))) _ _ _ c.with_next_runs-joined.ensures

pub loop-taken-preserved : goal.loop-taken-preserved
loop-taken-preserved c = let p = c.put_record-put in underway_next _ _ _ _ _ _ _ _ c.loop-taken.invariant _ c.room_for-room.ensures _ c.record_at-found.ensures _ _ (let e = c.in-Ok-Record in e.is ∙ (λ j. Ok ((rw e.is at e.field-0-is) j))) _ _ _ c.with_next_runs-joined.ensures _ _ (attached p.result.table.n p.result.table.chips p.new.ms p.new.ss) _ p.auto.ms p.auto.ss (ap written_by c.in-Ok.is) p.ensures
