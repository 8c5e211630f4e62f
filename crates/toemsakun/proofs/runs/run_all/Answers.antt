use native.Mathlib.Omega.{arith}
use mathlib.Core.Path.{refl, ◌∙◌}
use lib.ListN.{get_or}
use Rattle.line.specs.Runs.{running_start, running_next, running_end, count_few}
use Rattle.toemsakun.specs.Runs.{running_left, running_none}
use Rattle.toemsakun.proofs.runs.run_all.Goals as goal

pub whole-g-requires : goal.whole-g-requires
whole-g-requires c = c.requires.lined.table

pub loop-at-init : goal.loop-at-init
loop-at-init c =
    let a = c.args in
    record { running = running_start a.slots a.bits.now a.answers.now _ c.requires.slots_bound.0 c.requires.slots_bound.1 c.requires.slots_bound.2; lined = c.requires.lined; outside = c.whole-g.ensures; table = refl; images = refl; pads = refl }

pub narrow-g-requires : goal.narrow-g-requires
narrow-g-requires c = let i = c.loop-at.invariant in (i.lined.table, i.outside)

pub run_byte-byte-requires : goal.run_byte-byte-requires
run_byte-byte-requires c =
    let i = c.loop-at.invariant in
    record { lined = (i.lined, c.narrow-g.ensures); count_bound = let e = c.next_count-count.ensures in let h = (count_few c.loop-at.left).0 in omega arith }

pub bounds-answers-at : goal.bounds-answers-at
bounds-answers-at c = let s = c.loop-at.invariant.running.size in let h = c.loop-at-test.true in omega arith

pub overflow_sub-left : goal.overflow_sub-left
overflow_sub-left c = let e = c.next_count-count.ensures in let h = (count_few c.loop-at.left).1 in omega arith

pub loop-at-preserved : goal.loop-at-preserved
loop-at-preserved c =
    let l = c.loop-at in
    let i = l.invariant in
    let q = c.next_count-count in
    let r = c.run_byte-byte in
    let x = get_or c.args.bits.now l.at 0 in
    record { running = running_next _ _ _ _ _ _ _ _ i.running x _ q.result _ (running_left _ _ _ _ _ _ _ _ i.running c.loop-at-test.true) refl q.ensures r.ensures.value r.ensures.ss_after; lined = r.ensures.lined_2.0; outside = r.ensures.lined_2.1; table = r.auto.table ∙ i.table; images = r.auto.ms ∙ i.images; pads = r.auto.ss ∙ i.pads }

pub shape_of-table : goal.shape_of-table
shape_of-table c = c.loop-at.invariant.table

pub shape_of-answers : goal.shape_of-answers
shape_of-answers c = c.loop-at.invariant.running.size₀

pub shape_of-ms : goal.shape_of-ms
shape_of-ms c = c.loop-at.invariant.images

pub shape_of-ss : goal.shape_of-ss
shape_of-ss c = c.loop-at.invariant.pads

pub returns : goal.returns
returns c =
    let i = c.loop-at.invariant in
    let e = running_end _ _ _ _ _ _ _ _ i.running (running_none _ _ _ _ _ _ _ _ i.running c.loop-at-test.false) in
    record { answers_after = e.0; ss_after = e.1; lined_2 = i.lined }
