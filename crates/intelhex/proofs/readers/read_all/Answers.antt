use Rattle.std.proofs.Common.{Ok, Err, ap, ◌∙◌, rules}
use Rattle.intelhex.proofs.Underway.{underway_start, underway_next, underway_sums, underway_stopped}
use Rattle.intelhex.proofs.readers.read_all.Goals as goal

pub loop-size-init : goal.loop-size-init
loop-size-init c = underway_start _ _ _ _

pub slice_bounds-take_next-count : goal.slice_bounds-take_next-count
slice_bounds-take_next-count c = let w = c.loop-size.invariant.within in search (rules, w)

pub slice_bounds-take_next-start : goal.slice_bounds-take_next-start
slice_bounds-take_next-start c = let w = c.loop-size.invariant.within in search (rules, w)

pub overflow_add-at : goal.overflow_add-at
overflow_add-at c = let s = (underway_sums _ _ _ _ _ _ _ _ c.loop-size.invariant _ _ c.take_next.new.image _ (c.in-Ok-On.is ∙ ap Ok c.in-Ok-On.field-0-is) c.take_next.ensures).0 in search (rules, s)

pub overflow_add-lines : goal.overflow_add-lines
overflow_add-lines c = let s = (underway_sums _ _ _ _ _ _ _ _ c.loop-size.invariant _ _ c.take_next.new.image _ (c.in-Ok-On.is ∙ ap Ok c.in-Ok-On.field-0-is) c.take_next.ensures).1.0 in search (rules, s)

pub loop-size-smaller : goal.loop-size-smaller
loop-size-smaller c = (underway_sums _ _ _ _ _ _ _ _ c.loop-size.invariant _ _ c.take_next.new.image _ (c.in-Ok-On.is ∙ ap Ok c.in-Ok-On.field-0-is) c.take_next.ensures).1.1

pub loop-size-preserved : goal.loop-size-preserved
loop-size-preserved c = (underway_next _ _ _ _ _ _ _ _ c.loop-size.invariant _ _ c.take_next.new.image _ (c.in-Ok-On.is ∙ ap Ok c.in-Ok-On.field-0-is) c.take_next.ensures).1.1

pub returns-in-Ok-Stop : goal.returns-in-Ok-Stop
returns-in-Ok-Stop c = underway_stopped _ _ _ _ _ _ _ _ c.loop-size.invariant _ (Ok _) c.take_next.new.image (c.in-Ok-Stop.is ∙ ap Ok c.in-Ok-Stop.field-0-is) c.take_next.ensures

pub returns-in-Err : goal.returns-in-Err
returns-in-Err c = underway_stopped _ _ _ _ _ _ _ _ c.loop-size.invariant _ (Err _) c.take_next.new.image c.in-Err.is c.take_next.ensures
