use mathlib.Core.Path.{refl, ◌∙◌}
use borrow.Author.Rules.{rules}
use Rattle.toemsakun.specs.SlotLoops.{taking_start, taking_next, taking_end, slot-leaves}
use Rattle.toemsakun.proofs.slots.all_take.Goals as goal

pub loop-i-init : goal.loop-i-init
loop-i-init c = (taking_start c.args.v c.args.table.now c.args.ms.now c.args.ss.now c.args.g c.requires.0 c.requires.1, refl, refl, refl)

pub loop-i-preserved : goal.loop-i-preserved
loop-i-preserved c = let l = c.loop-i in let t = c.takes in let k = c.kind_of-kind in (taking_next _ _ _ _ _ _ _ _ _ l.invariant.0 t.new.r t.new.ms t.new.ss k.result c.after-parts.result c.loop-i-test.true t.ensures k.ensures c.after-parts.ensures.image c.after-parts.ensures.pad, search rules, t.auto.ms ∙ l.invariant.2, t.auto.ss ∙ l.invariant.3)

pub returns : goal.returns
returns c = let a = c.args in let p = c.requires in let both = slot-leaves a.v a.g a.table.now a.ms.now a.ss.now _ _ _ p.1 (taking_end _ _ _ _ _ _ _ _ _ c.loop-i.invariant.0 c.loop-i-test.false) in record { ss_after = both.0; lined = both.1 }
