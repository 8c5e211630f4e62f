use Rattle.toemsakun.specs.SlotLoops.{sending_start, sending_next, sending_end}
use Rattle.toemsakun.proofs.slots.all_send.Goals as goal

pub loop-i-init : goal.loop-i-init
loop-i-init c = sending_start c.args.host c.args.table.now c.args.ms.now c.args.ss.now c.args.g c.requires.0 c.requires.1

pub loop-i-preserved : goal.loop-i-preserved
loop-i-preserved c = let l = c.loop-i in let k = c.kind_of-kind in let bit = c.sends-bit in let a = c.are_both-value in sending_next _ _ _ _ _ _ _ _ _ l.invariant bit.result a.result k.result c.after-parts.result c.loop-i-test.true bit.ensures a.ensures k.ensures c.after-parts.ensures.image c.after-parts.ensures.pad

pub returns : goal.returns
returns c = sending_end _ _ _ _ _ _ _ _ _ c.loop-i.invariant c.loop-i-test.false
