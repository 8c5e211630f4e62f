use Rattle.toemsakun.specs.Narrow.{narrow, front_next}
use Rattle.toemsakun.proofs.slots.front.Goals as goal

pub loop-r-init : goal.loop-r-init
loop-r-init c = narrow c.args.table.now c.args.g c.requires.0 c.requires.1

pub returns-then-not-waits : goal.returns-then-not-waits
returns-then-not-waits c = c.loop-r.invariant.outside

pub loop-r-preserved : goal.loop-r-preserved
loop-r-preserved c = let l = c.loop-r in let k = c.kind_of-kind in front_next _ _ l.invariant c.waits.result k.result c.after-r.result c.loop-r-test.true c.waits.ensures c.if-not-waits.false k.ensures c.after-r.ensures.image c.after-r.ensures.pad

pub returns : goal.returns
returns c = c.loop-r.invariant.outside
