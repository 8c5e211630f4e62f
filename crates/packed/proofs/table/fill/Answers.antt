use Rattle.std.proofs.Common.{arith}
use mathlib.Core.Path.{◌≡◌}
use lib.ListN.{length}
use Rattle.packed.specs.Filling.{filling_start, filling_next, filling_none, filling_all, filling_short, holds}
use Rattle.packed.proofs.table.fill.Goals as goal

pub loop-i-init : goal.loop-i-init
loop-i-init c = let r = c.requires in let l : length c.args.t.chips ≡ 16 = omega arith in filling_start c.args.n c.args.bytes.now c.args.t.chips (omega arith) (omega arith) l

pub returns-then-not-good : goal.returns-then-not-good
returns-then-not-good c = let l = c.loop-i in filling_none _ _ c.args.t _ _ l.invariant c.requires.1 c.unpack-c.result c.is_packed-good.result c.loop-i-test.true c.unpack-c.ensures c.is_packed-good.ensures c.if-not-good.true

pub loop-i-preserved : goal.loop-i-preserved
loop-i-preserved c = let l = c.loop-i in filling_next _ _ _ _ _ _ l.invariant c.unpack-c.result c.is_packed-good.result _ c.loop-i-test.true c.unpack-c.ensures c.is_packed-good.ensures (holds _ c.if-not-good.false)

pub returns-then-bytes-n : goal.returns-then-bytes-n
returns-then-bytes-n c = filling_all _ _ c.args.t _ _ c.loop-i.invariant c.loop-i-test.false c.requires.1 c.if-bytes-n.true

pub returns : goal.returns
returns c = filling_short _ _ c.args.t _ _ c.loop-i.invariant c.loop-i-test.false c.requires.1 c.if-bytes-n.false
