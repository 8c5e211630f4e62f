use native.Mathlib.Omega.{arith}
use Rattle.recording.specs.JoinLoop.{adding_start, adding_next, adding_end}
use Rattle.recording.proofs.joining.add_bits.Goals as goal

pub loop-i-init : goal.loop-i-init
loop-i-init c = let a = c.args in adding_start a.host.now a.slots a.bits.now a.count c.requires.0 c.requires.1 c.told-host

pub overflow_add-slots : goal.overflow_add-slots
overflow_add-slots c = let g = c.loop-i.invariant in let t = c.loop-i-test.true in let f = g.few in omega arith

pub loop-i-preserved : goal.loop-i-preserved
loop-i-preserved c = adding_next _ _ _ _ _ _ c.loop-i.invariant _ _ c.loop-i-test.true c.slot_bit.ensures c.put_slot_bit.ensures

pub returns : goal.returns
returns c = adding_end _ _ _ _ _ _ c.loop-i.invariant c.loop-i-test.false
