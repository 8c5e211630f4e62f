use Prim.Native.Nat.{◌%◌}
use native.Mathlib.Omega.{arith}
use mathlib.Core.Path.{◌≡◌, refl, ◌∙◌}
use lib.Dec.{eqb}
use lib.ListN.{length}
use Rattle.line.specs.Line.{after_by}
use Rattle.line.specs.Layout.{line_of}
use Rattle.line.specs.Runs.{byte_start, byte_worth, bit_most, byte_next, byte_end}
use Rattle.line.specs.RunTables.{carrying_start, carrying_end}
use Rattle.line.proofs.Walked.{carrying_slot}
use Rattle.line.specs.declared.Plan.TheVariants as plan
use Rattle.line.proofs.runs.run_byte.Goals as goal

pub loop-i-init : goal.loop-i-init
loop-i-init c = let a = c.args in let full : length a.t.chips ≡ 16 = omega arith in let f = c.requires.fits in let few = f.few in record { line = line_of a.t.n a.t.chips a.ms.now a.ss.now; byte = byte_start a.bits a.count _ c.requires.count_bound; table = carrying_start a.t.n a.t.chips a.ms.now a.ss.now f (omega arith); images = refl; pads = refl }

pub overflow_cast-sum : goal.overflow_cast-sum
overflow_cast-sum c = let i = c.loop-i.invariant in let w = byte_worth _ _ _ _ _ _ _ i.line i.byte c.loop-i-test.true in let b = i.byte.below in let m = bit_most c.carry_out-value.result c.loop-i.worth in let e = c.with_bit-sum.ensures in omega arith

pub overflow_mul-worth : goal.overflow_mul-worth
overflow_mul-worth c = let i = c.loop-i.invariant in let w = byte_worth _ _ _ _ _ _ _ i.line i.byte c.loop-i-test.true in omega arith

pub loop-i-preserved : goal.loop-i-preserved
loop-i-preserved c = let l = c.loop-i in let i = l.invariant in let t = c.carry_out-value in let b = eqb (l.host % 2) 1 in let q = carrying_slot _ _ i.line _ _ _ _ i.table b t.result t.new.chips.n t.new.chips.chips _ _ t.ensures.value t.ensures.ss_after t.ensures.as_many in record { line = after_by (plan.Slot b) i.line; byte = byte_next _ _ _ _ _ _ _ i.line i.byte b t.result _ _ c.loop-i-test.true refl q.0 c.with_bit-sum.ensures refl; table = q.1; images = t.auto.ms ∙ i.images; pads = t.auto.ss ∙ i.pads }

pub overflow_cast-result : goal.overflow_cast-result
overflow_cast-result c = let i = c.loop-i.invariant in let h = (byte_end _ _ _ _ _ _ _ i.line i.byte c.loop-i-test.false).2 in omega arith

pub shape_of-ms : goal.shape_of-ms
shape_of-ms c = c.loop-i.invariant.images

pub shape_of-ss : goal.shape_of-ss
shape_of-ss c = c.loop-i.invariant.pads

pub returns : goal.returns
returns c = let i = c.loop-i.invariant in let e = byte_end _ _ _ _ _ _ _ i.line i.byte c.loop-i-test.false in record { byte_value = e.0; ss_after = (carrying_end _ _ i.line _ _ _ _ i.table _ e.1, i.table.number) }
