use Prim.Native.Nat.{◌%◌}
use native.Mathlib.Omega.{arith}
use mathlib.Core.Path.{refl, ◌∙◌}
use lib.Dec.{eqb}
use Rattle.line.specs.Runs.{byte_start, byte_worth, bit_most, byte_next, byte_end}
use Rattle.toemsakun.proofs.runs.run_byte.Goals as goal

pub loop-i-init : goal.loop-i-init
loop-i-init c = let a = c.args in record { byte = byte_start a.bits a.count _ c.requires.count_bound; lined = c.requires.lined.0; outside = c.requires.lined.1; table = refl; images = refl; pads = refl }

pub slot-value-requires : goal.slot-value-requires
slot-value-requires c = let i = c.loop-i.invariant in (i.lined, i.outside)

pub overflow_cast-sum : goal.overflow_cast-sum
overflow_cast-sum c = let i = c.loop-i.invariant in let w = byte_worth _ _ _ _ _ _ _ _ i.byte c.loop-i-test.true in let b = i.byte.below in let m = bit_most c.slot-value.result c.loop-i.worth in let e = c.with_bit-more.ensures in omega arith

pub overflow_mul-worth : goal.overflow_mul-worth
overflow_mul-worth c = let i = c.loop-i.invariant in let w = byte_worth _ _ _ _ _ _ _ _ i.byte c.loop-i-test.true in omega arith

pub loop-i-preserved : goal.loop-i-preserved
loop-i-preserved c = let l = c.loop-i in let i = l.invariant in let s = c.slot-value in record { byte = byte_next _ _ _ _ _ _ _ _ i.byte (eqb (l.host % 2) 1) s.result _ _ c.loop-i-test.true refl s.ensures.value c.with_bit-more.ensures s.ensures.ss_after; lined = s.ensures.lined.0; outside = s.ensures.lined.1; table = s.auto.table ∙ i.table; images = s.auto.ms ∙ i.images; pads = s.auto.ss ∙ i.pads }

pub overflow_cast-result : goal.overflow_cast-result
overflow_cast-result c = let i = c.loop-i.invariant in let h = (byte_end _ _ _ _ _ _ _ _ i.byte c.loop-i-test.false).2 in omega arith

pub shape_of-table : goal.shape_of-table
shape_of-table c = c.loop-i.invariant.table

pub shape_of-ms : goal.shape_of-ms
shape_of-ms c = c.loop-i.invariant.images

pub shape_of-ss : goal.shape_of-ss
shape_of-ss c = c.loop-i.invariant.pads

pub returns : goal.returns
returns c = let i = c.loop-i.invariant in let e = byte_end _ _ _ _ _ _ _ _ i.byte c.loop-i-test.false in record { value = e.0; ss_after = e.1; lined_2 = (i.lined, i.outside) }
