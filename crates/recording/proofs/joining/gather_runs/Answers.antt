use native.Mathlib.Omega.{arith}
use mathlib.Core.Path.{◌∙◌, sym}
use Rattle.std.specs.Prelude.{Ok}
use Rattle.recording.specs.JoinLoop.{gathered_start, gathered_lies, gathered_next}
use Rattle.recording.specs.Next.{run-bytes}
use Rattle.recording.proofs.joining.gather_runs.Goals as goal

pub loop-count-init : goal.loop-count-init
loop-count-init c = let a = c.args in gathered_start a.more a.s.now a.room a.at a.slots a.host.now c.requires.1 c.requires.0

pub overflow_sub-all : goal.overflow_sub-all
overflow_sub-all c = c.loop-count.invariant.few

pub slice_bounds-add_bits-count : goal.slice_bounds-add_bits-count
slice_bounds-add_bits-count c = let f = (gathered_lies _ _ _ _ _ _ _ _ _ c.loop-count.invariant _ c.record_at.ensures _ _ (let e = c.in-Ok-Record-Slots-default in e.is ∙ (λ j. Ok (e.field-0-is j))) _ _ _ c.in-Ok-Record-Slots-default.field-0-0-is).fits in let e = f.0 in omega arith

pub slice_bounds-add_bits-start : goal.slice_bounds-add_bits-start
slice_bounds-add_bits-start c = let f = (gathered_lies _ _ _ _ _ _ _ _ _ c.loop-count.invariant _ c.record_at.ensures _ _ (let e = c.in-Ok-Record-Slots-default in e.is ∙ (λ j. Ok (e.field-0-is j))) _ _ _ c.in-Ok-Record-Slots-default.field-0-0-is).fits in let e = f.0 in omega arith

pub slice_bounds-add_bits-end : goal.slice_bounds-add_bits-end
slice_bounds-add_bits-end c = let f = (gathered_lies _ _ _ _ _ _ _ _ _ c.loop-count.invariant _ c.record_at.ensures _ _ (let e = c.in-Ok-Record-Slots-default in e.is ∙ (λ j. Ok (e.field-0-is j))) _ _ _ c.in-Ok-Record-Slots-default.field-0-0-is).fits in f.1

pub add_bits-requires : goal.add_bits-requires
add_bits-requires c = let i = c.loop-count.invariant in let b = run-bytes c.args.s.now _ _ _ (gathered_lies _ _ _ _ _ _ _ _ _ c.loop-count.invariant _ c.record_at.ensures _ _ (let e = c.in-Ok-Record-Slots-default in e.is ∙ (λ j. Ok (e.field-0-is j))) _ _ _ c.in-Ok-Record-Slots-default.field-0-0-is).fits in let n = c.if-all-n.false in let f = i.few in (omega arith, omega arith)

pub overflow_add-all : goal.overflow_add-all
overflow_add-all c = let i = c.loop-count.invariant in let n = c.if-all-n.false in let f = i.few in omega arith

pub loop-count-smaller : goal.loop-count-smaller
loop-count-smaller c = let l = gathered_lies _ _ _ _ _ _ _ _ _ c.loop-count.invariant _ c.record_at.ensures _ _ (let e = c.in-Ok-Record-Slots-default in e.is ∙ (λ j. Ok (e.field-0-is j))) _ _ _ c.in-Ok-Record-Slots-default.field-0-0-is in let a = l.further in let b = l.within in omega arith

pub loop-count-preserved : goal.loop-count-preserved
loop-count-preserved c = let i = c.loop-count.invariant in let n = c.if-all-n.false in let f = i.few in gathered_next _ _ _ _ _ _ _ _ _ c.loop-count.invariant _ c.record_at.ensures _ _ (let e = c.in-Ok-Record-Slots-default in e.is ∙ (λ j. Ok (e.field-0-is j))) _ _ _ c.in-Ok-Record-Slots-default.field-0-0-is _ (omega arith) c.add_bits.ensures (c.add_bits.array_long ∙ sym (i.long ∙ c.told-host))

pub returns-in_default : goal.returns-in_default
returns-in_default c = c.loop-count.invariant

pub returns-then-all-n : goal.returns-then-all-n
returns-then-all-n c = c.loop-count.invariant
