use borrow.Author.Rules.{rules}
use Rattle.line.specs.Slots.{bits_of, number_from, run_on}
use native.Mathlib.Omega.{arith}
use mathlib.Core.List.{List}
use mathlib.Core.Path.{◌≡◌, refl, ◌∙◌, ap}
use lib.ListN.{length, get_or}
use Rattle.chip.specs.Chip.{Whole}
use Rattle.line.specs.Layout.{line_of}
use Rattle.line.specs.Runs.{running_start, running_at, running_next, running_end, count_few, count_some}
use Rattle.line.specs.RunTables.{carrying_start, carrying_end, carrying_fits, carrying_line, carrying_byte}
use Rattle.line.proofs.runs.run_all.Goals as goal

pub loop-left-init : goal.loop-left-init
loop-left-init c = let a = c.args in let full : length a.t.chips ≡ 16 = omega arith in let f = c.requires.fits in let few = f.few in let L = line_of a.t.n a.t.chips a.ms.now a.ss.now in record { line = L; running = running_start a.slots a.bits.now a.answers.now L c.requires.slots_bound.0 c.requires.slots_bound.1 c.requires.slots_bound.2; table = carrying_start a.t.n a.t.chips a.ms.now a.ss.now f (omega arith); images = refl; pads = refl }

pub bounds-bits-at : goal.bounds-bits-at
bounds-bits-at c = let i = c.loop-left.invariant in (running_at _ _ _ _ _ _ _ i.line i.running c.loop-left-test.true).0

pub run_byte-r-requires : goal.run_byte-r-requires
run_byte-r-requires c = let i = c.loop-left.invariant in record { fits = carrying_fits _ _ i.line _ _ _ _ i.table; count_bound = let e = c.next_count-count.ensures in let h = (count_few c.loop-left.left).0 in omega arith }

pub bounds-answers-at : goal.bounds-answers-at
bounds-answers-at c = let i = c.loop-left.invariant in (running_at _ _ _ _ _ _ _ i.line i.running c.loop-left-test.true).1

pub overflow_sub-left : goal.overflow_sub-left
overflow_sub-left c = let e = c.next_count-count.ensures in let h = (count_few c.loop-left.left).1 in omega arith

pub overflow_add-at : goal.overflow_add-at
overflow_add-at c = let i = c.loop-left.invariant in let h = (running_at _ _ _ _ _ _ _ i.line i.running c.loop-left-test.true).1 in let a = i.running.asked in let b = i.running.size in let f = i.running.few in search (rules, h)

pub loop-left-smaller : goal.loop-left-smaller
loop-left-smaller c = let e = c.next_count-count.ensures in let h = count_some c.loop-left.left c.loop-left-test.true in let k = c.loop-left-test.true in omega arith

pub loop-left-preserved : goal.loop-left-preserved
loop-left-preserved c = let l = c.loop-left in let i = l.invariant in let e = c.next_count-count.ensures in let n = c.next_count-count.result in let x = get_or c.args.bits.now l.at 0 in let r = c.run_byte-r in let L = i.line in let line = carrying_line _ _ L _ _ _ _ i.table in let q = carrying_byte _ _ L _ _ _ _ i.table n x r.result.table.n r.result.table.chips _ _ r.ensures.ss_after.0 r.ensures.ss_after.1 in record { line = _; running = running_next _ _ _ _ _ _ _ L i.running x _ n _ c.loop-left-test.true refl e (r.ensures.byte_value ∙ ap (λ (M : List Whole). number_from 1 (run_on (bits_of n x) M).bits) line) refl; table = q; images = r.auto.ms ∙ i.images; pads = r.auto.ss ∙ i.pads }

pub shape_of-answers : goal.shape_of-answers
shape_of-answers c = c.loop-left.invariant.running.size₀

pub shape_of-ms : goal.shape_of-ms
shape_of-ms c = c.loop-left.invariant.images

pub shape_of-ss : goal.shape_of-ss
shape_of-ss c = c.loop-left.invariant.pads

pub returns : goal.returns
returns c = let i = c.loop-left.invariant in let e = running_end _ _ _ _ _ _ _ i.line i.running c.loop-left-test.false in record { answers_after = e.0; ss_after = (carrying_end _ _ i.line _ _ _ _ i.table _ e.1, i.table.number) }
