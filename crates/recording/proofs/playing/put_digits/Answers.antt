use borrow.Author.Rules.{rules}
use Rattle.recording.specs.Digits.{digits_start, digits_next, digits_end}
use Rattle.recording.proofs.playing.put_digits.Goals as goal

pub loop-i-init : goal.loop-i-init
loop-i-init c = let a = c.args in digits_start a.answers.now a.n a.place a.out.now c.requires.0 c.requires.1

pub overflow_add-place : goal.overflow_add-place
overflow_add-place c = let g = c.loop-i.invariant in let t = c.loop-i-test.true in let r = g.room in search (rules, t, r)

pub loop-i-preserved : goal.loop-i-preserved
loop-i-preserved c = let l = c.loop-i in digits_next _ _ _ _ _ _ l.invariant _ _ _ c.loop-i-test.true c.slot_bit.ensures c.digit_of.ensures c.put_at.ensures

pub shape_of-out : goal.shape_of-out
shape_of-out c = c.loop-i.invariant.long

pub returns : goal.returns
returns c = digits_end _ _ _ _ _ _ c.loop-i.invariant c.loop-i-test.false
