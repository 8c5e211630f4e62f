use borrow.Author.Rules.{rules}
use native.Mathlib.Omega.{arith}
use Prim.Native.Nat.{◌≤◌}
use mathlib.Core.Path.{◌≡◌, ◌∙◌, sym}
use lib.ListN.{length, take, drop}
use lib.Seq.{length_front, length-take-le}
use Rattle.line.specs.Attached.{attached}
use Rattle.line.specs.Slots.{bytes_asked}
use Rattle.recording.specs.Puts.{slots_none, slots_count, slots-put, slots_refused}
use Rattle.recording.proofs.playing.put_slots.Goals as goal

pub returns-then-count-eq0 : goal.returns-then-count-eq0
returns-then-count-eq0 c = let a = c.args in slots_none a.count a.bits.now (attached a.t.n a.t.chips a.ms.now a.ss.now) a.place a.out.now c.if-count-eq0.true

pub slice_bounds-take_slots-end-2 : goal.slice_bounds-take_slots-end-2
slice_bounds-take_slots-end-2 c = let a = c.args in let few : a.count ≤ 65535 = search rules in let d = c.requires.0 in sym (length-take-le _ _ (omega arith))

pub returns-in_default : goal.returns-in_default
returns-in_default c = let a = c.args in let few : a.count ≤ 65535 = search rules in let d = c.requires.0 in let same : length (take (length a.bits.now) a.packed.now) ≡ bytes_asked a.count = length-take-le _ _ (omega arith) ∙ d in let t = c.take_slots-ran in slots_refused a.t.n a.t.chips a.count a.bits.now _ a.ms.now a.ss.now few c.requires.0 same t.result.answer _ t.result.table.n t.result.table.chips _ _ t.ensures a.place a.out.now _ c.if-count-eq0.false c.in_default.is

pub put_digits-requires : goal.put_digits-requires
put_digits-requires c = let a = c.args in let few : a.count ≤ 65535 = search rules in let d = c.requires.0 in let same : length (take (length a.bits.now) a.packed.now) ≡ bytes_asked a.count = length-take-le _ _ (omega arith) ∙ d in let f = c.requires.1 in let t = c.take_slots-ran in let k = slots_count a.t.n a.t.chips a.count a.bits.now _ a.ms.now a.ss.now few c.requires.0 same t.result.answer _ t.result.table.n t.result.table.chips _ _ t.ensures _ c.in-Ok.is in let l = length_front a.packed.now t.new.answers (length a.bits.now) t.auto.answers in (omega arith, omega arith)

pub returns : goal.returns
returns c = let a = c.args in let few : a.count ≤ 65535 = search rules in let d = c.requires.0 in let same : length (take (length a.bits.now) a.packed.now) ≡ bytes_asked a.count = length-take-le _ _ (omega arith) ∙ d in let t = c.take_slots-ran in slots-put a.t.n a.t.chips a.count a.bits.now _ a.ms.now a.ss.now few c.requires.0 same t.result.answer _ t.result.table.n t.result.table.chips _ _ t.ensures a.place a.out.now _ (drop (length a.bits.now) a.packed.now) _ c.if-count-eq0.false c.in-Ok.is c.put_digits.ensures
