use native.Mathlib.Omega.{arith}
use borrow.Author.Rules.{rules}
use Rattle.packed.specs.Filling.{putting_next, putting_end}
use lib.ListN.{length}
use mathlib.Core.Path.{◌≡◌, refl}
use Rattle.packed.proofs.table.put_all.Goals as goal

pub loop-i-preserved : goal.loop-i-preserved
loop-i-preserved c =
    let k : length c.args.t.chips ≡ 16 = omega arith in
    let l = c.loop-i in
    let n = c.loop-i-test.true in
    (putting_next c.args.t.n l.i c.args.t.chips c.args.bytes.now l.bytes (omega arith) (omega arith) l.invariant.0 _ c.put_record.new.s n refl c.put_record.ensures, search rules)

pub returns : goal.returns
returns c =
    let k : length c.args.t.chips ≡ 16 = omega arith in
    let l = c.loop-i in
    putting_end c.args.t.n l.i c.args.t.chips c.args.bytes.now l.bytes (omega arith) (omega arith) l.invariant.0 c.loop-i-test.false (omega arith) c.requires.0
