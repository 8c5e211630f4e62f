use Rattle.std.proofs.Common.{arith, ◌∙◌, sym}
use Rattle.line.specs.Carrier.{over_more, over_done}
use Rattle.lent.specs.Back.{gather_first}
use Rattle.lent.proofs.gathered.gather.Goals as goal

pub loop-i-preserved : goal.loop-i-preserved
loop-i-preserved c =
    sym (over_more _ _ _ _ _ _ c.loop-i-test.true c.with_chip-t.ensures) ∙ c.loop-i.invariant

pub returns : goal.returns
returns c =
    let a = c.args in
    sym (over_done _ _ _ _ _ (omega arith)) ∙ c.loop-i.invariant ∙ gather_first a.table.now _ c.blank-t.ensures
