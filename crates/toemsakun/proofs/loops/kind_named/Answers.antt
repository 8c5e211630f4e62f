use Rattle.toemsakun.specs.Standing.{kind_there, kind_absent}
use Rattle.toemsakun.proofs.loops.kind_named.Goals as goal

pub returns-then-named-n : goal.returns-then-named-n
returns-then-named-n c = let a = c.args in kind_there a.n a.chip a.table.now _ c.if-named-n.true c.kind_of.ensures

pub returns : goal.returns
returns c = let a = c.args in kind_absent a.n a.chip a.table.now c.if-named-n.false
