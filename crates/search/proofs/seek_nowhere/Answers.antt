use Rattle.std.proofs.Common.{true, false, ◌∙◌, sym}
use Rattle.base.specs.Pick.{pick}
use Rattle.search.specs.Passes.{nowhere}
use Rattle.search.proofs.seek_nowhere.Goals as goal

pub returns-then-absent : goal.returns-then-absent
unfolding pick
returns-then-absent c = let r = c.reset-absent in nowhere _ _ c.args.list.now true (sym c.if-absent.true ∙ r.ensures.0) r.ensures.1

pub returns-else-absent : goal.returns-else-absent
unfolding pick
returns-else-absent c = let r = c.reset-absent in nowhere _ _ c.args.list.now false (sym c.if-absent.false ∙ r.ensures.0) r.ensures.1
