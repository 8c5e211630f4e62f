use Rattle.line.specs.Line.{act_of}
use Rattle.line.specs.Loops.{parts_back}
use borrow.Author.Rules.{rules}
use Rattle.line.proofs.loops.act_within.Goals as goal

pub returns : goal.returns
returns c = let a = c.args in parts_back (act_of a.act) _ _ _ _ _ _ _ _ _ _ (search rules) (search rules) c.act_on.ensures
