use Rattle.std.proofs.Common.{refl, rules}
use Rattle.intelhex.specs.Sound.{stands_nothing, stands_line, stands_unended, stands_endless, no_end}
use Rattle.intelhex.proofs.lines.standing_in.Goals as goal

pub returns-in-Some : goal.returns-in-Some
returns-in-Some c = stands_line c.args.text.now c.min.result (search rules) _ c.before_end.ensures _ _ _ c.in-Some.is c.without_return.ensures refl

pub returns-in-None : goal.returns-in-None
returns-in-None c = stands_nothing _ (search rules)

pub returns-in-None-2 : goal.returns-in-None-2
returns-in-None-2 c = stands_unended _ (no_end c.args.text.now c.min.result (search rules) _ c.before_end.ensures c.in-None.is) (search rules) (search rules)

pub returns-in-None-3 : goal.returns-in-None-3
returns-in-None-3 c = stands_endless _ (no_end c.args.text.now c.min.result (search rules) _ c.before_end.ensures c.in-None.is) (search rules)
