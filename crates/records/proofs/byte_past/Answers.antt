use mathlib.Core.Path.{sym}
use lib.ListN.{get_or-eq_default}
use borrow.Author.Rules.{rules}
use Rattle.records.proofs.byte_past.Goals as goal

pub returns-then-at-s : goal.returns-then-at-s
returns-then-at-s c = let a = c.args in sym (get_or-eq_default a.s.now 0 (search rules))

pub returns : goal.returns
returns c = let a = c.args in sym (get_or-eq_default a.s.now 0 (search rules))
