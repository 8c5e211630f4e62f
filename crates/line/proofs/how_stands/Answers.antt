use Rattle.std.proofs.Common.{arith}
use Rattle.line.specs.Carried.{stands_is, table_surveyed}
use mathlib.Core.Path.{◌∙◌}
use Rattle.line.proofs.how_stands.Goals as goal

pub returns : goal.returns
returns c = let a = c.args in let l = c.survey in c.verdict_by.ensures ∙ stands_is 0 a.t.n a.t.chips a.ms.now a.ss.now l.result (table_surveyed a.t.n a.t.chips (omega arith) 0 l.result l.ensures)
