use Rattle.packed.specs.Packed.{table_from}
use mathlib.Core.Path.{◌∙◌}
use Rattle.toemsakun.proofs.unpack.Goals as goal

pub returns : goal.returns
returns c = let b = c.blank-none in let s = c.args in c.table_of.ensures ∙ (λ j. table_from s.table.now (b.ensures j))
