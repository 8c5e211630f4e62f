use mathlib.Core.Path.{refl, ◌∙◌, ap}
use Rattle.std.proofs.Common.{Option}
use Rattle.std.specs.Prelude.{unwrap_or}
use Rattle.line.specs.declared.Table.{Table}
use Rattle.packed.specs.Filling.{table_found, table_long}
use Rattle.packed.proofs.table.table_of.Goals as goal

pub returns-then-n-le16 : goal.returns-then-n-le16
returns-then-n-le16 c = c.unwrap_or.ensures ∙ ap (λ (o : Option Table). unwrap_or o c.args.t) c.fill.ensures ∙ table_found _ _ _ refl c.if-n-le16.true

pub returns : goal.returns
returns c = table_long _ _ c.if-n-le16.false
