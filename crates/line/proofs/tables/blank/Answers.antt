use lib.ListN.{replicate}
use mathlib.Core.Path.{ap}
use Rattle.chip.specs.declared.Chip.{Chip}
use Rattle.line.proofs.tables.blank.Goals as goal

pub returns : goal.returns
returns c = ap (λ (k : Chip). record { n = c.args.n; chips = replicate 16 k }) c.set_up-place.ensures
