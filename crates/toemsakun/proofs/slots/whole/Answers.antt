use mathlib.Core.Path.{refl}
use Rattle.toemsakun.specs.SlotLoops.{all_outside}
use Rattle.toemsakun.proofs.slots.whole.Goals as goal

pub returns : goal.returns
returns c = all_outside c.args.table.now _ c.requires refl refl refl refl
