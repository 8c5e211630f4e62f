use mathlib.Core.Path.{refl}
use mathlib.Core.Bool.{xor}
use Rattle.crc.specs.Figure4.{drawn_bit}
use Rattle.crc.proofs.figure4.step.Goals as goal

pub returns : goal.returns
unfolding drawn_bit xor
returns c = refl
