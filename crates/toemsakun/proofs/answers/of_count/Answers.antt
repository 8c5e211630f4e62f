use native.Mathlib.Omega.{arith}
use mir.Syntax.{w32}
use mir.Facts.{to_z_pos}
use Rattle.toemsakun.proofs.answers.of_count.Goals as goal

pub returns : goal.returns
returns c = let h = c.requires in to_z_pos w32 (omega arith)
