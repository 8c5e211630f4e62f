use Rattle.line.specs.Loops.{parts_bit}
use Rattle.line.proofs.loops.bit_within.Goals as goal

pub returns : goal.returns
returns c = let a = c.args in parts_bit a.c a.image a.pad a.size a.room a.ms.now a.ss.now _ c.requires.2 c.requires.3 c.sends.ensures
