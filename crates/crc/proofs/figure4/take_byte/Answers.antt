use Rattle.std.proofs.Common.{rules}
use Rattle.crc.specs.Figure4.{drawn_byte}
use Rattle.crc.proofs.figure4.take_byte.Goals as goal

pub returns : goal.returns
unfolding drawn_byte
returns c = search (rules, ← c.step-r1.ensures, ← c.bit_of.ensures, ← c.step-r2.ensures, ← c.bit_of-2.ensures, ← c.step-r3.ensures, ← c.bit_of-3.ensures, ← c.step-r4.ensures, ← c.bit_of-4.ensures, ← c.step-r5.ensures, ← c.bit_of-5.ensures, ← c.step-r6.ensures, ← c.bit_of-6.ensures, ← c.step-r7.ensures, ← c.bit_of-7.ensures, ← c.step.ensures, ← c.bit_of-8.ensures)
