use Rattle.std.proofs.Common.{rules, ◌∙◌, sym, refl}
use Rattle.base.specs.Bits.{bit_of}
use Rattle.base.specs.Turns.{turn_next, turn_last}
use Rattle.crc.specs.Crc.{poly16, crc_byte, crc_bit}
use Rattle.crc.proofs.byte16.Goals as goal

pub loop-k-init : goal.loop-k-init
unfolding crc_byte
loop-k-init c = refl

pub loop-k-preserved : goal.loop-k-preserved
loop-k-preserved c = let l = c.loop-k in cc (turn_next (λ x k. crc_bit poly16 x (bit_of c.args.b k)) 8 l.k l.sum (search rules), l.invariant)

pub returns : goal.returns
returns c = let l = c.loop-k in sym (turn_last (λ x k. crc_bit poly16 x (bit_of c.args.b k)) 8 l.k l.sum (search rules)) ∙ l.invariant
