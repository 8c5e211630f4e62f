use Rattle.std.proofs.Common.{◌≡◌}
use Rattle.base.specs.Bits.{bit_of}
use Rattle.base.specs.Turns.{turns_from}
use Rattle.crc.specs.Crc.{poly16, crc_bit, crc_byte}
use Rattle.crc.proofs.byte16.Given as goal

abbrev pub invariant-loop-k : goal.invariant-loop-k
invariant-loop-k l = turns_from (λ x k. crc_bit poly16 x (bit_of l.b k)) 8 l.k l.sum ≡ crc_byte poly16 l.x l.b
