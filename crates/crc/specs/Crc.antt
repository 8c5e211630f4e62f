-- Document 01, "Codes and check sums": the two check sums, bit by bit, least significant bit first, start 0.
use Rattle.std.specs.Prelude.{ℕ, ◌+◌, ◌-◌, ◌/◌, ◌^◌, Bool, List, [], ◌∷◌}
use Rattle.std.specs.Int.Bits.{bit_xor}
use Rattle.base.specs.Pick.{pick}
use Rattle.base.specs.Bits.{bit_of, same}

-- "X^8+X^5+X^4+1" as the register sees it: the lowest power at the top place, and X^8 is the bit that comes back
abbrev pub poly8 : ℕ
poly8 = 2 ^ (7 - 0) + 2 ^ (7 - 4) + 2 ^ (7 - 5)

-- "X^16+X^15+X^2+1", likewise
abbrev pub poly16 : ℕ
poly16 = 2 ^ (15 - 0) + 2 ^ (15 - 2) + 2 ^ (15 - 15)

-- the bit v meets the bit that leaves the register x; where they differ, the polynomial is added to what is left
unfoldable pub crc_bit : ℕ → ℕ → Bool → ℕ
crc_bit poly x v = pick (same (bit_of x 0) v) (x / 2) (bit_xor (x / 2) poly)

-- the eight bits of a byte, bit 0 first
unfoldable pub crc_byte : ℕ → ℕ → ℕ → ℕ
crc_byte poly x b =
    crc_bit poly (crc_bit poly (crc_bit poly (crc_bit poly (crc_bit poly (crc_bit poly (crc_bit poly (crc_bit poly
    x (bit_of b 0)) (bit_of b 1)) (bit_of b 2)) (bit_of b 3)) (bit_of b 4)) (bit_of b 5)) (bit_of b 6)) (bit_of b 7)

-- a run of bytes
unfoldable pub crc_of : ℕ → ℕ → List ℕ → ℕ
crc_of poly x [] = x
crc_of poly x (b ∷ bs) = crc_of poly (crc_byte poly x b) bs
