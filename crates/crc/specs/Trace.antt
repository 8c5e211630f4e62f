-- Laws: a trace to check figure 4 by.
use Rattle.std.specs.Prelude.{ℕ, Bool, List, [], ◌∷◌, ◌≡◌, refl}
use Rattle.std.proofs.Math.Bool.{xor}
use Rattle.base.specs.Bits.{bit_of}
use Rattle.base.specs.Pick.{pick}
use Rattle.crc.specs.Figure4.{cleared, drawn_bit, as_byte}
use Rattle.crc.specs.declared.figure4.ShiftRegister.{ShiftRegister}

-- the register read as a byte after each of these bits
abbrev pub trace : ShiftRegister → List Bool → List ℕ
trace r [] = []
trace r (v ∷ vs) = as_byte (drawn_bit r v) ∷ trace (drawn_bit r v) vs

-- the byte 01h, bit 0 first
pub trace_of_01h : trace cleared (bit_of 0x01 0 ∷ bit_of 0x01 1 ∷ bit_of 0x01 2 ∷ bit_of 0x01 3 ∷ bit_of 0x01 4 ∷ bit_of 0x01 5 ∷ bit_of 0x01 6 ∷ bit_of 0x01 7 ∷ []) ≡ 0x8C ∷ 0x46 ∷ 0x23 ∷ 0x9D ∷ 0xC2 ∷ 0x61 ∷ 0xBC ∷ 0x5E ∷ []
unfolding drawn_bit as_byte bit_of pick xor
trace_of_01h = refl
