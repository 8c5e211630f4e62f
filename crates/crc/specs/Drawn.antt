-- Laws: the register of figure 4, read as a byte, is the CRC-8 by its polynomial: for a bit, a byte, a run of bytes, a code.
use Rattle.std.specs.Prelude.{ℕ, Bool, true, false, List, [], ◌∷◌, ◌≡◌, refl, eqb}
use Rattle.std.proofs.Math.Bool.{xor}
use Rattle.std.proofs.Common.{◌∙◌, ap, eqb-true}
use Rattle.base.specs.Pick.{pick}
use Rattle.base.specs.Bits.{bit_of, same, both}
use Rattle.crc.specs.Crc.{poly8, crc_bit, crc_byte, crc_of}
use Rattle.crc.specs.Code.{first_seven, code_crc}
use Rattle.crc.specs.Every.{at_each_register}
use Rattle.crc.specs.Figure4.{cleared, drawn_bit, drawn_byte, drawn_of, drawn_code, as_byte}
use Rattle.crc.specs.declared.figure4.ShiftRegister.{ShiftRegister}

-- one bit: computed for each of the 256 registers and both bits
pub drawn_is_poly8 : (r : ShiftRegister) (v : Bool) → as_byte (drawn_bit r v) ≡ crc_bit poly8 (as_byte r) v
unfolding drawn_bit as_byte crc_bit pick same bit_of both xor
drawn_is_poly8 r true =
    eqb-true (as_byte (drawn_bit r true)) (crc_bit poly8 (as_byte r) true)
    (at_each_register (λ (q : ShiftRegister). eqb (as_byte (drawn_bit q true)) (crc_bit poly8 (as_byte q) true)) refl r)
drawn_is_poly8 r false =
    eqb-true (as_byte (drawn_bit r false)) (crc_bit poly8 (as_byte r) false)
    (at_each_register (λ (q : ShiftRegister). eqb (as_byte (drawn_bit q false)) (crc_bit poly8 (as_byte q) false)) refl r)

-- one byte, from one bit
pub drawn-byte : (r : ShiftRegister) (b : ℕ) → as_byte (drawn_byte r b) ≡ crc_byte poly8 (as_byte r) b
unfolding drawn_byte crc_byte
drawn-byte r b = simp drawn_is_poly8

-- a run of bytes, from one byte
pub drawn_run : (r : ShiftRegister) (bs : List ℕ) → as_byte (drawn_of r bs) ≡ crc_of poly8 (as_byte r) bs
unfolding drawn_of crc_of
drawn_run r [] = refl
drawn_run r (b ∷ bs) = drawn_run (drawn_byte r b) bs ∙ ap (λ (x : ℕ). crc_of poly8 x bs) (drawn-byte r b)

-- a run of bytes from the start
pub drawn_from_0 : (bs : List ℕ) → as_byte (drawn_of cleared bs) ≡ crc_of poly8 0 bs
unfolding as_byte pick
drawn_from_0 bs = drawn_run cleared bs

-- the seven bytes of a code, from a run of bytes
pub drawn-code : (code : ℕ) → as_byte (drawn_code code) ≡ code_crc code
unfolding drawn_code code_crc
drawn-code code = drawn_from_0 (first_seven code)
