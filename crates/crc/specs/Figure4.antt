-- Document 02, M-101: the CRC generator that the sheet draws in its figure 4 (003; 000, 001 and 004 have the same one), eight stages
-- between X^0 and X^8. Quoted is the request, which puts the drawing into words.
use Rattle.std.specs.Prelude.{ℕ, ◌+◌, Bool, false, List, [], ◌∷◌}
use Rattle.std.specs.Bool.{xor}
use Rattle.base.specs.Pick.{pick}
use Rattle.base.specs.Bits.{bit_of}
use Rattle.crc.specs.Code.{first_seven}
use Rattle.crc.specs.declared.figure4.ShiftRegister.{ShiftRegister}

-- the stages "start as 0"
abbrev pub cleared : ShiftRegister
cleared = record {
  stage1 = false;
  stage2 = false;
  stage3 = false;
  stage4 = false;
  stage5 = false;
  stage6 = false;
  stage7 = false;
  stage8 = false;
}

-- one bit: "the feedback is the 8th stage XOR the input bit. It goes into stage 1 (at X^0), and it is XORed into what stage 5
-- takes from stage 4 (at X^4) and into what stage 6 takes from stage 5 (at X^5). Every other stage takes the one before it."
unfoldable pub drawn_bit : ShiftRegister → Bool → ShiftRegister
drawn_bit r input =
    let feedback : Bool = xor r.stage8 input in
    record {
      stage1 = feedback;  -- at X^0
      stage2 = r.stage1;
      stage3 = r.stage2;
      stage4 = r.stage3;
      stage5 = xor r.stage4 feedback;  -- at X^4
      stage6 = xor r.stage5 feedback;  -- at X^5
      stage7 = r.stage6;
      stage8 = r.stage7;
    }

-- "Bits enter least significant first": the eight bits of a byte
unfoldable pub drawn_byte : ShiftRegister → ℕ → ShiftRegister
drawn_byte r b =
    drawn_bit (drawn_bit (drawn_bit (drawn_bit (drawn_bit (drawn_bit (drawn_bit (drawn_bit
    r (bit_of b 0)) (bit_of b 1)) (bit_of b 2)) (bit_of b 3)) (bit_of b 4)) (bit_of b 5)) (bit_of b 6)) (bit_of b 7)

-- a run of bytes
unfoldable pub drawn_of : ShiftRegister → List ℕ → ShiftRegister
drawn_of r [] = r
drawn_of r (b ∷ bs) = drawn_of (drawn_byte r b) bs

-- "the family byte first: 56 bits for a code"
unfoldable pub drawn_code : ℕ → ShiftRegister
drawn_code code = drawn_of cleared (first_seven code)

-- "Stage 8 is bit 0, since it leaves first; stage 1 is bit 7."
unfoldable pub as_byte : ShiftRegister → ℕ
as_byte r =
    pick r.stage1 0x80 0 + pick r.stage2 0x40 0 + pick r.stage3 0x20 0 + pick r.stage4 0x10 0
    + pick r.stage5 0x08 0 + pick r.stage6 0x04 0 + pick r.stage7 0x02 0 + pick r.stage8 0x01 0

-- the register that reads as the byte x
unfoldable pub stages_of : ℕ → ShiftRegister
stages_of x = record {
  stage1 = bit_of x 7;
  stage2 = bit_of x 6;
  stage3 = bit_of x 5;
  stage4 = bit_of x 4;
  stage5 = bit_of x 3;
  stage6 = bit_of x 2;
  stage7 = bit_of x 1;
  stage8 = bit_of x 0;
}
