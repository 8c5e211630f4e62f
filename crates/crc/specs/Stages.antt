-- Laws: a register and the byte that it reads as.
use Rattle.std.specs.Prelude.{ℕ, ◌<◌, Bool, true, ◌≡◌, refl, eqb}
use Rattle.std.proofs.Common.{eqb-true}
use Rattle.base.specs.Pick.{pick}
use Rattle.base.specs.Bits.{bit_of, both, same, filled}
use Rattle.base.specs.Same.{same_bit}
use Rattle.crc.specs.Every.{every_register, at_each_register, at_each_below}
use Rattle.crc.specs.Figure4.{as_byte, stages_of}
use Rattle.crc.specs.declared.figure4.ShiftRegister.{ShiftRegister}

-- the stages, as they leave, fill a byte
unfoldable pub as_they_leave : ShiftRegister → ℕ
as_they_leave r =
    filled 0x80 (filled 0x80 (filled 0x80 (filled 0x80 (filled 0x80 (filled 0x80 (filled 0x80 (filled 0x80
    0 r.stage8) r.stage7) r.stage6) r.stage5) r.stage4) r.stage3) r.stage2) r.stage1

-- it is the byte that the register reads as
pub leave_as_byte : (r : ShiftRegister) → as_they_leave r ≡ as_byte r
unfolding as_they_leave as_byte filled pick both
leave_as_byte r =
    eqb-true (as_they_leave r) (as_byte r) (at_each_register (λ (q : ShiftRegister). eqb (as_they_leave q) (as_byte q)) refl r)

-- the stages of a byte read as that byte
pub byte_of_stages : (x : ℕ) → x < 256 → as_byte (stages_of x) ≡ x
unfolding as_byte stages_of bit_of both pick
byte_of_stages x h =
    eqb-true (as_byte (stages_of x)) x (at_each_below 256 (λ (y : ℕ). eqb (as_byte (stages_of y)) y) refl x h)

-- a place of the byte that a register reads as is the stage that stands there
place_is : (k : ℕ) (stage : ShiftRegister → Bool) → every_register (λ (q : ShiftRegister). same (bit_of (as_byte q) k) (stage q)) ≡ true → (r : ShiftRegister) → bit_of (as_byte r) k ≡ stage r
place_is k stage e r =
    same_bit (bit_of (as_byte r) k) (stage r)
    (at_each_register (λ (q : ShiftRegister). same (bit_of (as_byte q) k) (stage q)) e r)

-- the stages of the byte that a register reads as are its own
pub stages_of_byte : (r : ShiftRegister) → stages_of (as_byte r) ≡ r
unfolding stages_of as_byte bit_of same both pick
stages_of_byte r = λ j. record {
  stage1 = place_is 7 (λ (q : ShiftRegister). q.stage1) refl r j;
  stage2 = place_is 6 (λ (q : ShiftRegister). q.stage2) refl r j;
  stage3 = place_is 5 (λ (q : ShiftRegister). q.stage3) refl r j;
  stage4 = place_is 4 (λ (q : ShiftRegister). q.stage4) refl r j;
  stage5 = place_is 3 (λ (q : ShiftRegister). q.stage5) refl r j;
  stage6 = place_is 2 (λ (q : ShiftRegister). q.stage6) refl r j;
  stage7 = place_is 1 (λ (q : ShiftRegister). q.stage7) refl r j;
  stage8 = place_is 0 (λ (q : ShiftRegister). q.stage8) refl r j;
}
