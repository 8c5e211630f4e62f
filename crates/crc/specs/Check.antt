-- Laws: what the check of a code answers, exactly when; and why it has a third answer.
use Rattle.std.specs.Prelude.{ℕ, ◌^◌, ◌<◌, false, [], ◌∷◌, ◌≡◌, refl}
use Rattle.std.proofs.Common.{arith, mod-eq_of_lt, ◌∙◌, ap, sym, pow_pos}
use Rattle.base.specs.Pick.{pick}
use Rattle.base.specs.Exactly.{Iff, then_exactly, both_exactly, equal_exactly, unequal_exactly, apart, by_else, by_first, by_left, by_neither}
use Rattle.base.specs.Bits.{bit_of, same}
use Rattle.base.specs.Low.{bit_none, no_bits}
use Rattle.crc.specs.Crc.{poly8, crc_bit, crc_byte, crc_of}
use Rattle.crc.specs.Code.{byte_of, code_crc, check_of}
use Rattle.crc.specs.declared.CodeCheck.{CodeCheck}
use Rattle.crc.specs.declared.CodeCheck.TheVariants.{Good, Bad, AllZeros}

-- Document 02, M-104: "a code of zeros, which passes the CRC": the CRC-8 of seven zeros is 0, and the eighth byte of that code is its CRC
pub zeros_pass : (crc_of poly8 0 (0 ∷ 0 ∷ 0 ∷ 0 ∷ 0 ∷ 0 ∷ 0 ∷ []) ≡ 0) × (code_crc 0 ≡ byte_of 0 7)
unfolding crc_of code_crc byte_of crc_byte crc_bit bit_of same pick
zeros_pass = (refl, refl)

-- the sorts of answers, by number
sort : CodeCheck → ℕ
sort Good = 0
sort Bad = 1
sort AllZeros = 2

-- all zeros exactly if the code is 0
pub zero_exactly : (code : ℕ) → Iff (check_of code ≡ AllZeros) (code ≡ 0)
unfolding check_of sort
zero_exactly code =
    then_exactly
    (by_first _ _ _ (by_neither _ _ _ _ (apart sort _ _ (λ e. omega arith)) (apart sort _ _ (λ e. omega arith))))
    (equal_exactly _ _)

-- the same place by place: all zeros exactly if each of the 64 bits is 0
pub zero_bits : (code : ℕ) → code < 2 ^ 64 → Iff (check_of code ≡ AllZeros) ((k : ℕ) → k < 64 → bit_of code k ≡ false)
zero_bits code small = (
  (λ e k h. ap (λ (n : ℕ). bit_of n k) ((zero_exactly code).0 e) ∙ bit_none 0 k (pow_pos k)),
  (λ f. (zero_exactly code).1 (sym (mod-eq_of_lt small) ∙ no_bits code 64 f)),
)

-- good exactly if the code is not 0 and its eighth byte is the CRC of the first seven
pub good_exactly : (code : ℕ) → Iff (check_of code ≡ Good) ((code ≡ 0 → ⊥) × (code_crc code ≡ byte_of code 7))
unfolding check_of sort
good_exactly code =
    then_exactly
    (by_left _ _ _ _ _ (apart sort _ _ (λ e. omega arith)) (by_first _ _ _ (apart sort _ _ (λ e. omega arith))))
    (both_exactly (unequal_exactly _ _) (equal_exactly _ _))

-- bad exactly if the code is not 0 and its eighth byte is another
pub bad_exactly : (code : ℕ) → Iff (check_of code ≡ Bad) ((code ≡ 0 → ⊥) × (code_crc code ≡ byte_of code 7 → ⊥))
unfolding check_of sort
bad_exactly code =
    then_exactly
    (by_left _ _ _ _ _ (apart sort _ _ (λ e. omega arith)) (by_else _ _ _ (apart sort _ _ (λ e. omega arith))))
    (both_exactly (unequal_exactly _ _) (unequal_exactly _ _))

-- so the code of ones is bad
pub ones_bad : check_of 0xFFFFFFFFFFFFFFFF ≡ Bad
unfolding check_of code_crc byte_of crc_of crc_byte crc_bit bit_of same pick
ones_bad = refl
