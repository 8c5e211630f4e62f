-- Laws: T and E/S, bit by bit, are the bytes TA1, TA2 and E/S.
use Rattle.std.specs.Prelude.{ℕ, zero, suc, ◌+◌, ◌*◌, ◌/◌, ◌%◌, ◌^◌, ◌<◌, [], ◌∷◌, ◌++◌, ◌≡◌, refl}
use Rattle.std.proofs.Common.{arith, ◌∙◌, ap, sym}
use Rattle.base.specs.Bits.{bit_of}
use Rattle.base.specs.Low.{bit_low, bit_high}
use Rattle.histories.specs.Sent.{bits_from, bits_of}

-- so many low bits are those of the number
bits_low : (k p n : ℕ) → bits_from k p (n % 2 ^ (k + p)) ≡ bits_from k p n
bits_low zero p n = refl
bits_low (suc k) p n =
    let a : suc k + p ≡ k + 1 + p = omega arith in
    let b : suc k + p ≡ k + (p + 1) = omega arith in
    let first = ap (λ (x : ℕ). bit_of (n % 2 ^ x) p) a ∙ bit_low n k p in
    let rest = ap (λ (x : ℕ). bits_from k (p + 1) (n % 2 ^ x)) b ∙ bits_low k (p + 1) n in
    λ j. first j ∷ rest j

-- bits from a higher place on are those of a quotient
bits_high : (k p i n : ℕ) → bits_from k (i + p) n ≡ bits_from k p (n / 2 ^ i)
bits_high zero p i n = refl
bits_high (suc k) p i n =
    let a : i + p + 1 ≡ i + (p + 1) = omega arith in
    let first = bit_high n i p in
    let rest = ap (λ (x : ℕ). bits_from k x n) a ∙ bits_high k (p + 1) i n in
    λ j. first j ∷ rest j

-- a byte below others
low_byte : (b high : ℕ) → b < 256 → (b + 256 * high) % 256 ≡ b
low_byte b high h = omega arith

-- "Registers: T, 16 bits; E/S": 24 bits, and three bytes
pub register_bits : (t es : ℕ) → t < 0x10000 → bits_from 24 0 (t + 65536 * es) ≡ bits_of (t % 256 ∷ t / 256 ∷ es ∷ [])
register_bits t es h =
    let n = t + 65536 * es in
    let x : n % 256 ≡ t % 256 = omega arith in
    let q : n / 256 ≡ t / 256 + 256 * es = omega arith in
    let y : n / 256 % 256 ≡ t / 256 = ap (λ (k : ℕ). k % 256) q ∙ low_byte (t / 256) es (omega arith) in
    let z : n / 65536 ≡ es = omega arith in
    let a : bits_from 8 0 n ≡ bits_from 8 0 (t % 256) = sym (bits_low 8 0 n) ∙ ap (bits_from 8 0) x in
    let b : bits_from 8 8 n ≡ bits_from 8 0 (t / 256) = bits_high 8 0 8 n ∙ sym (bits_low 8 0 (n / 256)) ∙ ap (bits_from 8 0) y in
    let d : bits_from 8 16 n ≡ bits_from 8 0 es = bits_high 8 0 16 n ∙ ap (bits_from 8 0) z in
    λ j. a j ++ (b j ++ (d j ++ []))
