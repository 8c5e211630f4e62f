-- Laws: a register that takes the bits of a number, least significant first, holds the number.
use Rattle.std.specs.Prelude.{ℕ, zero, suc, ◌+◌, ◌*◌, ◌/◌, ◌%◌, ◌^◌, ◌<◌, Bool, List, [], ◌∷◌, ◌≡◌, refl, eqb}
use Rattle.std.proofs.Common.{arith, zero-add, zero-mul, mul-one, mul_comm, mul_assoc, add-mul, add_comm, suc-add, mod-eq_of_lt, ◌∙◌, ap, sym, pow-add}
use Rattle.std.proofs.Math.Nat.{two-pow-succ}
use Rattle.std.specs.Int.Bits.{shifted_half}
use Rattle.std.proofs.lemmas.Nat.{mod-pow-add}
use Rattle.base.specs.Pick.{pick}
use Rattle.base.specs.Bits.{bit_of, filled}
use Rattle.histories.specs.Sent.{bits_from}

-- a register after these bits
abbrev pub filled_by : ℕ → ℕ → List Bool → ℕ
filled_by top x [] = x
filled_by top x (v ∷ vs) = filled_by top (filled top x v) vs

-- one bit, as a number
filled_bit : (top x n j : ℕ) → filled top x (bit_of n j) ≡ x / 2 + top * (n / 2 ^ j % 2)
unfolding filled bit_of pick
filled_bit top x n j = go (n / 2 ^ j % 2) (omega arith)
  where
    go : (y : ℕ) → y < 2 → pick (eqb y 1) (x / 2 + top) (x / 2) ≡ x / 2 + top * y
    go zero h = omega arith
    go (suc zero) h = omega arith
    go (suc (suc y)) h = absurd (omega arith)

-- a sum of products, regrouped
regroup : (x y p q : ℕ) → y * p + p * q * x ≡ (x * q + y) * p
regroup x y p q =
    let a : p * q * x ≡ x * q * p = mul_comm (p * q) x ∙ ap (λ (z : ℕ). x * z) (mul_comm p q) ∙ sym (mul_assoc x q p) in
    rw (add-mul, a) (add_comm (y * p) (x * q * p))

-- the worth of the top place
half_of : (k j top : ℕ) → top * 2 ≡ 2 ^ (suc k + j) → top ≡ 2 ^ k * 2 ^ j
half_of k j top e =
    let a : 2 ^ (suc k + j) ≡ 2 ^ (k + j) + 2 ^ (k + j) = ap (λ (n : ℕ). 2 ^ n) (suc-add k j) ∙ two-pow-succ (k + j) in
    let b : top ≡ 2 ^ (k + j) = omega arith in
    b ∙ pow-add 2 k j

-- a register of k + j places that holds the j low bits of n at its top takes the next k
filled-from : (k j top n : ℕ) → top * 2 ≡ 2 ^ (k + j) → filled_by top (n % 2 ^ j * 2 ^ k) (bits_from k j n) ≡ n % 2 ^ (k + j)
filled-from zero j top n e = rw zero-add (mul-one (n % 2 ^ j))
filled-from (suc k) j top n e =
    let x : filled top (n % 2 ^ j * 2 ^ suc k) (bit_of n j) ≡ n % 2 ^ (j + 1) * 2 ^ k
    = filled_bit top (n % 2 ^ j * 2 ^ suc k) n j
    ∙ ap (λ (z : ℕ). z + top * (n / 2 ^ j % 2)) (shifted_half (n % 2 ^ j) k)
    ∙ ap (λ (z : ℕ). n % 2 ^ j * 2 ^ k + z * (n / 2 ^ j % 2)) (half_of k j top e)
    ∙ regroup (n / 2 ^ j % 2) (n % 2 ^ j) (2 ^ k) (2 ^ j)
    ∙ ap (λ (z : ℕ). z * 2 ^ k) (sym (mod-pow-add n 1 j) ∙ ap (λ (z : ℕ). n % 2 ^ z) (add_comm 1 j)) in
    let s : suc k + j ≡ k + (j + 1) = omega arith in
    ap (λ (z : ℕ). filled_by top z (bits_from k (j + 1) n)) x
    ∙ filled-from k (j + 1) top n (e ∙ ap (λ (z : ℕ). 2 ^ z) s)
    ∙ ap (λ (z : ℕ). n % 2 ^ z) (sym s)

-- from an empty register
filled_whole : (k top n : ℕ) → top * 2 ≡ 2 ^ (k + 0) → n < 2 ^ (k + 0) → filled_by top 0 (bits_from k 0 n) ≡ n
filled_whole k top n e h =
    let a : 0 ≡ n % 2 ^ 0 * 2 ^ k = let z : n % 1 ≡ 0 = omega arith in rw z (sym (zero-mul (2 ^ k))) in
    ap (λ (z : ℕ). filled_by top z (bits_from k 0 n)) a ∙ filled-from k 0 top n e ∙ mod-eq_of_lt h

-- a register of 8 places takes a byte
pub byte_taken : (b : ℕ) → b < 256 → filled_by 0x80 0 (bits_from 8 0 b) ≡ b
byte_taken b h = filled_whole 8 0x80 b refl h

-- a register of 16 places takes an address
pub address_taken : (t : ℕ) → t < 0x10000 → filled_by 0x8000 0 (bits_from 16 0 t) ≡ t
address_taken t h = filled_whole 16 0x8000 t refl h
