-- Laws: the bits of a number, place by place.
use Rattle.std.specs.Prelude.{ℕ, zero, suc, ◌+◌, ◌*◌, ◌/◌, ◌%◌, ◌^◌, ◌<◌, true, false, ◌≡◌, eqb}
use Rattle.std.proofs.Common.{arith, add_comm, ◌∙◌, ap, sym, shr-shr, eqb-true}
use Rattle.std.proofs.Math.Nat.{div-eq_of_lt, mod-one}
use Rattle.std.proofs.lemmas.Nat.{mod-pow-add}
use Rattle.std.proofs.Math.Pow.{field, mod-mod-pow}
use Rattle.std.proofs.lemmas.Bool.{eqb-false}
use Rattle.base.specs.Bits.{bit_of}

-- a number has no bit past its highest
pub bit_none : (n k : ℕ) → n < 2 ^ k → bit_of n k ≡ false
unfolding bit_of
bit_none n k h = let z : n / 2 ^ k ≡ 0 = div-eq_of_lt h in rw z

-- a bit is one of the low bits
pub bit_low : (n j k : ℕ) → bit_of (n % 2 ^ (j + 1 + k)) k ≡ bit_of n k
unfolding bit_of
bit_low n j k = ap (λ (x : ℕ). eqb (x % 2) 1) (field n (j + 1) k) ∙ ap (λ (x : ℕ). eqb x 1) (mod-mod-pow (n / 2 ^ k) j 1)

-- a bit at a higher place is one of a quotient
pub bit_high : (n i k : ℕ) → bit_of n (i + k) ≡ bit_of (n / 2 ^ i) k
unfolding bit_of
bit_high n i k = ap (λ (x : ℕ). eqb (x % 2) 1) (sym (shr-shr n i k))

-- the low k + 1 bits of a number are bit k and the low k bits
mod_next : (x k : ℕ) → x % 2 ^ (k + 1) ≡ x / 2 ^ k % 2 * 2 ^ k + x % 2 ^ k
mod_next x k = ap (λ (n : ℕ). x % 2 ^ n) (add_comm k 1) ∙ mod-pow-add x 1 k

-- where bit k is 1
pub mod_next_one : (x k : ℕ) → bit_of x k ≡ true → x % 2 ^ (k + 1) ≡ x % 2 ^ k + 2 ^ k
unfolding bit_of
mod_next_one x k h =
    let e : x / 2 ^ k % 2 ≡ 1 = eqb-true _ _ h in
    mod_next x k ∙ rw e (omega arith)

-- where bit k is 0
pub mod_next_zero : (x k : ℕ) → bit_of x k ≡ false → x % 2 ^ (k + 1) ≡ x % 2 ^ k
unfolding bit_of
mod_next_zero x k h =
    let n : x / 2 ^ k % 2 ≡ 1 → ⊥ = eqb-false _ _ h in
    let e : x / 2 ^ k % 2 ≡ 0 = omega arith in
    mod_next x k ∙ rw e (omega arith)

-- where none of the low n bits is 1, they are the number 0
pub no_bits : (x n : ℕ) → ((k : ℕ) → k < n → bit_of x k ≡ false) → x % 2 ^ n ≡ 0
no_bits x zero f = mod-one x
no_bits x (suc n) f =
    let e : suc n ≡ n + 1 = omega arith in
    rw e (mod_next_zero x n (f n (omega arith)) ∙ no_bits x n (λ k h. f k (omega arith)))
