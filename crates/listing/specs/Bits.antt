-- Laws of the bits of the path below a parting.
use Rattle.std.specs.Prelude.{ℕ, ◌+◌, ◌*◌, ◌-◌, ◌/◌, ◌%◌, ◌^◌, ◌<◌, true, ◌≡◌, eqb}
use Rattle.std.proofs.Common.{arith, mod-lt, ◌∙◌, ap, sym, pow_pos}
use Rattle.std.proofs.Math.Pow.{field, mod-mod-pow, low, high}
use Rattle.base.specs.Bits.{bit_of}
use Rattle.search.specs.Host.{up_to}

-- the path below a parting and a 1 there have a 1 at the parting
pub up_own : (l c : ℕ) → bit_of (up_to l c) l ≡ true
unfolding up_to bit_of
up_own l c =
    let h : c % 2 ^ l < 2 ^ l = mod-lt c (pow_pos l) in
    let e : c % 2 ^ l + 2 ^ l ≡ 1 * 2 ^ l + c % 2 ^ l = omega arith in
    let d : (c % 2 ^ l + 2 ^ l) / 2 ^ l ≡ 1 = ap (λ (n : ℕ). n / 2 ^ l) e ∙ high 1 l h in
    rw d

-- below it they have the low bits of the path
up_low : (l c : ℕ) → up_to l c % 2 ^ l ≡ c % 2 ^ l
unfolding up_to
up_low l c =
    let h : c % 2 ^ l < 2 ^ l = mod-lt c (pow_pos l) in
    let e : c % 2 ^ l + 2 ^ l ≡ 1 * 2 ^ l + c % 2 ^ l = omega arith in
    ap (λ (n : ℕ). n % 2 ^ l) e ∙ low 1 l h

-- and as many of the low bits as are asked for
up_mod : (j k c : ℕ) → up_to (j + k) c % 2 ^ k ≡ c % 2 ^ k
up_mod j k c = sym (mod-mod-pow (up_to (j + k) c) j k) ∙ ap (λ (x : ℕ). x % 2 ^ k) (up_low (j + k) c) ∙ mod-mod-pow c j k

-- numbers whose low bits are the same have the same bit there
bit_mod : (n m k : ℕ) → n % 2 ^ (1 + k) ≡ m % 2 ^ (1 + k) → bit_of n k ≡ bit_of m k
unfolding bit_of
bit_mod n m k e = ap (λ (x : ℕ). eqb x 1) (sym (field n 1 k) ∙ ap (λ (x : ℕ). x / 2 ^ k) e ∙ field m 1 k)

-- so at a place below the parting they have the path's bit
pub up_below : (l c k : ℕ) → k < l → bit_of (up_to l c) k ≡ bit_of c k
up_below l c k h =
    let e : (l - (1 + k)) + (1 + k) ≡ l = omega arith in
    rw (← e) (bit_mod _ _ k (up_mod (l - (1 + k)) (1 + k) c))
