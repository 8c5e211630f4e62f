-- Laws of the AND of two numbers, bit by bit.
use Rattle.std.specs.Prelude.{ℕ, zero, suc, ◌+◌, ◌*◌, ◌/◌, ◌%◌, ◌≤◌, min, ◌≡◌}
use Rattle.std.proofs.Common.{arith, ◌∙◌, ap, ap₂, sym}
use Rattle.std.specs.Int.Bits.{bit_and, and_step, and_self}
use Rattle.std.proofs.lemmas.Nat.{and_comm}

-- half of an AND is the AND of the halves
and_half : (a b : ℕ) → bit_and a b / 2 ≡ bit_and (a / 2) (b / 2)
and_half a b =
    let s = and_step a b in
    omega arith

-- the lowest bit of an AND is the lesser of the lowest bits
and_odd : (a b : ℕ) → bit_and a b % 2 ≡ min (a % 2) (b % 2)
and_odd a b =
    let s = and_step a b in
    omega arith

-- an AND of three, by a bound on the first
and_assoc_to : (n a b c : ℕ) → a ≤ n → bit_and (bit_and a b) c ≡ bit_and a (bit_and b c)
and_assoc_to zero a b c h =
    let z : a ≡ 0 = omega arith in
    rw z
and_assoc_to (suc n) a b c h =
    let x : bit_and (bit_and a b / 2) (c / 2) ≡ bit_and (a / 2) (bit_and b c / 2)
    = ap (λ (t : ℕ). bit_and t (c / 2)) (and_half a b) ∙ and_assoc_to n (a / 2) (b / 2) (c / 2) (omega arith) ∙ ap (bit_and (a / 2)) (sym (and_half b c)) in
    let u = and_odd a b in
    let v = and_odd b c in
    let y : min (bit_and a b % 2) (c % 2) ≡ min (a % 2) (bit_and b c % 2) = omega arith in
    and_step (bit_and a b) c ∙ ap₂ (λ (s t : ℕ). s * 2 + t) x y ∙ sym (and_step a (bit_and b c))

-- an AND of three may be taken in either order
and_assoc : (a b c : ℕ) → bit_and (bit_and a b) c ≡ bit_and a (bit_and b c)
and_assoc a b c = and_assoc_to a a b c (omega arith)

-- where no bit of x is above y's and none of y above z's, none of x is above z's
pub falls_onto : (x y z : ℕ) → bit_and x y ≡ x → bit_and y z ≡ y → bit_and x z ≡ x
falls_onto x y z e f = ap (λ (t : ℕ). bit_and t z) (sym e) ∙ and_assoc x y z ∙ ap (bit_and x) f ∙ e

-- no bit of an AND is above either number's
pub and_falls : (x b : ℕ) → bit_and (bit_and x b) x ≡ bit_and x b
and_falls x b = and_comm (bit_and x b) x ∙ sym (and_assoc x x b) ∙ ap (λ (t : ℕ). bit_and t b) (and_self x)
