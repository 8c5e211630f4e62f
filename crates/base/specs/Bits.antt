-- Bits of numbers, and registers that take a number bit by bit.
use Rattle.std.specs.Prelude.{ℕ, ◌+◌, ◌/◌, ◌%◌, ◌^◌, ◌<◌, ◌≤◌, ◌≡◌, Bool, false, not, eqb}
use Rattle.std.proofs.Math.Nat.{div-eq_of_lt}
use Rattle.std.proofs.Common.{lt_of_lt_of_le, pow_mono}
use Rattle.base.specs.Pick.{pick}

-- bit k of n, the least significant being bit 0
unfoldable pub bit_of : ℕ → ℕ → Bool
bit_of n k = eqb (n / 2 ^ k % 2) 1

-- two bits are the same
unfoldable pub same : Bool → Bool → Bool
same a b = pick a b (not b)

-- both bits are 1
unfoldable pub both : Bool → Bool → Bool
both a b = pick a b false

-- the bit v enters a register from the top, where top is the worth of its highest place; so after as many bits
-- as the register has places it holds the number whose bits came, least significant first
unfoldable pub filled : ℕ → ℕ → Bool → ℕ
filled top bits v = pick v (bits / 2 + top) (bits / 2)

-- a number of 64 bits has no bit past them
pub bit_past : (n k : ℕ) → n < 2 ^ 64 → 64 ≤ k → false ≡ bit_of n k
unfolding bit_of
bit_past n k h p =
    let z : n / 2 ^ k ≡ 0 = div-eq_of_lt (lt_of_lt_of_le h (pow_mono p)) in
    rw z
