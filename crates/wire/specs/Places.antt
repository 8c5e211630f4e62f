-- Laws: places in a text.
use Rattle.std.specs.Prelude.{ℕ, ◌+◌, ◌-◌, ◌<◌, ◌≤◌}
use Rattle.std.proofs.Common.{arith}

-- a text goes on after a place in it
pub place_fits : (n : ℕ) → n < 9223372036854775808 → n + 1 < 18446744073709551616
place_fits n h = omega arith

-- and less of it is left there
pub less_left : (l n i : ℕ) → i < l → i ≤ n → l - (n + 1) < l - i
less_left l n i h k = omega arith
