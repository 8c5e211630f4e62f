-- Laws: the bytes of a code.
use Rattle.std.specs.Prelude.{ℕ, ◌*◌, ◌/◌, ◌^◌, ◌<◌, ◌≤◌, ◌≡◌}
use Rattle.std.proofs.Common.{arith, lt_of_lt_of_le, pow_mono}
use Rattle.std.proofs.Math.Nat.{div-eq_of_lt}
use Rattle.crc.specs.Code.{byte_of}

-- a number of 64 bits has no byte past the eighth
pub byte_past : (code k : ℕ) → code < 2 ^ 64 → 8 ≤ k → 0 ≡ byte_of code k
unfolding byte_of
byte_past code k h p =
    let q : 64 ≤ 8 * k = omega arith in
    let z : code / 2 ^ (8 * k) ≡ 0 = div-eq_of_lt (lt_of_lt_of_le h (pow_mono q)) in
    rw z
