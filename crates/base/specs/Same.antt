-- Laws of two bits that are the same.
use Rattle.std.specs.Prelude.{Bool, true, false, ◌≡◌, refl}
use Rattle.std.proofs.Common.{sym}
use Rattle.base.specs.Pick.{pick}
use Rattle.base.specs.Bits.{same}

-- bits that are found the same are equal
pub same_bit : (a b : Bool) → same a b ≡ true → a ≡ b
unfolding same pick
same_bit true true e = refl
same_bit true false e = sym e
same_bit false true e = e
same_bit false false e = refl

-- a bit is the same as itself
pub same_own : (a : Bool) → same a a ≡ true
unfolding same pick
same_own true = refl
same_own false = refl
