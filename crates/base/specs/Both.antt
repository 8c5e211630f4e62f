-- Laws of the AND of two bits.
use Rattle.std.specs.Prelude.{Bool, true, false, ◌≡◌, refl}
use Rattle.std.proofs.Common.{true≢false, sym}
use Rattle.base.specs.Pick.{pick}
use Rattle.base.specs.Bits.{both}

pub both_assoc : (a b c : Bool) → both (both a b) c ≡ both a (both b c)
unfolding both pick
both_assoc true b c = refl
both_assoc false b c = refl

pub both_true : (a : Bool) → both a true ≡ a
unfolding both pick
both_true true = refl
both_true false = refl

pub both_false : (a : Bool) → both a false ≡ false
unfolding both pick
both_false true = refl
both_false false = refl

pub true_both : (a : Bool) → both true a ≡ a
unfolding both pick
true_both a = refl

-- what each says, where both hold
pub both_holds : (a b : Bool) → both a b ≡ true → (a ≡ true) × (b ≡ true)
unfolding both pick
both_holds true true e = (refl, refl)
both_holds true false e = absurd (true≢false (sym e))
both_holds false b e = absurd (true≢false (sym e))

-- both hold, where each does
pub both_true' : (a b : Bool) → a ≡ true → b ≡ true → both a b ≡ true
unfolding both pick
both_true' a b e f = rw (e, f)
