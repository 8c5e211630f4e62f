-- Laws: two choices by the same test.
use Rattle.std.specs.Prelude.{Bool, true, false, ◌≡◌, refl}
use Rattle.std.proofs.Common.{◌∙◌, ap, sym}
use Rattle.base.specs.Pick.{pick, pick_true, pick_false}

-- one is a function of the other, where each of its ways is, with what is known of the test
pub pick_like : {A B : Type 0} (f : A → B) (t' t : Bool) (a' b' : B) (a b : A) → t' ≡ t → (t ≡ true → a' ≡ f a) → (t ≡ false → b' ≡ f b) → pick t' a' b' ≡ f (pick t a b)
pick_like f t' true a' b' a b e g h = pick_true _ _ _ e ∙ g refl ∙ ap f (sym (pick_true _ _ _ refl))
pick_like f t' false a' b' a b e g h = pick_false _ _ _ e ∙ h refl ∙ ap f (sym (pick_false _ _ _ refl))

-- both are the same, where their ways are
pub pick_ways : {A : Type 0} (t : Bool) (a b c d : A) → (t ≡ true → a ≡ c) → (t ≡ false → b ≡ d) → pick t a b ≡ pick t c d
pick_ways {A} t a b c d = pick_like (λ (x : A). x) t t a b c d refl
