-- A choice by a test, and the laws by which a proof takes it apart.
use Rattle.std.specs.Prelude.{◌≡◌, refl, Bool, true, false}

-- the first where the test is true, else the second
unfoldable pub pick {ℓ} : {A : Type ℓ} → Bool → A → A → A
pick true a b = a
pick false a b = b

pub pick_true {ℓ} : {A : Type ℓ} (t : Bool) (a b : A) → t ≡ true → pick t a b ≡ a
unfolding pick
pick_true t a b e = rw e

pub pick_false {ℓ} : {A : Type ℓ} (t : Bool) (a b : A) → t ≡ false → pick t a b ≡ b
unfolding pick
pick_false t a b e = rw e

-- a choice between one and the same
pub pick_same {ℓ} : {A : Type ℓ} (t : Bool) (a : A) → pick t a a ≡ a
unfolding pick
pick_same true a = refl
pick_same false a = refl

-- a function of a choice is the choice of what it gives
pub pick_of {ℓ ℓ'} : {A : Type ℓ} {B : Type ℓ'} (f : A → B) (t : Bool) (a b : A) → f (pick t a b) ≡ pick t (f a) (f b)
unfolding pick
pick_of f true a b = refl
pick_of f false a b = refl

-- a choice has what both its ways have, each with what is known of the test
pub pick_if {ℓ ℓ'} : {A : Type ℓ} (P : A → Type ℓ') (t : Bool) (a b : A) → (t ≡ true → P a) → (t ≡ false → P b) → P (pick t a b)
unfolding pick
pick_if P true a b f g = f refl
pick_if P false a b f g = g refl

pub pick_both {ℓ ℓ'} : {A : Type ℓ} (P : A → Type ℓ') (t : Bool) (a b : A) → P a → P b → P (pick t a b)
pick_both P t a b p q = pick_if P t a b (λ e. p) (λ e. q)
