-- Laws: what holds exactly when; a chain of choices, and when it comes to each of its ends.
use Rattle.std.specs.Prelude.{ℕ, Bool, true, false, ◌⊎◌, ◌≡◌, refl, eqb}
use Rattle.std.proofs.Common.{true≢false, inl, inr, ap, sym, eqb-true, eq-eqb, ne_eqb}
use Rattle.std.proofs.lemmas.Bool.{eqb-false}
use Rattle.base.specs.Pick.{pick}

-- each exactly when the other
abbrev pub Iff : Type 0 → Type 0 → Type 0
Iff A B = (A → B) × (B → A)

-- it does not hold
abbrev pub No : Type 0 → Type 0
No A = A → ⊥

-- a thing exactly when itself
pub itself : {A : Type 0} → Iff A A
itself = ((λ a. a), (λ a. a))

-- the first exactly when the second, and the second exactly when the third: the first exactly when the third
pub then_exactly : {A B C : Type 0} → Iff A B → Iff B C → Iff A C
then_exactly i j = ((λ a. j.0 (i.0 a)), (λ c. i.1 (j.1 c)))

-- two things hold together exactly when two others do, each exactly when its own
pub both_exactly : {A B C D : Type 0} → Iff A C → Iff B D → Iff (A × B) (C × D)
both_exactly i j = ((λ p. (i.0 p.0, j.0 p.1)), (λ p. (i.1 p.0, j.1 p.1)))

-- one of two things holds exactly when one of two others does, each exactly when its own
pub or_exactly : {A B C D : Type 0} → Iff A C → Iff B D → Iff (A ⊎ B) (C ⊎ D)
or_exactly {A} {B} {C} {D} i j = (there, back)
  where
    there : A ⊎ B → C ⊎ D
    there (inl a) = inl (i.0 a)
    there (inr b) = inr (j.0 b)

    back : C ⊎ D → A ⊎ B
    back (inl c) = inl (i.1 c)
    back (inr d) = inr (j.1 d)

-- a test fails exactly when it does not hold
pub no_exactly : (t : Bool) → Iff (t ≡ false) (No (t ≡ true))
no_exactly true = ((λ e. absurd (true≢false e)), (λ n. absurd (n refl)))
no_exactly false = ((λ e f. true≢false (sym f)), (λ n. refl))

-- a test of two numbers holds exactly when they are equal, and fails exactly when they are not
pub equal_exactly : (a b : ℕ) → Iff (eqb a b ≡ true) (a ≡ b)
equal_exactly a b = (eqb-true a b, eq-eqb a b)

pub unequal_exactly : (a b : ℕ) → Iff (eqb a b ≡ false) (a ≡ b → ⊥)
unequal_exactly a b = (eqb-false a b, ne_eqb a b)

-- ends that a number tells apart are different
pub apart : {A : Type 0} (number : A → ℕ) (a b : A) → (number a ≡ number b → ⊥) → a ≡ b → ⊥
apart number a b n e = n (ap number e)

-- a choice comes to an end that its first way never comes to, exactly when the test fails
pub by_else : {A : Type 0} (t : Bool) (a b : A) → (a ≡ b → ⊥) → Iff (pick t a b ≡ b) (t ≡ false)
unfolding pick
by_else true a b n = ((λ e. absurd (n e)), (λ e. absurd (true≢false e)))
by_else false a b n = ((λ e. refl), (λ e. refl))

-- a choice comes to its first way, which its second is not, exactly when the test holds
pub by_first : {A : Type 0} (t : Bool) (a b : A) → (b ≡ a → ⊥) → Iff (pick t a b ≡ a) (t ≡ true)
unfolding pick
by_first true a b n = ((λ e. refl), (λ e. refl))
by_first false a b n = ((λ e. absurd (n e)), (λ e. absurd (true≢false (sym e))))

-- a choice comes to an end that its second way is not, exactly when the test holds and the first way comes to it
pub by_then : {A : Type 0} (B : Type 0) (t : Bool) (a b c : A) → (b ≡ c → ⊥) → Iff (a ≡ c) B → Iff (pick t a b ≡ c) ((t ≡ true) × B)
unfolding pick
by_then B true a b c n i = ((λ e. (refl, i.0 e)), (λ p. i.1 p.1))
by_then B false a b c n i = ((λ e. absurd (n e)), (λ p. absurd (true≢false (sym p.0))))

-- a choice whose ways both differ from something differs from it
pub by_neither : {A : Type 0} (t : Bool) (a b c : A) → (a ≡ c → ⊥) → (b ≡ c → ⊥) → pick t a b ≡ c → ⊥
unfolding pick
by_neither true a b c f g = f
by_neither false a b c f g = g

-- a choice comes to an end that its first way is not, exactly when the test fails and the second way comes to it
pub by_left : {A : Type 0} (B : Type 0) (t : Bool) (a b c : A) → (a ≡ c → ⊥) → Iff (b ≡ c) B → Iff (pick t a b ≡ c) ((t ≡ false) × B)
unfolding pick
by_left B true a b c n i = ((λ e. absurd (n e)), (λ p. absurd (true≢false p.0)))
by_left B false a b c n i = ((λ e. (refl, i.0 e)), (λ p. i.1 p.1))

-- a choice whose ways both come to an end exactly when something holds does so too
pub by_either : {A : Type 0} (B : Type 0) (t : Bool) (a b c : A) → Iff (a ≡ c) B → Iff (b ≡ c) B → Iff (pick t a b ≡ c) B
unfolding pick
by_either B true a b c i j = i
by_either B false a b c i j = j
