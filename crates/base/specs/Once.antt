-- How many distinct numbers a list has: definitions, and what they mean of its members.
use Rattle.std.specs.Prelude.{ℕ, Bool, true, false, ◌⊎◌, ◌≡◌, refl, eqb, length}
use Rattle.std.proofs.Common.{true≢false, inl, inr, ◌∙◌, sym, eqb-true, eq-eqb}
use mathlib.Core.List.Memᴰ
use mathlib.Core.List.{List, [], ◌∷◌, Memᴰ}
use Rattle.base.specs.Pick.{pick, pick_if}

-- whether a number stands in a list
abbrev pub is_in : ℕ → List ℕ → Bool
is_in x [] = false
is_in x (y ∷ ys) = pick (eqb x y) true (is_in x ys)

-- each number of a list once
unfoldable pub once_each : List ℕ → List ℕ
once_each [] = []
once_each (x ∷ xs) = pick (is_in x xs) (once_each xs) (x ∷ once_each xs)

-- how many distinct numbers a list has
abbrev pub distinct_in : List ℕ → ℕ
distinct_in xs = length (once_each xs)

pub is-in : (x : ℕ) (ys : List ℕ) → is_in x ys ≡ true → Memᴰ x ys
unfolding pick
is-in x [] e = absurd (true≢false (sym e))
is-in x (y ∷ ys) e = go (eqb x y) refl (is-in x ys) e
  where
    go : (t : Bool) → eqb x y ≡ t → (is_in x ys ≡ true → Memᴰ x ys) → pick t true (is_in x ys) ≡ true → Memᴰ x (y ∷ ys)
    go true f g h = Memᴰ.head (eqb-true x y f)
    go false f g h = Memᴰ.tail (g h)

pub in_is : (x : ℕ) (ys : List ℕ) → Memᴰ x ys → is_in x ys ≡ true
unfolding pick
in_is x [] m = absurd (Memᴰ.not-nil m)
in_is x (y ∷ ys) m = go (eqb x y) refl (in_is x ys) (Memᴰ.cases_cons m)
  where
    go : (t : Bool) → eqb x y ≡ t → (Memᴰ x ys → is_in x ys ≡ true) → (x ≡ y) ⊎ Memᴰ x ys → pick t true (is_in x ys) ≡ true
    go true f g c = refl
    go false f g (inl e) = absurd (true≢false (sym (eq-eqb x y e) ∙ f))
    go false f g (inr n) = g n

-- it has the numbers of the list, and none twice
pub once_in : (x : ℕ) (xs : List ℕ) → Memᴰ x (once_each xs) → Memᴰ x xs
unfolding once_each
once_in x [] = λ m. m
once_in x (y ∷ ys) = pick_if (λ (zs : List ℕ). Memᴰ x zs → Memᴰ x (y ∷ ys)) (is_in y ys) _ _ (λ e m. Memᴰ.tail (once_in x ys m)) (λ e m. go (once_in x ys) (Memᴰ.cases_cons m))
  where
    go : (Memᴰ x (once_each ys) → Memᴰ x ys) → (x ≡ y) ⊎ Memᴰ x (once_each ys) → Memᴰ x (y ∷ ys)
    go g (inl e) = Memᴰ.head e
    go g (inr n) = Memᴰ.tail (g n)

pub in_once : (x : ℕ) (xs : List ℕ) → Memᴰ x xs → Memᴰ x (once_each xs)
unfolding once_each
in_once x [] m = m
in_once x (y ∷ ys) m = pick_if (λ (zs : List ℕ). Memᴰ x zs) (is_in y ys) _ _ (λ e. again (in_once y ys (is-in y ys e)) (in_once x ys) (Memᴰ.cases_cons m)) (λ e. new (in_once x ys) (Memᴰ.cases_cons m))
  where
    again : Memᴰ y (once_each ys) → (Memᴰ x ys → Memᴰ x (once_each ys)) → (x ≡ y) ⊎ Memᴰ x ys → Memᴰ x (once_each ys)
    again k g (inl f) = rw f k
    again k g (inr n) = g n

    new : (Memᴰ x ys → Memᴰ x (once_each ys)) → (x ≡ y) ⊎ Memᴰ x ys → Memᴰ x (y ∷ once_each ys)
    new g (inl f) = Memᴰ.head f
    new g (inr n) = Memᴰ.tail (g n)
