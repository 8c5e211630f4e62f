-- Laws: how many distinct codes a list has, and that its branch order has as many.
use Rattle.std.specs.Prelude.{ℕ, suc, ◌≤◌, ◌⊎◌, ◌≡◌, refl, length}
use Rattle.std.proofs.Common.{arith, true≢false, inl, inr, ◌∙◌, ap, sym}
use mathlib.Core.List.Memᴰ
use mathlib.Core.List.{List, [], ◌∷◌, Memᴰ}
use Rattle.base.specs.Pick.{pick_if}
use Rattle.base.specs.Once.{is_in, once_each, distinct_in, in_is, once_in, in_once}
use Rattle.histories.specs.Below.{Codes}
use Rattle.listing.specs.Order.{Distinct, branch_order}
use Rattle.listing.proofs.Listing.{branch-order}

-- each number of a list once: none stands twice
pub once_distinct : (xs : List ℕ) → Distinct (once_each xs)
unfolding once_each
once_distinct [] = tt
once_distinct (x ∷ xs) =
    pick_if Distinct (is_in x xs) _ _ (λ e. once_distinct xs)
    (λ e. ((λ y m q. true≢false (sym (in_is x xs (rw q (once_in y xs m))) ∙ e)), once_distinct xs))

-- a list without one of its numbers
record Rest (y : ℕ) (ys : List ℕ) : Type 0 where
  rest : List ℕ
  shorter : length ys ≡ suc (length rest)
  others : (z : ℕ) → Memᴰ z ys → (z ≡ y → ⊥) → Memᴰ z rest

without : (y : ℕ) (ys : List ℕ) → Memᴰ y ys → Rest y ys
without y [] m = absurd (Memᴰ.not-nil m)
without y (x ∷ xs) m = go (without y xs) (Memᴰ.cases_cons m)
  where
    first : y ≡ x → (z : ℕ) → (z ≡ y → ⊥) → (z ≡ x) ⊎ Memᴰ z xs → Memᴰ z xs
    first e z d (inl f) = absurd (d (f ∙ sym e))
    first e z d (inr n) = n

    later : (r : Rest y xs) (z : ℕ) → (z ≡ y → ⊥) → (z ≡ x) ⊎ Memᴰ z xs → Memᴰ z (x ∷ r.rest)
    later r z d (inl f) = Memᴰ.head f
    later r z d (inr o) = Memᴰ.tail (r.others z o d)

    go : (Memᴰ y xs → Rest y xs) → (y ≡ x) ⊎ Memᴰ y xs → Rest y (x ∷ xs)
    go g (inl e) = record { rest = xs; shorter = refl; others = λ z n d. first e z d (Memᴰ.cases_cons n) }
    go g (inr n) = let r = g n in record { rest = x ∷ r.rest; shorter = ap suc r.shorter; others = λ z o d. later r z d (Memᴰ.cases_cons o) }

-- distinct numbers that all stand in a list are no more than it has
pub no_more : (xs ys : List ℕ) → Distinct xs → ((x : ℕ) → Memᴰ x xs → Memᴰ x ys) → length xs ≤ length ys
no_more [] ys d f = omega arith
no_more (x ∷ xs) ys (a, d) f =
    let r = without x ys (f x (Memᴰ.head refl)) in
    let h = no_more xs r.rest d (λ y m. r.others y (f y (Memᴰ.tail m)) (λ e. a y m (sym e))) in
    let k = r.shorter in
    omega arith

-- the codes in branch order are as many as there are distinct ones
pub order_distinct : (xs : List ℕ) → Codes xs → length (branch_order 64 0 xs) ≡ distinct_in xs
order_distinct xs fits =
    let b = branch-order xs fits in
    let h = no_more (branch_order 64 0 xs) (once_each xs) b.distinct (λ x m. in_once x xs ((b.members x).0 m)) in
    let k = no_more (once_each xs) (branch_order 64 0 xs) (once_distinct xs) (λ x m. (b.members x).1 (once_in x xs m)) in
    omega arith
