-- Laws of branches: who is in one, and how the order goes by them.
use Rattle.std.specs.Prelude.{ℕ, zero, suc, ◌+◌, ◌%◌, ◌^◌, ◌≤◌, Bool, true, false, ◌⊎◌, ◌≡◌, refl, length}
use Rattle.std.proofs.Common.{arith, true≢false, inl, inr, ◌∙◌, ap, ap₂, sym, length-append}
use mathlib.Core.List.Memᴰ
use mathlib.Core.List.{List, [], ◌∷◌, ◌++◌, Memᴰ}
use Rattle.base.specs.Pick.{pick}
use Rattle.base.specs.Bits.{bit_of, same}
use Rattle.base.specs.Low.{mod_next_one, mod_next_zero}
use Rattle.base.specs.Same.{same_bit, same_own}
use Rattle.search.specs.Host.{put}
use Rattle.listing.specs.Order.{branch, branch_order}

-- a list has nothing in it
abbrev pub is_nil : List ℕ → Bool
is_nil [] = true
is_nil (x ∷ xs) = false

-- no codes, in order
pub order_nil : (w k : ℕ) → branch_order w k [] ≡ []
unfolding branch_order
order_nil zero k = refl
order_nil (suc w) k = refl

-- the order by one more bit, of any list
pub order_split : (w k : ℕ) (xs : List ℕ) → branch_order (suc w) k xs ≡ branch_order w (k + 1) (branch false k xs) ++ branch_order w (k + 1) (branch true k xs)
unfolding branch_order branch
order_split w k [] = sym (ap₂ (λ (a b : List ℕ). a ++ b) (order_nil w (k + 1)) (order_nil w (k + 1)))
order_split w k (x ∷ xs) = refl

-- a number of a list that may have one more in front
front_cases : (t : Bool) (x y : ℕ) (xs : List ℕ) → Memᴰ y (pick t (x ∷ xs) xs) → ((t ≡ true) × (y ≡ x)) ⊎ Memᴰ y xs
unfolding pick
front_cases true x y xs m = go (Memᴰ.cases_cons m)
  where
    go : (y ≡ x) ⊎ Memᴰ y xs → ((true ≡ true) × (y ≡ x)) ⊎ Memᴰ y xs
    go (inl e) = inl (refl, e)
    go (inr m) = inr m
front_cases false x y xs m = inr m

-- a branch has codes of the list alone
pub branch_in : (d : Bool) (k y : ℕ) (xs : List ℕ) → Memᴰ y (branch d k xs) → Memᴰ y xs
unfolding branch
branch_in d k y [] m = m
branch_in d k y (x ∷ xs) m = go (branch_in d k y xs) (front_cases (same (bit_of x k) d) x y (branch d k xs) m)
  where
    go : (Memᴰ y (branch d k xs) → Memᴰ y xs) → ((same (bit_of x k) d ≡ true) × (y ≡ x)) ⊎ Memᴰ y (branch d k xs) → Memᴰ y (x ∷ xs)
    go f (inl e) = Memᴰ.head e.1
    go f (inr n) = Memᴰ.tail (f n)

-- the codes of a branch have its bit
pub branch_bit : (d : Bool) (k y : ℕ) (xs : List ℕ) → Memᴰ y (branch d k xs) → bit_of y k ≡ d
unfolding branch
branch_bit d k y [] m = elim m [ ]
branch_bit d k y (x ∷ xs) m = go (branch_bit d k y xs) (front_cases (same (bit_of x k) d) x y (branch d k xs) m)
  where
    go : (Memᴰ y (branch d k xs) → bit_of y k ≡ d) → ((same (bit_of x k) d ≡ true) × (y ≡ x)) ⊎ Memᴰ y (branch d k xs) → bit_of y k ≡ d
    go f (inl e) = ap (λ (n : ℕ). bit_of n k) e.1 ∙ same_bit (bit_of x k) d e.0
    go f (inr n) = f n

-- each code of the list is in the branch of its bit
pub in_branch : (k y : ℕ) (xs : List ℕ) → Memᴰ y xs → Memᴰ y (branch (bit_of y k) k xs)
unfolding branch pick
in_branch k y [] m = m
in_branch k y (x ∷ xs) m = go (same (bit_of x k) (bit_of y k)) refl (in_branch k y xs) (Memᴰ.cases_cons m)
  where
    go : (t : Bool) → same (bit_of x k) (bit_of y k) ≡ t → (Memᴰ y xs → Memᴰ y (branch (bit_of y k) k xs)) → (y ≡ x) ⊎ Memᴰ y xs
        → Memᴰ y (pick t (x ∷ branch (bit_of y k) k xs) (branch (bit_of y k) k xs))
    go true q f (inl e) = Memᴰ.head e
    go true q f (inr n) = Memᴰ.tail (f n)
    go false q f (inl e) = absurd (true≢false (sym (same_own (bit_of y k)) ∙ (rw (← e) at q)))
    go false q f (inr n) = f n

-- a code is in one of its two branches
both_nil : (b : Bool) (x : ℕ) (z o : List ℕ) → is_nil (pick (same b false) (x ∷ z) z) ≡ true → is_nil (pick (same b true) (x ∷ o) o) ≡ true → true ≡ false
unfolding same pick
both_nil true x z o e h = sym h
both_nil false x z o e h = sym e

-- so where both branches are empty there is no code
pub some_branch : (k : ℕ) (xs : List ℕ) → is_nil (branch false k xs) ≡ true → is_nil (branch true k xs) ≡ true → is_nil xs ≡ true
unfolding branch
some_branch k [] e h = refl
some_branch k (x ∷ xs) e h = sym (both_nil (bit_of x k) x (branch false k xs) (branch true k xs) e h)

-- one code more, in one of the two branches
front_lengths : (b : Bool) (x : ℕ) (z o : List ℕ) → length (pick (same b false) (x ∷ z) z) + length (pick (same b true) (x ∷ o) o) ≡ suc (length z + length o)
unfolding same pick
front_lengths true x z o = omega arith
front_lengths false x z o = omega arith

-- the two branches share out the list
branch_lengths : (k : ℕ) (xs : List ℕ) → length (branch false k xs) + length (branch true k xs) ≡ length xs
unfolding branch
branch_lengths k [] = refl
branch_lengths k (x ∷ xs) = front_lengths (bit_of x k) x (branch false k xs) (branch true k xs) ∙ ap suc (branch_lengths k xs)

-- so the order is no longer than the list
pub order_length : (w k : ℕ) (xs : List ℕ) → length (branch_order w k xs) ≤ length xs
unfolding branch_order
order_length zero k [] = omega arith
order_length zero k (x ∷ xs) = omega arith
order_length (suc w) k xs =
    rw (order_split w k xs, length-append)
    (omega (arith, order_length w (k + 1) (branch false k xs), order_length w (k + 1) (branch true k xs), branch_lengths k xs))

-- the low k bits of each code are the path's
abbrev pub Low : ℕ → ℕ → List ℕ → Type 0
Low k path xs = (x : ℕ) → Memᴰ x xs → x % 2 ^ k ≡ path

-- in a branch, so are the low k + 1 bits
pub low_next : (d : Bool) (k path : ℕ) (xs : List ℕ) → Low k path xs → Low (k + 1) (put d k path) (branch d k xs)
low_next true k path xs l x m = mod_next_one x k (branch_bit true k x xs m) ∙ ap (λ (n : ℕ). n + 2 ^ k) (l x (branch_in true k x xs m))
low_next false k path xs l x m = mod_next_zero x k (branch_bit false k x xs m) ∙ l x (branch_in false k x xs m)
