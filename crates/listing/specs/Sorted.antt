-- Laws: branch order is sorted and has the members of the list, and no other list does.
use Rattle.std.specs.Prelude.{ℕ, zero, suc, ◌+◌, ◌^◌, ◌<◌, Bool, true, false, ◌⊎◌, ◌≡◌, refl}
use Rattle.std.proofs.Common.{arith, mod-eq_of_lt, add-zero, zero-add, add_assoc, one-add, true≢false, inl, inr, ◌∙◌, ap₂, sym}
use mathlib.Core.List.Memᴰ
use mathlib.Core.List.{List, [], ◌∷◌, ◌++◌, Memᴰ}
use Rattle.base.specs.Bits.{bit_of}
use Rattle.search.specs.Host.{put}
use Rattle.listing.specs.Order.{branch, branch_order, Before, Sorted, Distinct, SameMembers}
use Rattle.listing.specs.Branch.{order_split, branch_in, branch_bit, in_branch, Low, low_next}

-- two sorted lists, one after the other
sorted_append : (R : ℕ → ℕ → Type 0) (xs ys : List ℕ) → Sorted R xs → Sorted R ys → ((x y : ℕ) → Memᴰ x xs → Memᴰ y ys → R x y) → Sorted R (xs ++ ys)
sorted_append R [] ys s t c = t
sorted_append R (x ∷ xs) ys s t c =
    ((λ y m. go y (Memᴰ.append_cases xs m)), sorted_append R xs ys s.1 t (λ a b m n. c a b (Memᴰ.tail m) n))
  where
    go : (y : ℕ) → Memᴰ y xs ⊎ Memᴰ y ys → R x y
    go y (inl m) = s.0 y m
    go y (inr m) = c x y (Memᴰ.head refl) m

-- sorted by one relation, so by another that follows from it
sorted_map : (R Q : ℕ → ℕ → Type 0) (xs : List ℕ) → ((x y : ℕ) → Memᴰ x xs → Memᴰ y xs → R x y → Q x y) → Sorted R xs → Sorted Q xs
sorted_map R Q [] f s = tt
sorted_map R Q (x ∷ xs) f s =
    ((λ y m. f x y (Memᴰ.head refl) (Memᴰ.tail m) (s.0 y m)), sorted_map R Q xs (λ a b m n. f a b (Memᴰ.tail m) (Memᴰ.tail n)) s.1)

-- every code in the order is in the list
order_in : (w k y : ℕ) (xs : List ℕ) → Memᴰ y (branch_order w k xs) → Memᴰ y xs
unfolding branch_order
order_in zero k y [] m = m
order_in zero k y (x ∷ xs) m = go (Memᴰ.cases_cons m)
  where
    go : (y ≡ x) ⊎ Memᴰ y [] → Memᴰ y (x ∷ xs)
    go (inl e) = Memᴰ.head e
    go (inr n) = absurd (Memᴰ.not-nil n)
order_in (suc w) k y xs m =
    go (order_in w (k + 1) y (branch false k xs)) (order_in w (k + 1) y (branch true k xs)) (Memᴰ.append_cases (branch_order w (k + 1) (branch false k xs)) (rw order_split at m))
  where
    go : (Memᴰ y (branch_order w (k + 1) (branch false k xs)) → Memᴰ y (branch false k xs)) → (Memᴰ y (branch_order w (k + 1) (branch true k xs)) → Memᴰ y (branch true k xs))
        → Memᴰ y (branch_order w (k + 1) (branch false k xs)) ⊎ Memᴰ y (branch_order w (k + 1) (branch true k xs)) → Memᴰ y xs
    go f g (inl n) = branch_in false k y xs (f n)
    go f g (inr n) = branch_in true k y xs (g n)

-- a code in the order of a branch has the branch's bit
order_bit : (w k y : ℕ) (d : Bool) (xs : List ℕ) → Memᴰ y (branch_order w (k + 1) (branch d k xs)) → bit_of y k ≡ d
order_bit w k y d xs m = branch_bit d k y xs (order_in w (k + 1) y (branch d k xs) m)

-- branch order is sorted
pub order_sorted : (w k : ℕ) (xs : List ℕ) → Sorted (Before w k) (branch_order w k xs)
unfolding branch_order
order_sorted zero k [] = tt
order_sorted zero k (x ∷ xs) = ((λ y m. absurd (Memᴰ.not-nil m)), tt)
order_sorted (suc w) k xs =
    rw order_split (sorted_append (Before (suc w) k) (branch_order w (k + 1) (branch false k xs)) (branch_order w (k + 1) (branch true k xs))
    (deeper false (order_sorted w (k + 1) (branch false k xs))) (deeper true (order_sorted w (k + 1) (branch true k xs)))
    (λ x y m n. inl (order_bit w k x false xs m, order_bit w k y true xs n)))
  where
    deeper : (d : Bool) → Sorted (Before w (k + 1)) (branch_order w (k + 1) (branch d k xs)) → Sorted (Before (suc w) k) (branch_order w (k + 1) (branch d k xs))
    deeper d s = sorted_map (Before w (k + 1)) (Before (suc w) k) (branch_order w (k + 1) (branch d k xs))
        (λ x y m n r. inr (order_bit w k x d xs m ∙ sym (order_bit w k y d xs n), r)) s

-- of two codes not each is before the other
before_once : (w k a b : ℕ) → Before w k a b → Before w k b a → ⊥
before_once zero k a b h g = h
before_once (suc w) k a b (inl h) (inl g) = true≢false (sym h.1 ∙ g.0)
before_once (suc w) k a b (inl h) (inr g) = true≢false (sym h.1 ∙ g.0 ∙ h.0)
before_once (suc w) k a b (inr h) (inl g) = true≢false (sym g.1 ∙ h.0 ∙ g.0)
before_once (suc w) k a b (inr h) (inr g) = before_once w (k + 1) a b h.1 g.1

-- so what is sorted has no code twice
pub sorted_distinct : (w k : ℕ) (xs : List ℕ) → Sorted (Before w k) xs → Distinct xs
sorted_distinct w k xs s = sorted_map (Before w k) (λ x y. x ≡ y → ⊥) xs (λ x y m n b e. before_once w k y y (rw e at b) (rw e at b)) s

-- every code of the list is in the order, where the codes end with its last bit
order_all : (w k path y : ℕ) (xs : List ℕ) → Low k path xs → ((x : ℕ) → Memᴰ x xs → x < 2 ^ (k + w)) → Memᴰ y xs → Memᴰ y (branch_order w k xs)
unfolding branch_order
order_all zero k path y [] low fits m = m
order_all zero k path y (x ∷ xs) low fits m =
    let own : (z : ℕ) → Memᴰ z (x ∷ xs) → z ≡ path = λ z i. sym (mod-eq_of_lt (rw (← add-zero k) (fits z i))) ∙ low z i in
    Memᴰ.head (own y m ∙ sym (own x (Memᴰ.head refl)))
order_all (suc w) k path y xs low fits m =
    rw order_split (go (bit_of y k) (in_branch k y xs m)
    (λ d. order_all w (k + 1) (put d k path) y (branch d k xs) (low_next d k path xs low)
    (λ x n. rw (add_assoc, one-add) (fits x (branch_in d k x xs n)))))
  where
    go : (d : Bool) → Memᴰ y (branch d k xs)
        → ((d : Bool) → Memᴰ y (branch d k xs) → Memᴰ y (branch_order w (k + 1) (branch d k xs)))
        → Memᴰ y (branch_order w (k + 1) (branch false k xs) ++ branch_order w (k + 1) (branch true k xs))
    go false n below = Memᴰ.append_left (branch_order w (k + 1) (branch true k xs)) (below false n)
    go true n below = Memᴰ.append_right (branch_order w (k + 1) (branch false k xs)) (below true n)

-- so the order has the members of the list
pub order_members : (w : ℕ) (xs : List ℕ) → ((x : ℕ) → Memᴰ x xs → x < 2 ^ w) → SameMembers (branch_order w 0 xs) xs
order_members w xs fits y = (order_in w 0 y xs, order_all w 0 0 y xs (λ x m. omega arith) (λ x m. rw zero-add (fits x m)))

-- the first codes of two sorted lists with the same members are equal
first_same : (w k x y : ℕ) (xs ys : List ℕ) → Sorted (Before w k) (x ∷ xs) → Sorted (Before w k) (y ∷ ys) → (x ≡ y) ⊎ Memᴰ x ys → (y ≡ x) ⊎ Memᴰ y xs → x ≡ y
first_same w k x y xs ys s t (inl e) n = e
first_same w k x y xs ys s t (inr m) (inl e) = sym e
first_same w k x y xs ys s t (inr m) (inr n) = absurd (before_once w k x y (s.0 y n) (t.0 x m))

-- past its first code a sorted list has the members that another has past the same code
rest_in : (w k x y z : ℕ) (xs ys : List ℕ) → Sorted (Before w k) (x ∷ xs) → x ≡ y → Memᴰ z xs → (z ≡ y) ⊎ Memᴰ z ys → Memᴰ z ys
rest_in w k x y z xs ys s e m (inl f) =
    let b : Before w k x x = rw (f ∙ sym e) at (s.0 z m) in
    absurd (before_once w k x x b b)
rest_in w k x y z xs ys s e m (inr n) = n

-- there is one sorted list of given members
pub sorted_one : (w k : ℕ) (xs ys : List ℕ) → Sorted (Before w k) xs → Sorted (Before w k) ys → SameMembers xs ys → xs ≡ ys
sorted_one w k [] [] s t m = refl
sorted_one w k [] (y ∷ ys) s t m = absurd (Memᴰ.not-nil ((m y).1 (Memᴰ.head refl)))
sorted_one w k (x ∷ xs) [] s t m = absurd (Memᴰ.not-nil ((m x).0 (Memᴰ.head refl)))
sorted_one w k (x ∷ xs) (y ∷ ys) s t m =
    let e : x ≡ y = first_same w k x y xs ys s t (Memᴰ.cases_cons ((m x).0 (Memᴰ.head refl))) (Memᴰ.cases_cons ((m y).1 (Memᴰ.head refl))) in
    ap₂ ◌∷◌ e (sorted_one w k xs ys s.1 t.1
    (λ z. (
      (λ i. rest_in w k x y z xs ys s e i (Memᴰ.cases_cons ((m z).0 (Memᴰ.tail i)))),
      (λ i. rest_in w k y x z ys xs t (sym e) i (Memᴰ.cases_cons ((m z).1 (Memᴰ.tail i)))),
    )))
