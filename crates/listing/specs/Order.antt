-- Document 01, "Search": "Branch order compares codes from bit 0 on, 0 first. Equal codes are listed once." What the search is
-- to list: definitions alone.
use Rattle.std.specs.Prelude.{ℕ, zero, suc, max, ◌+◌, ◌*◌, Bool, true, false, ◌⊎◌, ◌↔◌, ◌≡◌, leb, length, take}
use mathlib.Core.List.{List, [], ◌∷◌, ◌++◌, Memᴰ}
use Rattle.base.specs.Pick.{pick}
use Rattle.base.specs.Bits.{bit_of, same}
use Rattle.chip.specs.Chip.{Whole}
use Rattle.search.specs.Host.{Played, Listed, listed}
use Rattle.histories.specs.Histories.{codes_of, stores_of}

-- the codes whose bit k is d
unfoldable pub branch : Bool → ℕ → List ℕ → List ℕ
branch d k [] = []
branch d k (x ∷ xs) = pick (same (bit_of x k) d) (x ∷ branch d k xs) (branch d k xs)

-- the codes in branch order by w bits from bit k on: those whose bit k is 0, then those whose bit k is 1, each of the two in
-- branch order from bit k + 1 on; with no bit left the codes are equal, and one stands for all
unfoldable pub branch_order : ℕ → ℕ → List ℕ → List ℕ
branch_order zero k xs = take 1 xs
branch_order (suc w) k [] = []
branch_order (suc w) k (x ∷ xs) = branch_order w (k + 1) (branch false k (x ∷ xs)) ++ branch_order w (k + 1) (branch true k (x ∷ xs))

-- the numbers of two lists are the same, in whatever order and however often
abbrev pub SameMembers : List ℕ → List ℕ → Type 0
SameMembers xs ys = (x : ℕ) → Memᴰ x xs ↔ Memᴰ x ys

-- of w bits from bit k on, the first in which a and b differ is 0 in a and 1 in b
abbrev pub Before : ℕ → ℕ → ℕ → ℕ → Type 0
Before zero k a b = ⊥
Before (suc w) k a b = ((bit_of a k ≡ false) × (bit_of b k ≡ true)) ⊎ ((bit_of a k ≡ bit_of b k) × Before w (k + 1) a b)

-- every number of a list stands so to each that follows it
abbrev pub Sorted : (ℕ → ℕ → Type 0) → List ℕ → Type 0
Sorted R [] = Unit {0}
Sorted R (x ∷ xs) = ((y : ℕ) → Memᴰ y xs → R x y) × Sorted R xs

-- no number stands twice in a list
abbrev pub Distinct : List ℕ → Type 0
Distinct xs = Sorted (λ x y. x ≡ y → ⊥) xs

-- ys are the codes xs in branch order, each once
pub record InBranchOrder (xs ys : List ℕ) : Type 0 where
  pub sorted : Sorted (Before 64 0) ys
  pub distinct : Distinct ys
  pub members : SameMembers ys xs

-- what a host with so many places came to on a line L whose codes in branch order are B: it listed the first of them, as many
-- as there are places for, and says whether these are all; it put a reset on the line for each code that it listed, and one if
-- it listed none, and 200 slots for each; and the line that it left has the codes of L, in the same order, and its kinds and memories too
pub record Lists (B : List ℕ) (places : ℕ) (L : List Whole) (p : Played Listed (List Whole)) : Type 0 where
  pub result : p.result ≡ listed (take places B) (leb (length B) places)
  pub resets : p.resets ≡ max 1 (length (take places B))
  pub slots : p.slots ≡ 200 * length (take places B)
  pub codes : codes_of p.line ≡ codes_of L
  pub stores : stores_of p.line ≡ stores_of L

-- what two hosts came to on their lines is the same list with the same word on it, and so are their counts
pub record SameListing (p q : Played Listed (List Whole)) : Type 0 where
  pub result : p.result ≡ q.result
  pub resets : p.resets ≡ q.resets
  pub slots : p.slots ≡ q.slots
