-- Lists of numbers below a limit: "A code is 64 bits", and bytes. How such lists are put together and taken apart, and one test that is
-- computed.
use Rattle.std.specs.Prelude.{ℕ, zero, suc, ◌^◌, ◌<◌, Bool, true, ◌⊎◌, ◌≡◌, refl, ltb, take, drop, get_or}
use Rattle.std.proofs.Common.{arith, inl, inr, ltb-true}
use mathlib.Core.List.Memᴰ
use mathlib.Core.List.{List, [], ◌∷◌, ◌++◌, Memᴰ}
use Rattle.base.specs.Bits.{both}
use Rattle.base.specs.Both.{both_holds}

-- every number of a list is below n
abbrev pub Below : ℕ → List ℕ → Type 0
Below n xs = (x : ℕ) → Memᴰ x xs → x < n

-- every one is a code of 64 bits
abbrev pub Codes : List ℕ → Type 0
Codes xs = Below (2 ^ 64) xs

-- every one is a byte
abbrev pub Bytes : List ℕ → Type 0
Bytes xs = Below 256 xs

module _ (n : ℕ) where
  -- no number, and one before others
  pub none_below : Below n []
  none_below x m = absurd (Memᴰ.not-nil m)

  pub one_below : (c : ℕ) (cs : List ℕ) → c < n → Below n cs → Below n (c ∷ cs)
  one_below c cs h f x m = go (Memᴰ.cases_cons m)
    where
      go : (x ≡ c) ⊎ Memᴰ x cs → x < n
      go (inl e) = rw e h
      go (inr k) = f x k

  -- the first of them, and the others
  pub first_below : (c : ℕ) (cs : List ℕ) → Below n (c ∷ cs) → c < n
  first_below c cs f = f c (Memᴰ.head refl)

  pub others_below : (c : ℕ) (cs : List ℕ) → Below n (c ∷ cs) → Below n cs
  others_below c cs f x m = f x (Memᴰ.tail m)

  -- whether all are, and that they are then
  abbrev pub all_below : List ℕ → Bool
  all_below [] = true
  all_below (c ∷ cs) = both (ltb c n) (all_below cs)

  pub all-below : (cs : List ℕ) → all_below cs ≡ true → Below n cs
  all-below [] e = none_below
  all-below (c ∷ cs) e = let h = both_holds (ltb c n) (all_below cs) e in one_below c cs (ltb-true c n h.0) (all-below cs h.1)

-- the byte at any offset, 0 where there is none
pub byte_at : (s : List ℕ) → Bytes s → (i : ℕ) → get_or s i 0 < 256
byte_at [] b i = omega arith
byte_at (x ∷ s) b zero = first_below 256 x s b
byte_at (x ∷ s) b (suc i) = byte_at s (others_below 256 x s b) i

-- bytes after bytes; some of the first of them, and those after them
pub append_bytes : (xs ys : List ℕ) → Bytes xs → Bytes ys → Bytes (xs ++ ys)
append_bytes xs ys f g x m = go (Memᴰ.append_cases xs m)
  where
    go : Memᴰ x xs ⊎ Memᴰ x ys → x < 256
    go (inl l) = f x l
    go (inr r) = g x r

pub take_bytes : (n : ℕ) (xs : List ℕ) → Bytes xs → Bytes (take n xs)
take_bytes zero xs h = none_below 256
take_bytes (suc n) [] h = none_below 256
take_bytes (suc n) (x ∷ xs) h = one_below 256 x (take n xs) (first_below 256 x xs h) (take_bytes n xs (others_below 256 x xs h))

pub drop_bytes : (n : ℕ) (xs : List ℕ) → Bytes xs → Bytes (drop n xs)
drop_bytes zero xs h = h
drop_bytes (suc n) [] h = h
drop_bytes (suc n) (x ∷ xs) h = drop_bytes n xs (others_below 256 x xs h)
