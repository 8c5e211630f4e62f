-- What a pass leads to, by the codes alone: the code that it finds, and what is then still to be listed.
use Rattle.std.specs.Prelude.{ℕ, zero, suc, ◌+◌, ◌-◌, ◌^◌, ◌<◌, Bool, ◌≡◌, refl, length, take}
use native.Mathlib.Omega.{arith}
use Rattle.std.proofs.Math.Bool.{true, false}
use mathlib.Core.List.{List, [], ◌∷◌, ◌++◌, append-nil, Memᴰ}
use Rattle.std.proofs.Common.{◌∙◌, sym}
use Rattle.base.specs.Bits.{bit_of}
use Rattle.base.specs.Low.{bit_none}
use Rattle.search.specs.Host.{turn, mark, up_to}
use Rattle.search.specs.Pass.{pow_next, up_lt}
use Rattle.listing.specs.Order.{branch, branch_order}
use Rattle.listing.specs.Branch.{is_nil, order_nil, order_split, branch_bit}
use Rattle.listing.specs.Bits.{up_own, up_below}

-- what is to be listed at a place, by whether a branch is empty and by what is wanted: the zeros' rest, the ones' rest, or the
-- zeros' rest and then the ones in order
abbrev rest_at : Bool → Bool → Bool → List ℕ → List ℕ → List ℕ → List ℕ
rest_at true b t zeros ones order = ones
rest_at false true t zeros ones order = zeros
rest_at false false true zeros ones order = ones
rest_at false false false zeros ones order = zeros ++ order

-- the codes that are still to be listed, in branch order by w bits from bit k on, where the next pass follows `want`
unfoldable pub rest : ℕ → ℕ → ℕ → List ℕ → List ℕ
rest zero k want xs = take 1 xs
rest (suc w) k want xs =
    rest_at (is_nil (branch false k xs)) (is_nil (branch true k xs)) (bit_of want k)
    (rest w (k + 1) want (branch false k xs)) (rest w (k + 1) want (branch true k xs)) (branch_order w (k + 1) (branch true k xs))

-- where 0 is wanted and each rest is the whole order, both orders are to be listed
fork : (w k : ℕ) (z o : List ℕ) → rest_at (is_nil z) (is_nil o) false (branch_order w k z) (branch_order w k o) (branch_order w k o) ≡ branch_order w k z ++ branch_order w k o
fork w k [] o = rw (order_nil w k)
fork w k (x ∷ z) [] = rw (order_nil w k) (sym (append-nil _))
fork w k (x ∷ z) (y ∷ o) = refl

-- where nothing is wanted from bit k on, all codes are to be listed
pub rest_all : (w k want : ℕ) (xs : List ℕ) → want < 2 ^ k → rest w k want xs ≡ branch_order w k xs
unfolding rest branch_order
rest_all zero k want xs h = refl
rest_all (suc w) k want xs h =
    let n : want < 2 ^ (k + 1) = omega (arith, pow_next k) in
    rw (bit_none want k h, rest_all w (k + 1) want (branch false k xs) n, rest_all w (k + 1) want (branch true k xs) n)
    (fork w (k + 1) (branch false k xs) (branch true k xs) ∙ sym (order_split w k xs))

-- of a pass from bit k on that found c with the mark m: it found no parting to come back to, and c was the last code; or the
-- mark is that of a parting past k, and c was the next code, with those to follow that the pass up to there and a 1 leads to
pub data Outcome (w k want last m c : ℕ) (xs : List ℕ) : Type 0 where
  ended : m ≡ last → rest w k want xs ≡ c ∷ [] → Outcome w k want last m c xs
  parted : k < m → rest w k want xs ≡ c ∷ rest w k (up_to (m - 1) c) xs → Outcome w k want last m c xs

-- a pass that found a code had one to find
pub rest_some : {w k want last m c : ℕ} {xs : List ℕ} → Outcome w k want last m c xs → 0 < length (rest w k want xs)
rest_some (ended q h) = rw h (omega arith)
rest_some (parted q h) = rw h (omega arith)

module _ (w k want last m c : ℕ) (xs : List ℕ) where
  -- one place of a pass, by what was read and wanted
  at_place_by : (a b t : Bool) → is_nil (branch false k xs) ≡ a → is_nil (branch true k xs) ≡ b → bit_of want k ≡ t
      → Memᴰ c (branch (turn a b t) k xs)
      → Outcome w (k + 1) want (mark a b t k last) m c (branch (turn a b t) k xs)
      → Outcome (suc w) k want last m c xs
  unfolding rest
  at_place_by true b t ea eb et i (ended e h) = ended e (rw ea h)
  at_place_by true b t ea eb et i (parted l h) = parted (omega arith) (rw ea h)
  at_place_by false true t ea eb et i (ended e h) = ended e (rw (ea, eb) h)
  at_place_by false true t ea eb et i (parted l h) = parted (omega arith) (rw (ea, eb) h)
  at_place_by false false true ea eb et i (ended e h) = ended e (rw (ea, eb, et) h)
  at_place_by false false true ea eb et i (parted l h) =
      let u : bit_of (up_to (m - 1) c) k ≡ true = up_below (m - 1) c k (omega arith) ∙ branch_bit true k c xs i in
      parted (omega arith) (rw (ea, eb, et, u) h)
  at_place_by false false false ea eb et i (ended e h) =
      let n : m - 1 ≡ k = omega arith in
      let a : rest w (k + 1) (up_to k c) (branch true k xs) ≡ branch_order w (k + 1) (branch true k xs) = rest_all w (k + 1) (up_to k c) (branch true k xs) (up_lt k c) in
      parted (omega arith) (rw (ea, eb, et, n, up_own k c, h, a))
  at_place_by false false false ea eb et i (parted l h) =
      let u : bit_of (up_to (m - 1) c) k ≡ false = up_below (m - 1) c k (omega arith) ∙ branch_bit false k c xs i in
      parted (omega arith) (rw (ea, eb, et, u, h))

  -- the same, with the direction that was taken under its own name
  pub at_place : (a b t d : Bool) → is_nil (branch false k xs) ≡ a → is_nil (branch true k xs) ≡ b → bit_of want k ≡ t → turn a b t ≡ d
      → Memᴰ c (branch d k xs)
      → Outcome w (k + 1) want (mark a b t k last) m c (branch d k xs)
      → Outcome (suc w) k want last m c xs
  at_place a b t d ea eb et ed i o = at_place_by a b t ea eb et (rw ed i) (rw ed o)
