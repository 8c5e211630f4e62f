-- Laws: bytes stored one after the other.
use Rattle.std.specs.Prelude.{ℕ, suc, ◌+◌, ◌<◌, ◌≤◌, List, [], ◌∷◌, ◌++◌, ◌≡◌, length, get_or, take, drop, set}
use Rattle.std.proofs.Common.{arith, add-zero, add-one, append-nil, ◌∙◌, ap, sym, take-suc, take_all, length-take-le}
use Rattle.std.proofs.lemmas.List.Edits.{sets, sets-eq}
use Rattle.std.proofs.Math.Seq.{drop-length}

-- some, and then others behind them
pub sets_append : (s : List ℕ) (at : ℕ) (xs ys : List ℕ) → sets s at (xs ++ ys) ≡ sets (sets s at xs) (at + length xs) ys
sets_append s at [] ys = ap (λ (k : ℕ). sets s k ys) (sym (add-zero at))
sets_append s at (x ∷ xs) ys =
    let e : suc at + length xs ≡ at + suc (length xs) = omega arith in
    sets_append (set s at x) (suc at) xs ys ∙ ap (λ (k : ℕ). sets (sets (set s at x) (suc at) xs) k ys) e

-- as many as there are places
pub sets_all : (s xs : List ℕ) → length xs ≡ length s → sets s 0 xs ≡ xs
sets_all s xs e =
    let h : 0 + length xs ≤ length s = omega arith in
    let d : 0 + length xs ≡ length s = omega arith in
    sets-eq xs s 0 h ∙ ap (λ (k : ℕ). xs ++ drop k s) d ∙ ap (λ (r : List ℕ). xs ++ r) (drop-length s) ∙ append-nil xs

-- ---- the loop
module _ (s : List ℕ) (at i : ℕ) (xs : List ℕ) where
  pub stored_next : i < length xs → set (sets s at (take i xs)) (at + i) (get_or xs i 0) ≡ sets s at (take (i + 1) xs)
  stored_next h =
      let l : length (take i xs) ≡ i = length-take-le i xs (omega arith) in
      sym (ap (λ (k : ℕ). sets s at (take k xs)) (add-one i) ∙ ap (sets s at) (take-suc xs i 0 h) ∙ sets_append s at (take i xs) (get_or xs i 0 ∷ [])
      ∙ ap (λ (k : ℕ). set (sets s at (take i xs)) (at + k) (get_or xs i 0)) l)

  pub stored_all : length xs ≤ i → sets s at (take i xs) ≡ sets s at xs
  stored_all h = ap (sets s at) (take_all i xs h)
