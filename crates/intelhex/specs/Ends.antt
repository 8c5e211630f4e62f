-- Laws: the end of a line sought, and its characters tried, one after the other; bytes of its digits.
use Prim.Native.Char.{code as letter}
use Rattle.std.specs.Prelude.{◌≡◌, ℕ, suc, ◌+◌, ◌/◌, ◌<◌, ◌≤◌, Bool, true, false, List, [], ◌∷◌, length, ◌==◌, nat_lt, slice_index, refl, Option, Some, None, unwrap_or, position, cond, ◌&&◌}
use Rattle.std.specs.List.{list_all, position_or_len}
use Rattle.std.proofs.lemmas.List.Recursion.{is_position_or_len}
use Rattle.std.proofs.Common.{arith, ◌∙◌, ap, ltb-true, ltb-false}
use Rattle.std.proofs.Math.Path.{sym}
use Rattle.base.specs.Pick.{pick}
use Rattle.base.specs.Bits.{both}
use Rattle.intelhex.specs.Bytes.{is_digit, bytes_of}
use Rattle.intelhex.specs.Written.{line_feed}
use Rattle.intelhex.specs.Lines.{before, all_digits}

-- ---- the first LF
abbrev tag : Option ℕ → ℕ
tag (Some n) = 1
tag None = 0

pick_cond : (t : Bool) (a b : ℕ) → pick t a b ≡ cond t a b
unfolding pick
pick_cond true a b = refl
pick_cond false a b = refl

before_is : (xs : List ℕ) → before xs ≡ position_or_len (λ c. c == line_feed) xs
before_is = is_position_or_len before (λ c. c == line_feed) refl
    (λ x xs. let e : suc (before xs) ≡ 1 + before xs = omega arith in pick_cond (x == line_feed) 0 (suc (before xs)) ∙ ap (cond (x == line_feed) 0) e)

-- where there is one, as many characters stand before it as `position` says, and where there is none, all
pub ended_at : (xs : List ℕ) (k : ℕ) → position (λ c. c == line_feed) xs ≡ Some k → (k ≡ before xs) × (k < length xs)
ended_at xs k h = by (nat_lt (position_or_len (λ c. c == line_feed) xs) (length xs)) refl
  where
    by : (t : Bool) → nat_lt (position_or_len (λ c. c == line_feed) xs) (length xs) ≡ t → (k ≡ before xs) × (k < length xs)
    by true e =
        let q = sym (ap (λ (t : Bool). unwrap_or (cond t (Some (position_or_len (λ c. c == line_feed) xs)) None) 0) e) ∙ ap (λ (o : Option ℕ). unwrap_or o 0) h in
        let b = before_is xs in
        let l = ltb-true _ _ e in
        (omega arith, omega arith)
    by false e = absurd (let z : 0 ≡ 1 = sym (ap (λ (t : Bool). tag (cond t (Some (position_or_len (λ c. c == line_feed) xs)) None)) e) ∙ ap tag h in omega arith)

pub unended : (xs : List ℕ) → position (λ c. c == line_feed) xs ≡ None → length xs ≤ before xs
unended xs h = by (nat_lt (position_or_len (λ c. c == line_feed) xs) (length xs)) refl
  where
    by : (t : Bool) → nat_lt (position_or_len (λ c. c == line_feed) xs) (length xs) ≡ t → length xs ≤ before xs
    by true e = absurd (let z : 1 ≡ 0 = sym (ap (λ (t : Bool). tag (cond t (Some (position_or_len (λ c. c == line_feed) xs)) None)) e) ∙ ap tag h in omega arith)
    by false e =
        let b = before_is xs in
        let l = ltb-false _ _ e in
        omega arith

-- ---- are all characters digits?
both_and : (a b : Bool) → both a b ≡ (a && b)
unfolding both pick
both_and true b = refl
both_and false b = refl

pub digits_all : (cs : List ℕ) → all_digits cs ≡ list_all (λ c. is_digit c) cs
digits_all [] = refl
digits_all (c ∷ cs) = both_and (is_digit c) (all_digits cs) ∙ ap (λ (t : Bool). is_digit c && t) (digits_all cs)

-- a line that begins with a colon has a character
pub colon_some : (line : List ℕ) → slice_index line 0 ≡ letter ":" → 1 ≤ length line
colon_some [] e = absurd (let z : 0 ≡ 58 = e in omega arith)
colon_some (c ∷ cs) e = omega arith

-- ---- bytes of digits
pub bytes_length : (cs : List ℕ) → length (bytes_of cs) ≡ length cs / 2
bytes_length [] = refl
bytes_length (a ∷ []) = refl
bytes_length (a ∷ b ∷ cs) = let e = bytes_length cs in omega arith
