-- Laws: bytes put into a text as digits.
use Prim.Native.Nat.{ℕ, suc, ◌+◌, ◌*◌, ◌/◌, ◌%◌, ◌<◌, ◌≤◌}
use Rattle.std.proofs.Common.{arith, add-one, ◌∙◌, sym, length-set, drop-cons, ltb-false}
use Rattle.std.specs.Prelude.{Bool, true, false, ◌≡◌, ltb, length, drop, set}
use mathlib.Core.List.{List, [], ◌∷◌, ◌++◌}
use Rattle.std.proofs.Math.Path.{refl, ap}
use Rattle.std.proofs.Math.ListN.{get_or}
use Rattle.std.proofs.Math.Seq.{sets, set_out}
use Rattle.base.specs.Pick.{pick, pick_true, pick_false}
use Rattle.numerals.specs.Hex.{digit, digits_of}

-- two digits for each byte, and those of bytes behind bytes
pub digits_length : (bs : List ℕ) → length (digits_of bs) ≡ 2 * length bs
digits_length [] = refl
digits_length (b ∷ bs) = let e = digits_length bs in omega arith

pub digits_append : (xs ys : List ℕ) → digits_of (xs ++ ys) ≡ digits_of xs ++ digits_of ys
digits_append [] ys = refl
digits_append (x ∷ xs) ys = ap (λ (r : List ℕ). digits_of (x ∷ []) ++ r) (digits_append xs ys)

-- past the end of a text nothing is put
sets_past : (s : List ℕ) (at : ℕ) (xs : List ℕ) → length s ≤ at → sets s at xs ≡ s
sets_past s at [] h = refl
sets_past s at (x ∷ xs) h = let l = length-set s at x in sets_past (set s at x) (suc at) xs (omega arith) ∙ set_out s at x h

-- ---- one byte

-- the place behind the digits of a byte; past the end of the text it stays
unfoldable pub behind : List ℕ → ℕ → ℕ
behind s at = pick (ltb at (length s)) (at + 2) at

pub byte_put : (s s' s'' : List ℕ) (at b high low : ℕ) → b < 256 → high ≡ digit (b / 16 % 16) → low ≡ digit (b % 16) → s' ≡ set s at high → s'' ≡ set s' (at + 1) low → s'' ≡ sets s at (digits_of (b ∷ []))
byte_put s s' s'' at b high low k h l e f =
    let q : b / 16 % 16 ≡ b / 16 = omega arith in
    f ∙ (λ j. set (e j) (add-one at j) (l j)) ∙ (λ j. set (set s at ((h ∙ ap digit q) j)) (suc at) (digit (b % 16)))

pub byte_past : (s : List ℕ) (at b : ℕ) → length s ≤ at → s ≡ sets s at (digits_of (b ∷ []))
byte_past s at b h = sym (sets_past s at (digits_of (b ∷ [])) h)

-- ---- the loop
module _ (s : List ℕ) (to : ℕ) (bs : List ℕ) (i : ℕ) where
  pub spelt_next : (s' : List ℕ) (to' : ℕ) → i < length bs → s' ≡ sets s to (digits_of (get_or bs i 0 ∷ [])) → to' ≡ behind s to
      → sets s' to' (digits_of (drop (i + 1) bs)) ≡ sets s to (digits_of (drop i bs))
  unfolding behind
  spelt_next s' to' h e k =
      (λ j. sets (e j) (k j) (digits_of (drop (add-one i j) bs))) ∙ by (ltb to (length s)) refl ∙ ap (λ (l : List ℕ). sets s to (digits_of l)) (sym (drop-cons bs i 0 h))
    where
      b : ℕ
      b = get_or bs i 0

      rest : List ℕ
      rest = digits_of (drop (suc i) bs)

      by : (t : Bool) → ltb to (length s) ≡ t → sets (sets s to (digits_of (b ∷ []))) (pick (ltb to (length s)) (to + 2) to) rest ≡ sets s to (digits_of (b ∷ drop (suc i) bs))
      by true q = let n : pick (ltb to (length s)) (to + 2) to ≡ suc (suc to) = pick_true _ _ _ q ∙ omega arith in ap (λ (k : ℕ). sets (sets s to (digits_of (b ∷ []))) k rest) n
      by false q =
          let p : length s ≤ to = ltb-false to (length s) q in
          ap (λ (l : List ℕ). sets l (pick (ltb to (length s)) (to + 2) to) rest) (sets_past s to (digits_of (b ∷ [])) p) ∙ ap (λ (k : ℕ). sets s k rest) (pick_false _ _ _ q)
          ∙ sets_past s to rest p ∙ sym (sets_past s to (digits_of (b ∷ drop (suc i) bs)) p)

pub ruleset byte_steps = (byte_put, byte_past)
