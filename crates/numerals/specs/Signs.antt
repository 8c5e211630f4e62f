-- Laws: numbers with their sign, as words of 64 bits hold them.
use Prim.Native.Char.{code as letter}
use Rattle.std.specs.Prelude.{ℕ, zero, suc, ◌≤◌, Bool, true, false, List, [], ◌∷◌, ◌≡◌, refl, eqb, ltb, get_or, take, drop, ◌&&◌, ℤ, pos, negsuc, neg_ℤ, ◌-ℤ◌, Option, Some, None}
use Rattle.std.proofs.Common.{arith, ◌∙◌, ap, sym, subst, ltb-true, ltb-false, SFits, to_z, of_z}
use Rattle.std.proofs.Math.IntN.{+ℤ_idl}
use Rattle.std.specs.Int.{w64}
use Rattle.std.specs.Cmp.Lexicographic.{pointwise}
use Rattle.std.proofs.lemmas.Int.{to_z_pos, to_z-of_z}
use Rattle.base.specs.Pick.{pick, pick_true, pick_false}
use Rattle.numerals.specs.Numerals.{Digits, digits, no_digits, digits_in, signed_as, said, minus, most, capped, numeral_by, numeral_of}
use Rattle.numerals.specs.Numerals.{kept, counted_by}
use Rattle.numerals.specs.Digits.{kept_most}

-- the word that a signed number is held as, read back
abbrev word : ℤ → ℤ
word z = to_z w64 (of_z w64 z)

-- ---- the number that is kept and then given its sign is the number with its sign, capped
kept_plain : (n : ℕ) → pos (kept n) ≡ capped (pos n)
unfolding capped kept pick
kept_plain n = by (ltb n most) (ltb most n) refl refl
  where
    by : (s t : Bool) → ltb n most ≡ s → ltb most n ≡ t → pos (pick s n most) ≡ pick t (pos most) (pos n)
    by true true e f = absurd (let h = ltb-true n most e in let k = ltb-true most n f in omega arith)
    by true false e f = refl
    by false true e f = refl
    by false false e f = let q : most ≡ n = (let h = ltb-false n most e in let k = ltb-false most n f in omega arith) in ap pos q

kept_minus : (n : ℕ) → minus (kept n) ≡ capped (minus n)
unfolding capped kept pick
kept_minus zero = refl
kept_minus (suc m) = by (ltb (suc m) most) (ltb 999999999999999999 m) refl refl
  where
    by : (s t : Bool) → ltb (suc m) most ≡ s → ltb 999999999999999999 m ≡ t → minus (pick s (suc m) most) ≡ pick t (minus most) (negsuc m)
    by true true e f = absurd (let h = ltb-true (suc m) most e in let k = ltb-true 999999999999999999 m f in omega arith)
    by true false e f = refl
    by false true e f = refl
    by false false e f =
        let q : 999999999999999999 ≡ m = (let h = ltb-false (suc m) most e in let k = ltb-false 999999999999999999 m f in omega arith) in ap negsuc q

-- ---- a number that digits come to
pub some_most : (d : Digits) (n : ℕ) → Some n ≡ counted_by d → n ≤ most
some_most (digits m) n e = let h = kept_most m in let q : n ≡ kept m = cc in omega arith
some_most no_digits n e = cc

-- what a sign makes of what digits come to
abbrev pub with_sign : (ℕ → ℤ) → Option ℕ → Option ℤ
with_sign sign (Some n) = Some (sign n)
with_sign sign None = None

by_sign : (sign : ℕ → ℤ) → ((n : ℕ) → sign (kept n) ≡ capped (sign n)) → (d : Digits) → with_sign sign (counted_by d) ≡ numeral_by (signed_as sign d)
by_sign sign h (digits n) = ap (λ (z : ℤ). Some z) (h n)
by_sign sign h no_digits = refl

pub read_plain : (d : Digits) → with_sign pos (counted_by d) ≡ numeral_by (signed_as pos d)
read_plain = by_sign pos kept_plain

pub read_minus : (d : Digits) → with_sign minus (counted_by d) ≡ numeral_by (signed_as minus d)
read_minus = by_sign minus kept_minus

-- ---- the sign that a text begins with
pub begins : (text : List ℕ) → pointwise eqb (take 1 text) (letter "-" ∷ []) ≡ eqb (get_or text 0 0) (letter "-")
begins [] = refl
begins (c ∷ cs) = by (eqb c (letter "-"))
  where
    by : (t : Bool) → (t && true) ≡ t
    by true = refl
    by false = refl

module _ (text : List ℕ) (e : pointwise eqb (take 1 text) (letter "-" ∷ []) ≡ true) where
  said_minus : said text ≡ signed_as minus (digits_in (drop 1 text))
  unfolding said
  said_minus = pick_true _ _ _ (sym (begins text) ∙ e)

  module _ (behind : List ℕ) (d : behind ≡ drop 1 text) where
    pub minus_number : (n : ℕ) → Some n ≡ counted_by (digits_in behind) → Some (minus n) ≡ numeral_of text
    minus_number n q = ap (with_sign minus) (q ∙ ap (λ (l : List ℕ). counted_by (digits_in l)) d) ∙ read_minus _ ∙ sym (ap numeral_by said_minus)

    pub minus_none : None ≡ counted_by (digits_in behind) → None ≡ numeral_of text
    minus_none q = ap (with_sign minus) (q ∙ ap (λ (l : List ℕ). counted_by (digits_in l)) d) ∙ read_minus _ ∙ sym (ap numeral_by said_minus)

module _ (text : List ℕ) (e : pointwise eqb (take 1 text) (letter "-" ∷ []) ≡ false) where
  said_plain : said text ≡ signed_as pos (digits_in text)
  unfolding said
  said_plain = pick_false _ _ _ (sym (begins text) ∙ e)

  pub plain_number : (n : ℕ) → Some n ≡ counted_by (digits_in text) → Some (pos n) ≡ numeral_of text
  plain_number n q = ap (with_sign pos) q ∙ read_plain _ ∙ sym (ap numeral_by said_plain)

  pub plain_none : None ≡ counted_by (digits_in text) → None ≡ numeral_of text
  plain_none q = ap (with_sign pos) q ∙ read_plain _ ∙ sym (ap numeral_by said_plain)

-- ---- such a number as a word of 64 bits holds it, and its negative
module _ (n : ℕ) (h : n ≤ most) where
  pub number_fits : SFits w64 (pos n)
  number_fits = record { sfits = omega arith }

  pub number_word : to_z w64 n ≡ pos n
  number_word = to_z_pos w64 n number_fits.sfits

  pub minus_is : pos 0 -ℤ to_z w64 n ≡ minus n
  minus_is = +ℤ_idl (neg_ℤ (to_z w64 n)) ∙ ap neg_ℤ number_word

  minus_small : (m : ℕ) → m ≤ most → SFits w64 (minus m)
  minus_small zero k = record { sfits = omega arith }
  minus_small (suc m) k = record { sfits = omega arith }

  pub minus_fits : SFits w64 (pos 0 -ℤ to_z w64 n)
  minus_fits = subst (SFits w64) (sym minus_is) (minus_small n h)

  pub minus_word : word (pos 0 -ℤ to_z w64 n) ≡ minus n
  minus_word = to_z-of_z w64 _ minus_fits ∙ minus_is

pub ruleset signs = (some_most, minus_number, minus_none, plain_number, plain_none, number_fits, number_word, minus_fits, minus_word)
