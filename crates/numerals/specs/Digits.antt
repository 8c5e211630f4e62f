-- Laws: digits read one after another, each number kept within a word.
use Prim.Native.Char.{code as letter}
use Rattle.std.specs.Prelude.{ℕ, ◌+◌, ◌-◌, ◌*◌, ◌<◌, ◌≤◌, min, Bool, true, false, List, [], ◌∷◌, ◌≡◌, refl, ltb, leb, length, get_or, drop, Option, Some, None}
use Rattle.std.proofs.Common.{arith, add-one, ◌∙◌, ap, sym, drop_of_length-le, drop-cons, lt-ltb, le-ltb, ltb-true, ltb-false}
use Rattle.std.specs.Char.{is_ascii_digit}
use Rattle.base.specs.BytesLaw.{and_both}
use Rattle.base.specs.Pick.{pick, pick_true, pick_false, pick_of, pick_if}
use Rattle.numerals.specs.Numerals.{is_digit, digits_on, most}
use Rattle.numerals.specs.Numerals.{kept, counted_by}

-- ---- a number that fits a word
pub few : (n : ℕ) → n < most → n ≡ kept n
unfolding kept
few n h = sym (pick_true _ _ _ (lt-ltb n most h))

pub many : (n : ℕ) → most ≤ n → most ≡ kept n
unfolding kept
many n h = sym (pick_false _ _ _ (le-ltb n most h))

pub kept_most : (n : ℕ) → kept n ≤ most
unfolding kept
kept_most n = pick_if (λ (m : ℕ). m ≤ most) (ltb n most) n most (λ t. let h : n < most = ltb-true n most t in omega arith) (λ t. omega arith)

pub no_more : (n : ℕ) → n ≤ most → n ≡ kept n
unfolding kept
no_more n h = pick_if (λ (m : ℕ). n ≡ m) (ltb n most) n most (λ t. refl) (λ t. let k : most ≤ n = ltb-false n most t in omega arith)

pub least_of : (n r : ℕ) → r ≡ min most n → r ≡ kept n
unfolding kept
least_of n r e = pick_if (λ (m : ℕ). r ≡ m) (ltb n most) n most (λ t. let h : n < most = ltb-true n most t in omega arith) (λ t. let h : most ≤ n = ltb-false n most t in omega arith)

-- a digit more, of a number that was cut to fit
cut_first : (n d : ℕ) → kept (10 * kept n + d) ≡ kept (10 * n + d)
cut_first n d = by (ltb n most) refl
  where
    by : (t : Bool) → ltb n most ≡ t → kept (10 * kept n + d) ≡ kept (10 * n + d)
    by true e = ap (λ (m : ℕ). kept (10 * m + d)) (sym (few n (ltb-true n most e)))
    by false e =
        let h : most ≤ n = ltb-false n most e in
        let k : most ≡ kept n = many n h in
        sym (many (10 * kept n + d) (omega arith)) ∙ many (10 * n + d) (omega arith)

pub cut_on : (n : ℕ) (cs : List ℕ) → counted_by (digits_on (kept n) cs) ≡ counted_by (digits_on n cs)
cut_on n [] = ap (λ (m : ℕ). Some m) (sym (no_more (kept n) (kept_most n)))
cut_on n (c ∷ cs) =
    let d = c - letter "0" in
    let e : counted_by (digits_on (10 * kept n + d) cs) ≡ counted_by (digits_on (10 * n + d) cs)
    = sym (cut_on (10 * kept n + d) cs) ∙ ap (λ (m : ℕ). counted_by (digits_on m cs)) (cut_first n d) ∙ cut_on (10 * n + d) cs in
    pick_of counted_by _ _ _ ∙ ap (λ (x : Option ℕ). pick (is_digit c) x None) e ∙ sym (pick_of counted_by _ _ _)

-- ---- the loop
-- a digit, as the library tests it
pub digit_test : (c : ℕ) → is_ascii_digit c ≡ is_digit c
unfolding is_digit
digit_test c = and_both (leb (letter "0") c) (leb c (letter "9"))

module _ (text : List ℕ) (n i : ℕ) where
  pub next_digit : (r : ℕ) → i < length text → is_digit (get_or text i 0) ≡ true → r ≡ kept (10 * n + (get_or text i 0 - letter "0"))
      → counted_by (digits_on r (drop (i + 1) text)) ≡ counted_by (digits_on n (drop i text))
  next_digit r h t e =
      let m = 10 * n + (get_or text i 0 - letter "0") in
      ap (λ (k : ℕ). counted_by (digits_on k (drop (i + 1) text))) e ∙ cut_on m (drop (i + 1) text)
      ∙ ap (λ (k : ℕ). counted_by (digits_on m (drop k text))) (add-one i)
      ∙ sym (ap (λ (cs : List ℕ). counted_by (digits_on n cs)) (drop-cons text i 0 h) ∙ ap counted_by (pick_true _ _ _ t))

  pub no_digit : i < length text → is_digit (get_or text i 0) ≡ false → None ≡ counted_by (digits_on n (drop i text))
  no_digit h t = sym (ap (λ (cs : List ℕ). counted_by (digits_on n cs)) (drop-cons text i 0 h) ∙ ap counted_by (pick_false _ _ _ t))

  pub last_digit : length text ≤ i → n ≤ most → Some n ≡ counted_by (digits_on n (drop i text))
  last_digit h l = ap (λ (k : ℕ). Some k) (no_more n l) ∙ ap (λ (cs : List ℕ). counted_by (digits_on n cs)) (sym (drop_of_length-le text h))

pub ruleset digit_steps = (digit_test, kept_most, next_digit, no_digit, last_digit)
