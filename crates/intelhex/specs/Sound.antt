-- Laws: what a line that stands in a text, its form and its record keep to.
use Prim.Native.Char.{code as letter}
use Rattle.std.specs.Prelude.{◌≡◌, ℕ, ◌+◌, ◌-◌, ◌*◌, ◌/◌, ◌%◌, ◌<◌, ◌≤◌, Bool, true, false, List, length, take, drop, ◌==◌, ◌≢◌, nat_lt, slice_index, slice_index_or, refl, Result, Ok, Err, Option, Some, None, min, position}
use Rattle.std.specs.List.{list_all}
use Rattle.std.proofs.lemmas.List.{take_min}
use Rattle.std.proofs.Common.{arith, ◌∙◌, ap, length-drop, length-take, take_all, eqb-true, eq-eqb, ne_eqb, ltb-true, ltb-false, lt-ltb, le-ltb}
use Rattle.std.proofs.Math.Path.{sym}
use Rattle.base.specs.Pick.{pick, pick_true, pick_false, pick_if, pick_both}
use Rattle.intelhex.specs.Faults.{line_most}
use Rattle.intelhex.specs.Bytes.{is_digit, sum_of}
use Rattle.intelhex.specs.Written.{line_feed}
use Rattle.intelhex.specs.Lines.{before, carriage_return, without_return, standing, all_digits, form_of, count_in, address_in, type_in, is_bad_end, is_above, judged}
use Rattle.intelhex.specs.Ends.{colon_some, ended_at, unended, digits_all}
use Rattle.intelhex.specs.declared.Fault.TheVariants.{NoColon, NoDigit, OddDigits, FewBytes, WrongCount, EndNotZero, CheckByte, UnknownType, AboveImage}
use Rattle.intelhex.specs.declared.lines.Standing.{Standing}
use Rattle.intelhex.specs.declared.lines.Standing.TheVariants.{Nothing, Unended, Endless, Line}
use Rattle.intelhex.specs.declared.record.Judged.{Judged}
use Rattle.intelhex.specs.declared.record.Judged.TheVariants as judged-as
use Rattle.intelhex.specs.declared.Fault.{Fault}

-- ---- lines

pub most_within : (text : List ℕ) → (length (take line_most text) ≤ length text) × (length (take line_most text) ≤ line_most)
most_within text = let e = length-take line_most text in (omega arith, omega arith)

-- what a text begins with, by the first of its characters that can be those of a line, and by where an LF stands among them
module _ (text : List ℕ) where
  pub stands_nothing : length text ≡ 0 → Nothing ≡ standing text
  unfolding standing
  stands_nothing e = sym (pick_true _ _ _ (eq-eqb (length text) 0 e))

  -- where there is none
  module _ (u : length (take line_most text) ≤ before (take line_most text)) where
    none : (length text ≡ 0 → ⊥) → pick (nat_lt (length text) line_most) Unended Endless ≡ standing text
    unfolding standing
    none some =
        sym (
        pick_false _ _ _ (ne_eqb (length text) 0 some)
        ∙ pick_false _ _ _ (le-ltb (before (take line_most text)) (length (take line_most text)) u))

    pub stands_endless : line_most ≤ length text → Endless ≡ standing text
    stands_endless k = sym (pick_false _ _ _ (le-ltb (length text) line_most k)) ∙ none (λ z. omega arith)

    pub stands_unended : (length text ≡ 0 → ⊥) → length text < line_most → Unended ≡ standing text
    stands_unended some k = sym (pick_true _ _ _ (lt-ltb (length text) line_most k)) ∙ none some

module _ (text : List ℕ) (most : ℕ) (m : most ≡ min (length text) line_most) where
  first_is : take most text ≡ take line_most text
  first_is = let e : most ≡ min line_most (length text) = omega arith in ap (λ (n : ℕ). take n text) e ∙ take_min line_most text

  module _ (end : Option ℕ) (p : end ≡ position (λ c. c == line_feed) (take most text)) where
    pub stands_line : (n characters size : ℕ) → end ≡ Some n → characters ≡ without_return text n → size ≡ n + 1 → Line characters size ≡ standing text
    unfolding standing
    stands_line n characters size h c s =
        let b = ended_at (take line_most text) n (ap (position (λ c. c == line_feed)) (sym first_is) ∙ sym p ∙ h) in
        let k = b.1 in
        let f = b.0 in
        let l = length-take line_most text in
        (λ j. Line (c j) (s j)) ∙ (λ j. Line (without_return text (f j)) (f j + 1))
        ∙ sym (
        pick_false _ _ _ (ne_eqb (length text) 0 (λ z. omega arith))
        ∙ pick_true _ _ _ (lt-ltb (before (take line_most text)) (length (take line_most text)) (omega arith)))

    pub no_end : end ≡ None → length (take line_most text) ≤ before (take line_most text)
    no_end h = unended (take line_most text) (ap (position (λ c. c == line_feed)) (sym first_is) ∙ sym p ∙ h)

-- a line lies in the text
abbrev pub LineLies : List ℕ → Standing → Type 0
LineLies text Nothing = Unit {0}
LineLies text Unended = Unit {0}
LineLies text Endless = Unit {0}
LineLies text (Line characters size) = (characters < size) × ((size ≤ length text) × (size ≤ line_most))

return_few : (text : List ℕ) (n : ℕ) → without_return text n ≤ n
unfolding without_return
return_few text n =
    pick_both (λ (k : ℕ). k ≤ n) (n == 0) _ _ (omega arith) (pick_both (λ (k : ℕ). k ≤ n) (slice_index text (n - 1) == carriage_return) _ _ (omega arith) (omega arith))

pub line_lies : (text : List ℕ) → LineLies text (standing text)
unfolding standing
line_lies text =
    pick_both (LineLies text) (length text == 0) _ _ tt
    (pick_if (LineLies text) (nat_lt (before (take line_most text)) (length (take line_most text))) _ _
    (λ t.
    let h = ltb-true (before (take line_most text)) (length (take line_most text)) t in
    let m = most_within text in
    let a = m.0 in
    let b = m.1 in
    let r = return_few text (before (take line_most text)) in
    (omega arith, (omega arith, omega arith)))
    (λ t. pick_both (LineLies text) (nat_lt (length text) line_most) _ _ tt tt))

-- ---- forms

-- there are digits for just as many bytes
abbrev pub FormFits : List ℕ → Result ℕ Fault → Type 0
FormFits line (Ok n) = (length line ≡ 2 * n + 1) × (5 ≤ n)
FormFits line (Err f) = Unit {0}

pub form_fits : (line : List ℕ) → FormFits line (form_of line)
unfolding form_of
form_fits line =
    pick_if (FormFits line) (slice_index line 0 == _) _ _
    (λ t.
    let some : 1 ≤ length line = colon_some line (eqb-true _ _ t) in
    pick_both (FormFits line) (all_digits (drop 1 line)) _ _
    (pick_if (FormFits line) ((length line - 1) % 2 == 0) _ _
    (λ e.
    let even : (length line - 1) % 2 ≡ 0 = eqb-true _ _ e in
    pick_if (FormFits line) (nat_lt ((length line - 1) / 2) 5) _ _ (λ f. tt)
    (λ f. let many : 5 ≤ (length line - 1) / 2 = ltb-false _ _ f in (omega arith, many)))
    (λ e. tt))
    tt)
    (λ t. tt)

-- a line's form, by its first character, and by what was found of those after it
module _ (line : List ℕ) where
  pub form_no_colon : (slice_index_or line 0 0 ≢ letter ":") → Err NoColon ≡ form_of line
  unfolding form_of
  form_no_colon n = sym (pick_false _ _ _ (ne_eqb (slice_index line 0) (letter ":") n))

  pub form_empty : length line < 1 → Err NoColon ≡ form_of line
  form_empty h = form_no_colon (λ z. let k = colon_some line z in omega arith)

  module _ (cs : List ℕ) (colon : slice_index_or line 0 0 ≡ letter ":") (e : cs ≡ take (length line - 1) (drop 1 line)) (good : Bool) (g : good ≡ list_all (λ c. is_digit c) cs) where
    rest : cs ≡ drop 1 line
    rest = let l = length-drop 1 line in e ∙ take_all (length line - 1) (drop 1 line) (omega arith)

    many : length cs ≡ length line - 1
    many = ap length rest ∙ length-drop 1 line

    digits : good ≡ all_digits (drop 1 line)
    digits = g ∙ sym (digits_all cs) ∙ ap all_digits rest

    pub form_no_digit : good ≡ false → Err NoDigit ≡ form_of line
    unfolding form_of
    form_no_digit n = sym (pick_true _ _ _ (eq-eqb (slice_index line 0) (letter ":") colon) ∙ pick_false _ _ _ (sym digits ∙ n))

    module _ (t : good ≡ true) where
      of_digits : (f : Result ℕ Fault) → f ≡ pick ((length line - 1) % 2 == 0) (pick (nat_lt ((length line - 1) / 2) 5) (Err FewBytes) (Ok ((length line - 1) / 2))) (Err OddDigits) → f ≡ form_of line
      unfolding form_of
      of_digits f q = q ∙ sym (pick_true _ _ _ (eq-eqb (slice_index line 0) (letter ":") colon) ∙ pick_true _ _ _ (sym digits ∙ t))

      pub form_odd : (length cs % 2 ≢ 0) → Err OddDigits ≡ form_of line
      form_odd n = of_digits _ (sym (pick_false _ _ _ (ne_eqb ((length line - 1) % 2) 0 (λ z. let l = many in n (omega arith)))))

      pub form_few : length cs % 2 ≡ 0 → length cs < 10 → Err FewBytes ≡ form_of line
      form_few q h =
          let l = many in
          of_digits _ (sym (pick_true _ _ _ (eq-eqb ((length line - 1) % 2) 0 (omega arith)) ∙ pick_true _ _ _ (lt-ltb ((length line - 1) / 2) 5 (omega arith))))

      pub form_bytes : length cs % 2 ≡ 0 → 10 ≤ length cs → Ok (length cs / 2) ≡ form_of line
      form_bytes q h =
          let l = many in
          let b : length cs / 2 ≡ (length line - 1) / 2 = omega arith in
          ap Ok b
          ∙ of_digits _ (sym (pick_true _ _ _ (eq-eqb ((length line - 1) % 2) 0 (omega arith)) ∙ pick_false _ _ _ (le-ltb ((length line - 1) / 2) 5 (omega arith))))

-- ---- records

-- a data record that can be taken has its own address and count, and so many data bytes
abbrev pub RecordFits : List ℕ → Result Judged Fault → Type 0
RecordFits bytes (Ok (judged-as.Data address count)) = (address ≡ address_in bytes) × ((count ≡ count_in bytes) × ((length bytes ≡ count + 5) × (is_above count address ≡ false)))
RecordFits bytes (Ok judged-as.End) = Unit {0}
RecordFits bytes (Err f) = Unit {0}

pub record_fits : (bytes : List ℕ) → RecordFits bytes (judged bytes)
unfolding judged
record_fits bytes =
    pick_if (RecordFits bytes) (length bytes == count_in bytes + 5) _ _
    (λ l.
    pick_both (RecordFits bytes) (is_bad_end (type_in bytes) (count_in bytes) (address_in bytes)) _ _ tt
    (pick_both (RecordFits bytes) (sum_of bytes == 0) _ _
    (pick_both (RecordFits bytes) (type_in bytes == 1) _ _ tt
    (pick_both (RecordFits bytes) (type_in bytes == 0) _ _
    (pick_if (RecordFits bytes) (is_above (count_in bytes) (address_in bytes)) _ _ (λ a. tt) (λ a. (refl, (refl, (eqb-true _ _ l, a)))))
    tt))
    tt))
    (λ l. tt)

-- a record, by what was found of it
module _ (bytes : List ℕ) where
  pub judged_miscounted : (length bytes ≢ count_in bytes + 5) → Err WrongCount ≡ judged bytes
  unfolding judged
  judged_miscounted n = sym (pick_false _ _ _ (ne_eqb (length bytes) (count_in bytes + 5) n))

  module _ (address : ℕ) (a : address ≡ address_in bytes) (l : length bytes ≡ count_in bytes + 5) (bad : Bool) (b : bad ≡ is_bad_end (type_in bytes) (count_in bytes) address) where
    counted : length bytes == count_in bytes + 5 ≡ true
    counted = eq-eqb (length bytes) (count_in bytes + 5) l

    ended : is_bad_end (type_in bytes) (count_in bytes) (address_in bytes) ≡ bad
    ended = (λ j. is_bad_end (type_in bytes) (count_in bytes) (sym a j)) ∙ sym b

    pub judged_bad_end : bad ≡ true → Err EndNotZero ≡ judged bytes
    unfolding judged
    judged_bad_end t = sym (pick_true _ _ _ counted ∙ pick_true _ _ _ (ended ∙ t))

    module _ (f : bad ≡ false) (sum : ℕ) (s : sum ≡ sum_of bytes) where
      pub judged_unsummed : (sum ≢ 0) → Err CheckByte ≡ judged bytes
      unfolding judged
      judged_unsummed n = sym (pick_true _ _ _ counted ∙ pick_false _ _ _ (ended ∙ f) ∙ pick_false _ _ _ (ne_eqb (sum_of bytes) 0 (λ z. n (s ∙ z))))

      module _ (z : sum ≡ 0) where
        summed : (j : Result Judged Fault)
            → j ≡ pick (type_in bytes == 1) (Ok judged-as.End)
            (pick (type_in bytes == 0) (pick (is_above (count_in bytes) (address_in bytes)) (Err AboveImage) (Ok (judged-as.Data (address_in bytes) (count_in bytes)))) (Err UnknownType))
            → j ≡ judged bytes
        unfolding judged
        summed j e = e ∙ sym (pick_true _ _ _ counted ∙ pick_false _ _ _ (ended ∙ f) ∙ pick_true _ _ _ (eq-eqb (sum_of bytes) 0 (sym s ∙ z)))

        pub judged_end : type_in bytes ≡ 1 → Ok judged-as.End ≡ judged bytes
        judged_end t = summed _ (sym (pick_true _ _ _ (eq-eqb (type_in bytes) 1 t)))

        pub judged_unknown : (type_in bytes ≢ 0) → (type_in bytes ≢ 1) → Err UnknownType ≡ judged bytes
        judged_unknown m n = summed _ (sym (pick_false _ _ _ (ne_eqb (type_in bytes) 1 n) ∙ pick_false _ _ _ (ne_eqb (type_in bytes) 0 m)))

        module _ (t : type_in bytes ≡ 0) (above : Bool) (v : above ≡ is_above (count_in bytes) address) where
          lies : is_above (count_in bytes) (address_in bytes) ≡ above
          lies = (λ j. is_above (count_in bytes) (sym a j)) ∙ sym v

          typed : (j : Result Judged Fault) → j ≡ pick (is_above (count_in bytes) (address_in bytes)) (Err AboveImage) (Ok (judged-as.Data (address_in bytes) (count_in bytes))) → j ≡ judged bytes
          typed j e = summed j (e ∙ sym (pick_false _ _ _ (ne_eqb (type_in bytes) 1 (λ o. omega arith)) ∙ pick_true _ _ _ (eq-eqb (type_in bytes) 0 t)))

          pub judged_above : above ≡ true → Err AboveImage ≡ judged bytes
          judged_above q = typed _ (sym (pick_true _ _ _ (lies ∙ q)))

          pub judged_data : above ≡ false → Ok (judged-as.Data address (count_in bytes)) ≡ judged bytes
          judged_data q = (λ j. Ok (judged-as.Data (a j) (count_in bytes))) ∙ typed _ (sym (pick_false _ _ _ (lies ∙ q)))
