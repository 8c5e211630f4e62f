-- Document 02, M-110, "Refusals": 5 and 16 to 20, each exactly when, and what a refusal leaves; by calls.
use Rattle.std.specs.Prelude.{ℕ, Bool, List, ◌⊎◌, ◌≡◌, length, Result, Ok, Err}
use Rattle.std.proofs.Common.{arith, ◌∙◌}
use Rattle.std.proofs.Math.Bool.{true, false}
use Rattle.std.proofs.Math.Logic.{inl, inr}
use Rattle.std.proofs.Math.Path.{refl, ap, sym, subst}
use Rattle.std.proofs.Math.Dec.{eqb}
use borrow.Author.Tests.{eqb-true, eqb-false, eq-eqb}
use Rattle.base.specs.Exactly.{No, Iff}
use Rattle.base.specs.Pick.{pick_true, pick_both}
use Rattle.intelhex.specs.Faults.{image_size, text_size, number_of_fault}
use Rattle.intelhex.specs.Answers.{Answered, done, awaited, refused, refused_after, written_as, read_as}
use Rattle.intelhex.specs.Reading.{Given, lines_of, put_all, blank, Read, read_by, read_text, refusing}
use Rattle.intelhex.proofs.Underway.{text_unsized}
use Rattle.intelhex.specs.Written.{Wrote, wrote, text_of}
use Rattle.intelhex.specs.Putting as putting
use Rattle.intelhex.specs.declared.Ending.{Ending}
use Rattle.intelhex.specs.declared.Ending.TheVariants.{End, Part}
use Rattle.intelhex.specs.declared.Fault.{Fault}
use Rattle.intelhex.specs.declared.Fault.TheVariants.{WrongSize}
use Rattle.roundtrip.specs.Grammar.{Cause, out_of_form, check_byte, another_type, above_image, no_end_record, after_end, Faultless}
use Rattle.roundtrip.specs.Judging.{Ends, ended_faultless, never_part, refused_cause, cause_ends, faultless_ends}
use Rattle.roundtrip.specs.Calls.{ReadText, read-by, WriteText, wrote_by}
use Rattle.intelhex.specs.declared.Refused.{Refused}

-- whether an answer is a refusal, its number, and its lines, 0 for any other
unfoldable pub tag : Answered → ℕ
tag done = 0
tag awaited = 0
tag (refused n) = 1
tag (refused_after n lines) = 1

unfoldable pub number : Answered → ℕ
number done = 0
number awaited = 0
number (refused n) = n
number (refused_after n lines) = n

lines_in : Answered → ℕ
lines_in done = 0
lines_in awaited = 0
lines_in (refused n) = 0
lines_in (refused_after n lines) = lines

-- an answer that says that all is done
pub read_done : (r : Result (Unit {0}) Refused) → read_as r ≡ done → r ≡ Ok tt
unfolding tag
read_done (Ok x) e = refl
read_done (Err x) e = absurd (let z : 1 ≡ 0 = ap tag e in omega arith)

pub written_done : (w : Result (Unit {0}) Fault) → written_as w ≡ done → w ≡ Ok tt
unfolding tag
written_done (Ok x) e = refl
written_done (Err f) e = absurd (let z : 1 ≡ 0 = ap tag e in omega arith)

-- ---- reading

-- what reading into an image of its size comes to, by how the text ends
module _ (text image : List ℕ) (s : length image ≡ image_size) where
  pub sized : (e : Result Ending Fault) → Ends text e → read_text text image ≡ read_by image (put_all (lines_of false false text).given blank) (lines_of false false text).lines e
  unfolding read_text
  sized e h = pick_true _ _ _ (eq-eqb (length image) image_size s) ∙ ap (read_by image (put_all (lines_of false false text).given blank) (lines_of false false text).lines) h

  module _ (r : Result (Unit {0}) Refused) (after : List ℕ) (c : ReadText text image r after) where
    answer_is : (e : Result Ending Fault) → Ends text e → r ≡ (read_by image (put_all (lines_of false false text).given blank) (lines_of false false text).lines e).answer
    answer_is e h = ap (λ (x : Read). x.answer) (read-by text image r after c ∙ sized e h)

    cause : (n lines : ℕ) (e : Result Ending Fault) → Ends text e → read_as r ≡ refused_after n lines → Cause text n lines
    unfolding tag number lines_in
    cause n lines (Ok End) h q = absurd (let z : 0 ≡ 1 = ap tag (sym (ap read_as (answer_is (Ok End) h)) ∙ q) in omega arith)
    cause n lines (Ok Part) h q = absurd (never_part text h)
    cause n lines (Err x) h q =
        let w = sym (ap read_as (answer_is (Err x) h)) ∙ q in
        subst (λ (m : ℕ). Cause text m lines) (ap number w) (subst (Cause text (number_of_fault x)) (ap lines_in w) (refused_cause text x h))

    caused : (n lines : ℕ) → Cause text n lines → read_as r ≡ refused_after n lines
    caused n lines x =
        let e = cause_ends text n lines x in
        ap read_as (answer_is (Err e.0) e.1.0) ∙ λ j. refused_after (e.2 j) (e.1.1 j)

    -- THEOREM: a text is refused by a number, after so many lines, exactly when it has a cause of that number behind as many: 16, 17, 18, 19 or 20, of the first record at fault
    pub refused_exactly : (n lines : ℕ) → Iff (read_as r ≡ refused_after n lines) (Cause text n lines)
    refused_exactly n lines = (cause n lines (lines_of false false text).ending refl, caused n lines)

    faultless : (e : Result Ending Fault) → Ends text e → read_as r ≡ done → (gs : List Given) × Faultless text gs
    unfolding tag
    faultless (Ok End) h q = ((lines_of false false text).given, ended_faultless text h)
    faultless (Ok Part) h q = absurd (never_part text h)
    faultless (Err x) h q = absurd (let z : 1 ≡ 0 = ap tag (sym (ap read_as (answer_is (Err x) h)) ∙ q) in omega arith)

    -- THEOREM: it is read exactly when it has no fault
    pub read_exactly : Iff (read_as r ≡ done) ((gs : List Given) × Faultless text gs)
    read_exactly = (faultless (lines_of false false text).ending refl, λ x. ap read_as (answer_is (Ok End) (faultless_ends text x.0 x.1).0))

-- no text has a cause of 5
no_five : (text : List ℕ) (n lines : ℕ) → Cause text n lines → n ≡ 5 → ⊥
no_five text n lines (out_of_form b s a) e = omega arith
no_five text n lines (check_byte b g s) e = omega arith
no_five text n lines (another_type b g s t u) e = omega arith
no_five text n lines (above_image b g s t u) e = omega arith
no_five text n lines (no_end_record b) e = omega arith
no_five text n lines (after_end b g d m) e = omega arith

-- THEOREM: reading is refused by 5 exactly when the image has another size
pub refused_5 : (text image after : List ℕ) (r : Result (Unit {0}) Refused) → ReadText text image r after → Iff (read_as r ≡ refused_after 5 0) (No (length image ≡ image_size))
refused_5 text image after r c =
    ((λ q s. no_five text 5 0 ((refused_exactly text image s r after c 5 0).0 q) refl), λ n. ap (λ (x : Read). read_as x.answer) (read-by text image r after c ∙ sym (text_unsized text image n)))

-- what leaves the image as found, or is read
LeavesImage : List ℕ → Read → Type 0
LeavesImage image x = (x.image ≡ image) ⊎ (x.answer ≡ Ok tt)

ends_leave : (image made : List ℕ) (lines : ℕ) (e : Result Ending Fault) → LeavesImage image (read_by image made lines e)
unfolding LeavesImage
ends_leave image made lines (Ok End) = inr refl
ends_leave image made lines (Ok Part) = inl refl
ends_leave image made lines (Err x) = inl refl

reading_leaves : (text image : List ℕ) → LeavesImage image (read_text text image)
unfolding read_text LeavesImage
reading_leaves text image =
    pick_both (LeavesImage image) (eqb (length image) image_size) _ _
    (ends_leave image (put_all (lines_of false false text).given blank) (lines_of false false text).lines (lines_of false false text).ending) (inl refl)

-- THEOREM: a refused reading leaves the image as found
pub refused_leaves_image : (text image after : List ℕ) (f : Fault) (lines : ℕ) → ReadText text image (refusing f lines) after → after ≡ image
unfolding LeavesImage tag
refused_leaves_image text image after f lines c =
    by (subst (LeavesImage image) (sym (read-by text image (refusing f lines) after c)) (reading_leaves text image))
  where
    by : (after ≡ image) ⊎ (refusing f lines ≡ Ok tt) → after ≡ image
    by (inl e) = e
    by (inr e) = absurd (let z : 1 ≡ 0 = ap (λ (x : Result (Unit {0}) Refused). tag (read_as x)) e in omega arith)

-- ---- writing

-- THEOREM: writing is refused by 5 exactly when the image or the text has another size, and by no other number
module _ (image text after : List ℕ) (r : Result (Unit {0}) Fault) (c : WriteText image text r after) where
  left : No (length image ≡ image_size) ⊎ No (length text ≡ text_size) → wrote r after ≡ wrote (Err WrongSize) text
  left (inl n) = wrote_by image text r after c ∙ sym (putting.image_unsized image text n)
  left (inr n) = by (eqb (length image) image_size) refl
    where
      by : (t : Bool) → eqb (length image) image_size ≡ t → wrote r after ≡ wrote (Err WrongSize) text
      by true e = wrote_by image text r after c ∙ sym (putting.text_unsized image text (eqb-true _ _ e) n)
      by false e = wrote_by image text r after c ∙ sym (putting.image_unsized image text (eqb-false _ _ e))

  unsized : No (length image ≡ image_size) ⊎ No (length text ≡ text_size) → r ≡ Err WrongSize
  unsized n = ap (λ (x : Wrote). x.answer) (left n)

  written : length image ≡ image_size → length text ≡ text_size → (r ≡ Ok tt) × (after ≡ text_of image)
  written e l =
      let w = wrote_by image text r after c ∙ sym (putting.text_written image text e (text_of image) l refl) in
      (ap (λ (x : Wrote). x.answer) w, ap (λ (x : Wrote). x.text) w)

  sizes : (n : ℕ) → written_as r ≡ refused n → No (length image ≡ image_size) ⊎ No (length text ≡ text_size)
  unfolding tag
  sizes n q = by (eqb (length image) image_size) (eqb (length text) text_size) refl refl
    where
      by : (a b : Bool) → eqb (length image) image_size ≡ a → eqb (length text) text_size ≡ b → No (length image ≡ image_size) ⊎ No (length text ≡ text_size)
      by true true e l = absurd (let z : 0 ≡ 1 = ap tag (sym (ap written_as (written (eqb-true _ _ e) (eqb-true _ _ l)).0) ∙ q) in omega arith)
      by true false e l = inr (eqb-false _ _ l)
      by false b e l = inl (eqb-false _ _ e)

  pub refused_write_5 : Iff (written_as r ≡ refused 5) (No (length image ≡ image_size) ⊎ No (length text ≡ text_size))
  refused_write_5 = (sizes 5, λ x. ap written_as (unsized x))

  pub refused_write_no_other : (n : ℕ) → written_as r ≡ refused n → n ≡ 5
  unfolding number
  refused_write_no_other n q = ap number (sym q ∙ ap written_as (unsized (sizes n q)))

  pub written_exactly : Iff (written_as r ≡ done) ((length image ≡ image_size) × (length text ≡ text_size))
  unfolding tag
  written_exactly = (there (eqb (length image) image_size) (eqb (length text) text_size) refl refl, λ p. ap written_as (written p.0 p.1).0)
    where
      there : (a b : Bool) → eqb (length image) image_size ≡ a → eqb (length text) text_size ≡ b → written_as r ≡ done → (length image ≡ image_size) × (length text ≡ text_size)
      there true true e l q = (eqb-true _ _ e, eqb-true _ _ l)
      there true false e l q = absurd (let z : 1 ≡ 0 = ap tag (sym (ap written_as (unsized (inr (eqb-false _ _ l)))) ∙ q) in omega arith)
      there false b e l q = absurd (let z : 1 ≡ 0 = ap tag (sym (ap written_as (unsized (inl (eqb-false _ _ e)))) ∙ q) in omega arith)

-- what was written is the text of the image
pub written_text : (image text after : List ℕ) → WriteText image text (Ok tt) after → (length image ≡ image_size) × ((length text ≡ text_size) × (after ≡ text_of image))
written_text image text after c =
    let p = (written_exactly image text after (Ok tt) c).0 refl in
    (p.0, (p.1, (written image text after (Ok tt) c p.0 p.1).1))

-- THEOREM: a refused writing leaves the text as found
pub refused_leaves_text : (image text after : List ℕ) (f : Fault) → WriteText image text (Err f) after → after ≡ text
refused_leaves_text image text after f c =
    ap (λ (x : Wrote). x.text) (left image text after (Err f) c (sizes image text after (Err f) c (number_of_fault f) refl))
