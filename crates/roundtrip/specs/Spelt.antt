-- Laws: what is written of an image is lines in form, each of a record with no fault.
use Prim.Native.Char.{code as letter}
use Prim.Native.Nat.{ℕ, zero, suc, ◌+◌, ◌-◌, ◌*◌, ◌/◌, ◌%◌, ◌<◌, ◌≤◌}
use native.Mathlib.Omega.{arith}
use Rattle.std.specs.Prelude.{Bool, true, false, List, [], ◌∷◌, ◌++◌, ◌≡◌, refl, ltb, length, get_or, take, drop}
use Rattle.std.proofs.Common.{◌∙◌, ap, sym, subst, length-drop, take-append-drop, length-take-le, get_or-drop, ltb-true, ltb-false}
use Rattle.std.proofs.Math.ListN.{length-append}
use Rattle.std.proofs.lemmas.List.{length-replicate}
use Rattle.std.proofs.lemmas.List.Edits.{sets}
use Rattle.std.proofs.Math.Seq.{take_at}
use Rattle.base.specs.Pick.{pick, pick_true, pick_false}
use Rattle.intelhex.specs.Faults.{image_size}
use Rattle.numerals.specs.Hex.{digit, digits_of}
use Rattle.intelhex.specs.Bytes.{total, sum_of, check_of}
use Rattle.intelhex.specs.Written.{line_feed, line_of, data_bytes, data_record, end_record, data_records, data_lines, text_of}
use Rattle.intelhex.specs.Lines.{address_in, data_in}
use Rattle.intelhex.specs.Reading.{Given, given, put_all, blank}
use Rattle.base.specs.Stores.{sets_append, sets_all}
use Rattle.roundtrip.specs.Grammar.{Digit, decimal, capital, Spells, nothing, a_byte, lf, IsLineOf, IsDataRecord, IsEndRecord, GoodLines, none, a_line, Faultless}

-- ---- digits

-- the digit of a number below 16 is one, and is worth it
written_digit : (n : ℕ) → n < 16 → Digit (digit n) n
unfolding digit
written_digit n h = by (ltb n 10) refl
  where
    by : (t : Bool) → ltb n 10 ≡ t → Digit (pick (ltb n 10) (letter "0" + n) (letter "A" + (n - 10))) n
    by true e = subst (λ (c : ℕ). Digit c n) (sym (pick_true _ _ _ e)) (decimal (ltb-true n 10 e))
    by false e =
        let k : 10 ≤ n = ltb-false n 10 e in
        let m : 10 + (n - 10) ≡ n = omega arith in
        subst (λ (c : ℕ). Digit c n) (sym (pick_false _ _ _ e)) (subst (Digit (letter "A" + (n - 10))) m (capital (omega arith)))

-- the digits of bytes spell them
abbrev pub AreBytes : List ℕ → Type 0
AreBytes s = (i : ℕ) → get_or s i 0 < 256

pub digits_spell : (bs : List ℕ) → AreBytes bs → Spells (digits_of bs) bs
digits_spell [] f = nothing
digits_spell (b ∷ bs) f =
    let h = f 0 in
    let e : 16 * (b / 16) + b % 16 ≡ b = omega arith in
    subst (λ (x : ℕ). Spells (digits_of (b ∷ bs)) (x ∷ bs)) e
    (a_byte (written_digit (b / 16) (omega arith)) (written_digit (b % 16) (omega arith)) (digits_spell bs (λ i. f (suc i))))

-- ---- a record with its check byte
abbrev pub checked : List ℕ → List ℕ
checked bytes = bytes ++ (check_of bytes ∷ [])

total_append : (xs ys : List ℕ) → total (xs ++ ys) ≡ total xs + total ys
total_append [] ys = let e : total ys ≡ 0 + total ys = omega arith in e
total_append (x ∷ xs) ys = let e = total_append xs ys in omega arith

pub checked_sum : (bytes : List ℕ) → sum_of (checked bytes) ≡ 0
unfolding sum_of check_of
checked_sum bytes = let e = total_append bytes (check_of bytes ∷ []) in omega arith

check_byte : (bytes : List ℕ) → check_of bytes < 256
unfolding check_of
check_byte bytes = omega arith

checked_bytes : (bytes : List ℕ) → AreBytes bytes → AreBytes (checked bytes)
checked_bytes bytes f = go bytes f (check_byte bytes)
  where
    go : (xs : List ℕ) → AreBytes xs → check_of bytes < 256 → AreBytes (xs ++ (check_of bytes ∷ []))
    go [] f c zero = c
    go [] f c (suc i) = omega arith
    go (x ∷ xs) f c zero = f 0
    go (x ∷ xs) f c (suc i) = go xs (λ j. f (suc j)) c i

pub written_line : (bytes : List ℕ) → AreBytes bytes → IsLineOf (checked bytes) (line_of bytes)
unfolding line_of
written_line bytes f = record { digits = digits_of (checked bytes); end = line_feed ∷ []; spells = digits_spell (checked bytes) (checked_bytes bytes f); ends = lf; is = refl }

-- ---- data records
module _ (address : ℕ) (part : List ℕ) (l : length part ≡ data_bytes) (f : AreBytes part) (low : address + data_bytes ≤ image_size) where
  data_are : AreBytes (data_record address part)
  unfolding data_record
  data_are zero = omega arith
  data_are (suc zero) = omega arith
  data_are (suc (suc zero)) = omega arith
  data_are (suc (suc (suc zero))) = omega arith
  data_are (suc (suc (suc (suc i)))) = f i

  data_address : address_in (checked (data_record address part)) ≡ address
  unfolding data_record
  data_address = omega arith

  data_data : data_in (checked (data_record address part)) ≡ part
  unfolding data_record
  data_data = take_at part (check_of (data_record address part) ∷ []) data_bytes l

  data_good : IsDataRecord (checked (data_record address part))
  unfolding data_record
  data_good =
      let n = length-append part (check_of (data_record address part) ∷ []) in
      let a = data_address in
      ((omega arith, (omega arith, λ t. absurd (let z : 0 ≡ 1 = t in omega arith))), (checked_sum (data_record address part), (refl, λ p. let h = p.1 in let k = p.2 in omega arith)))

-- what the records of an image give
abbrev pub givens : ℕ → ℕ → List ℕ → List Given
givens zero address image = []
givens (suc k) address image = given address (take data_bytes image) ∷ givens k (address + data_bytes) (drop data_bytes image)

pub written_lines : (k address : ℕ) (image : List ℕ) → length image ≡ data_bytes * k → address + data_bytes * k ≤ image_size → AreBytes image → GoodLines (data_lines k address image) (givens k address image)
unfolding data_lines
written_lines zero address image l h f = none
written_lines (suc k) address image l h f =
    let t = length-take-le data_bytes image (omega arith) in
    let d = length-drop data_bytes image in
    let part = take data_bytes image in
    let few : AreBytes part = part_bytes data_bytes image f in
    let low : address + data_bytes ≤ image_size = omega arith in
    let rest = written_lines k (address + data_bytes) (drop data_bytes image) (omega arith) (omega arith) (λ i. subst (λ (x : ℕ). x < 256) (sym (get_or-drop data_bytes image i 0)) (f (data_bytes + i))) in
    subst (λ (g : Given). GoodLines (data_lines (suc k) address image) (g ∷ givens k (address + data_bytes) (drop data_bytes image)))
    (λ j. given (data_address address part t few low j) (data_data address part t few low j))
    (a_line (written_line (data_record address part) (data_are address part t few low)) (data_good address part t few low) rest)
  where
    part_bytes : (n : ℕ) (xs : List ℕ) → AreBytes xs → AreBytes (take n xs)
    part_bytes zero xs f i = omega arith
    part_bytes (suc n) [] f i = f i
    part_bytes (suc n) (x ∷ xs) f zero = f 0
    part_bytes (suc n) (x ∷ xs) f (suc i) = part_bytes n xs (λ j. f (suc j)) i

-- ---- the text of an image
end_are : AreBytes end_record
end_are zero = omega arith
end_are (suc zero) = omega arith
end_are (suc (suc zero)) = omega arith
end_are (suc (suc (suc zero))) = omega arith
end_are (suc (suc (suc (suc i)))) = omega arith

end_good : IsEndRecord (checked end_record)
end_good = ((omega arith, (refl, λ t. (refl, refl))), (checked_sum end_record, refl))

-- it has no fault
pub text_faultless : (image : List ℕ) → length image ≡ image_size → AreBytes image → Faultless (text_of image) (givens data_records 0 image)
unfolding text_of
text_faultless image l f = record {
  before = data_lines data_records 0 image;
  last = line_of end_record;
  bytes = checked end_record;
  lines = written_lines data_records 0 image l (omega arith) f;
  formed = written_line end_record end_are;
  ends = end_good;
  is = refl;
}

-- and gives the image
put_givens : (k address : ℕ) (image s : List ℕ) → length image ≡ data_bytes * k → put_all (givens k address image) s ≡ sets s address image
put_givens zero address [] s l = refl
put_givens zero address (c ∷ cs) s l = absurd (omega arith)
put_givens (suc k) address image s l =
    let t = length-take-le data_bytes image (omega arith) in
    let d = length-drop data_bytes image in
    put_givens k (address + data_bytes) (drop data_bytes image) (sets s address (take data_bytes image)) (omega arith)
    ∙ ap (λ (n : ℕ). sets (sets s address (take data_bytes image)) (address + n) (drop data_bytes image)) (sym t)
    ∙ sym (sets_append s address (take data_bytes image) (drop data_bytes image))
    ∙ ap (sets s address) (take-append-drop data_bytes image)

pub text_gives : (image : List ℕ) → length image ≡ image_size → put_all (givens data_records 0 image) blank ≡ image
text_gives image l =
    let e = length-replicate {A = ℕ} image_size 0xFF in
    put_givens data_records 0 image blank l ∙ sets_all blank image (l ∙ sym e)
