-- Laws: records put into a text as lines, one after the other.
use Prim.Native.Char.{code as letter}
use Rattle.std.specs.Prelude.{◌≡◌, ℕ, zero, suc, ◌+◌, ◌-◌, ◌*◌, ◌<◌, List, [], ◌∷◌, ◌++◌, length, take, drop, ◌≢◌, slice_set, refl, Ok, Err}
use native.Mathlib.Omega.{arith}
use Rattle.std.proofs.Common.{zero-add, add-one, ◌∙◌, length-append, length-drop, length-take-le, take_at}
use Rattle.std.proofs.Math.Path.{ap, sym}
use Rattle.std.proofs.Math.Seq.{sets, drop-append_seam}
use borrow.Author.Tests.{eq-eqb, ne_eqb}
use Rattle.base.specs.Pick.{pick_true, pick_false}
use Rattle.base.specs.Bits.{both}
use Rattle.intelhex.specs.Faults.{image_size, text_size}
use Rattle.numerals.specs.Hex.{digits_of}
use Rattle.numerals.specs.Spelling.{digits_length, digits_append}
use Rattle.intelhex.specs.Bytes.{check_of}
use Rattle.intelhex.specs.Written.{line_feed, line_of, data_bytes, data_record, end_record, data_records, data_lines, text_of, wrote, write_text}
use Rattle.base.specs.Stores.{sets_append, sets_all}
use Rattle.intelhex.specs.declared.Fault.TheVariants.{WrongSize}

-- ---- a line

-- a colon, two digits for each byte and for the check byte, and LF
pub line_length : (bytes : List ℕ) → length (line_of bytes) ≡ 2 * length bytes + 4
unfolding line_of
line_length bytes =
    let a = length-append (digits_of (bytes ++ (check_of bytes ∷ []))) (line_feed ∷ []) in
    let b = digits_length (bytes ++ (check_of bytes ∷ [])) in
    let c = length-append bytes (check_of bytes ∷ []) in
    omega arith

pub line_put : (bytes s s₁ s₂ s₃ s₄ : List ℕ) (at check end : ℕ) → check ≡ check_of bytes → end ≡ at + 2 * length bytes → s₁ ≡ slice_set s at (letter ":") → s₂ ≡ sets s₁ (at + 1) (digits_of bytes)
    → s₃ ≡ sets s₂ (end + 1) (digits_of (check ∷ [])) → s₄ ≡ slice_set s₃ (end + 3) line_feed → s₄ ≡ sets s at (line_of bytes)
unfolding line_of
line_put bytes s s₁ s₂ s₃ s₄ at check end c n e₁ e₂ e₃ e₄ =
    let k = check_of bytes ∷ [] in
    let d = digits_length bytes in
    let p : at + 1 + length (digits_of bytes) ≡ end + 1 = omega arith in
    let l = length-append (digits_of bytes) (digits_of k) in
    let q : at + 1 + length (digits_of bytes ++ digits_of k) ≡ end + 3 = omega arith in
    let three : s₃ ≡ sets s₁ (at + 1) (digits_of bytes ++ digits_of k)
    = e₃ ∙ (λ j. sets (e₂ j) (sym p j) (digits_of (c j ∷ []))) ∙ sym (sets_append s₁ (at + 1) (digits_of bytes) (digits_of k)) in
    e₄ ∙ (λ j. slice_set (three j) (sym q j) line_feed) ∙ sym (sets_append s₁ (at + 1) (digits_of bytes ++ digits_of k) (line_feed ∷ []))
    ∙ (λ j. sets (e₁ j) (add-one at j) (sym (digits_append bytes k) j ++ (line_feed ∷ [])))

-- ---- a data record
record_length : (address : ℕ) (given : List ℕ) → length given ≡ data_bytes → length (data_record address given) ≡ 20
unfolding data_record
record_length address given g = omega arith

-- ---- the loop

-- where it stands, after so many records: what is left of the image, and how many records it makes
pub record Putting (image text₀ text rest : List ℕ) (size count : ℕ) : Type 0 where
  pub whole : size ≡ data_bytes
  pub records : ℕ
  pub few : count + records ≡ data_records
  pub bytes_left : length rest ≡ data_bytes * records
  pub left : sets text (44 * count) (data_lines records (data_bytes * count) rest) ≡ sets text₀ 0 (data_lines data_records 0 image)

pub putting_start : (image text rest : List ℕ) (size count : ℕ) → length image ≡ image_size → rest ≡ image → size ≡ data_bytes → count ≡ 0 → Putting image text text rest size count
putting_start image text rest size count l r s z = record {
  whole = s;
  records = data_records;
  few = omega arith;
  bytes_left = ap length r ∙ l;
  left = λ j. sets text (44 * z j) (data_lines data_records (data_bytes * z j) (r j));
}

module _ (image text₀ text rest : List ℕ) (size count : ℕ) (u : Putting image text₀ text rest size count) where
  -- the next bytes of the image, and what is left behind them
  module _ (given after : List ℕ) (i : ℕ) (e : rest ≡ given ++ after) (l : length given ≡ size) (k : i ≡ count) where
    pub given_length : length given ≡ data_bytes
    given_length = l ∙ u.whole

    pub count_few : i < data_records
    count_few =
        let a : length rest ≡ length given + length after = ap length e ∙ length-append given after in
        let g = given_length in
        let b = u.bytes_left in
        let f = u.few in
        omega arith

    pub putting_next : (text' bytes : List ℕ) (size' count' : ℕ) → size' ≡ size → count' ≡ count + 1 → bytes ≡ data_record (i * data_bytes) given
        → text' ≡ sets text (i * 44) (line_of bytes) → Putting image text₀ text' after size' count'
    unfolding data_lines
    putting_next text' bytes size' count' z c b t =
        let a : length rest ≡ length given + length after = ap length e ∙ length-append given after in
        let g = given_length in
        let x = u.bytes_left in
        let f = u.few in
        let m : u.records ≡ suc (u.records - 1) = omega arith in
        let n : length bytes ≡ 20 = ap length b ∙ record_length (i * data_bytes) given g in
        let y = line_length bytes in
        let at : 44 * count' ≡ i * 44 + length (line_of bytes) = omega arith in
        let address : data_bytes * count' ≡ data_bytes * count + data_bytes = omega arith in
        let place : i * 44 ≡ 44 * count = omega arith in
        let first : i * data_bytes ≡ data_bytes * count = omega arith in
        let taken : given ≡ take data_bytes rest = sym (ap (take data_bytes) e ∙ take_at given after data_bytes g) in
        let dropped : after ≡ drop data_bytes rest
        = sym (ap (λ (n : ℕ). drop n rest) (sym g) ∙ ap (drop (length given)) e ∙ drop-append_seam given after) in
        let D : List ℕ = data_lines (u.records - 1) (data_bytes * count + data_bytes) after in
        record {
          whole = z ∙ u.whole;
          records = u.records - 1;
          few = omega arith;
          bytes_left = omega arith;
          left =
              (λ j. sets (t j) (at j) (data_lines (u.records - 1) (address j) after))
              ∙ sym (sets_append text (i * 44) (line_of bytes) D)
              ∙ (λ j. sets text (place j) (line_of ((b ∙ (λ h. data_record (first h) (taken h))) j) ++ data_lines (u.records - 1) (data_bytes * count + data_bytes) (dropped j)))
              ∙ ap (λ (r : ℕ). sets text (44 * count) (data_lines r (data_bytes * count) rest)) (sym m)
              ∙ u.left;
        }

  pub putting_end : length rest < size → text ≡ sets text₀ 0 (data_lines data_records 0 image)
  unfolding data_lines
  putting_end h =
      let x = u.bytes_left in
      let w = u.whole in
      let k : u.records ≡ 0 = omega arith in
      ap (λ (r : ℕ). sets text (44 * count) (data_lines r (data_bytes * count) rest)) (sym k) ∙ u.left

-- ---- the text
pub lines_length : (k address : ℕ) (image : List ℕ) → length image ≡ data_bytes * k → length (data_lines k address image) ≡ 44 * k
unfolding data_lines
lines_length zero address image e = refl
lines_length (suc k) address image e =
    let t = length-take-le data_bytes image (omega arith) in
    let d = length-drop data_bytes image in
    let r = record_length address (take data_bytes image) t in
    let l = line_length (data_record address (take data_bytes image)) in
    let m = lines_length k (address + data_bytes) (drop data_bytes image) (omega arith) in
    let a = length-append (line_of (data_record address (take data_bytes image))) (data_lines k (address + data_bytes) (drop data_bytes image)) in
    omega arith

pub text_length : (image : List ℕ) → length image ≡ image_size → length (text_of image) ≡ text_size
unfolding text_of
text_length image e =
    let m = lines_length data_records 0 image e in
    let l = line_length end_record in
    let a = length-append (data_lines data_records 0 image) (line_of end_record) in
    omega arith

pub text_put : (image s s₁ s₂ : List ℕ) → length image ≡ image_size → length s ≡ text_size → s₁ ≡ sets s 0 (data_lines data_records 0 image)
    → s₂ ≡ sets s₁ (44 * data_records) (line_of end_record) → s₂ ≡ text_of image
unfolding text_of
text_put image s s₁ s₂ e l a b =
    let m : 0 + length (data_lines data_records 0 image) ≡ 44 * data_records = zero-add _ ∙ lines_length data_records 0 image e in
    b ∙ (λ j. sets (a j) (sym m j) (line_of end_record)) ∙ sym (sets_append s 0 (data_lines data_records 0 image) (line_of end_record))
    ∙ sets_all s (data_lines data_records 0 image ++ line_of end_record) (text_length image e ∙ sym l)

-- ---- what writing answers
module _ (image text : List ℕ) where
  pub image_unsized : (length image ≢ image_size) → wrote (Err WrongSize) text ≡ write_text image text
  unfolding write_text both
  image_unsized n = sym (pick_false _ _ _ (pick_false _ _ _ (ne_eqb (length image) image_size n)))

  module _ (e : length image ≡ image_size) where
    pub text_unsized : (length text ≢ text_size) → wrote (Err WrongSize) text ≡ write_text image text
    unfolding write_text both
    text_unsized n = sym (pick_false _ _ _ (pick_true _ _ _ (eq-eqb (length image) image_size e) ∙ ne_eqb (length text) text_size n))

    pub text_written : (text' : List ℕ) → length text ≡ text_size → text' ≡ text_of image → wrote (Ok tt) text' ≡ write_text image text
    unfolding write_text both
    text_written text' l h =
        ap (wrote (Ok tt)) h ∙ sym (pick_true _ _ _ (pick_true _ _ _ (eq-eqb (length image) image_size e) ∙ eq-eqb (length text) text_size l))
