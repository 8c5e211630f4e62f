-- Document 02, M-110: "Writing and reading back returns the image, and writing what was read from our own file returns that file"; "Each record's check byte makes the low
-- byte of the sum of all its bytes zero". By calls.
use Rattle.std.specs.Prelude.{ℕ, zero, suc, ◌+◌, List, [], ◌∷◌, ◌++◌, ◌≡◌, refl, length, drop, Result, Ok}
use Rattle.std.proofs.Common.{arith, append-nil, append_assoc, ◌∙◌, ap, sym, subst}
use Rattle.intelhex.specs.Faults.{image_size, text_size}
use Rattle.intelhex.specs.Reading.{Given}
use Rattle.intelhex.specs.Written.{data_bytes, data_records, text_of}
use Rattle.roundtrip.specs.Grammar.{GoodLines, none, a_line, Faultless, Records, no_record, a_record, SumZero}
use Rattle.roundtrip.specs.Calls.{ReadText, WriteText}
use Rattle.roundtrip.specs.Refused.{read_done, written_done, read_exactly, written_exactly, written_text}
use Rattle.roundtrip.specs.Spelt.{AreBytes, givens, text_faultless, text_gives}
use Rattle.roundtrip.specs.Values.{good_reading, gives}
use Rattle.intelhex.specs.declared.Fault.{Fault}
use Rattle.intelhex.specs.declared.Refused.{Refused}

-- THEOREM: what was written of an image has no fault, and is 164 data records of 16 bytes each, from address 0 on and rising, that give the image, and the end record
pub written_records : (image text₀ text : List ℕ) → AreBytes image → WriteText image text₀ (Ok tt) text → Faultless text (givens data_records 0 image)
written_records image text₀ text f w =
    let p = written_text image text₀ text w in
    subst (λ (x : List ℕ). Faultless x (givens data_records 0 image)) (sym p.1.1) (text_faultless image p.0 f)

-- THEOREM: what was written of an image is read back as the image
pub written_read : (image text₀ text image₀ after : List ℕ) (r : Result (Unit {0}) Refused) → AreBytes image → WriteText image text₀ (Ok tt) text → length image₀ ≡ image_size
    → ReadText text image₀ r after → (r ≡ Ok tt) × (after ≡ image)
written_read image text₀ text image₀ after r f w s c =
    let p = written_text image text₀ text w in
    let good = written_records image text₀ text f w in
    let e : r ≡ Ok tt = read_done r ((read_exactly text image₀ s r after c).1 (givens data_records 0 image, good)) in
    let c' : ReadText text image₀ (Ok tt) after = subst (λ (x : Result (Unit {0}) Refused). ReadText text image₀ x after) e c in
    (e, gives text image₀ after (givens data_records 0 image) c' good ∙ text_gives image p.0)

-- THEOREM: what was read from a file of ours is written as that file
pub read_written : (image₁ text₁ text image₀ image text₂ after : List ℕ) (w : Result (Unit {0}) Fault) → AreBytes image₁ → WriteText image₁ text₁ (Ok tt) text → ReadText text image₀ (Ok tt) image
    → length text₂ ≡ text_size → WriteText image text₂ w after → (w ≡ Ok tt) × (after ≡ text)
read_written image₁ text₁ text image₀ image text₂ after w f a b l c =
    let p = written_text image₁ text₁ text a in
    let i : image ≡ image₁ = (written_read image₁ text₁ text image₀ image (Ok tt) f a (good_reading text image₀ image b).sized b).1 in
    let s : length image ≡ image_size = ap length i ∙ p.0 in
    let e : w ≡ Ok tt = written_done w ((written_exactly image text₂ after w c).1 (s, l)) in
    let q = written_text image text₂ after (subst (λ (x : Result (Unit {0}) Fault). WriteText image text₂ x after) e c) in
    (e, q.1.1 ∙ ap text_of i ∙ sym p.1.1)

-- ---- sums

-- the records of a text with no fault, each with the sum 0
lines_records : (before : List ℕ) (gs : List Given) (rest : List ℕ) (rs : List (List ℕ)) → GoodLines before gs → Records rest rs → SumZero rs
    → (qs : List (List ℕ)) × Records (before ++ rest) qs × SumZero qs × (length qs ≡ length gs + length rs)
lines_records before gs rest rs none r z = (rs, r, z, let e : length rs ≡ 0 + length rs = omega arith in e)
lines_records before gs rest rs (a_line {bytes = bytes} {line = line} {text = text} {gs = hs} f d l) r z =
    let i = lines_records text hs rest rs l r z in
    let n = i.3 in (
      bytes ∷ i.0,
      subst (λ (x : List ℕ). Records x (bytes ∷ i.0)) (sym (append_assoc line text rest)) (a_record f i.1),
      (d.1.0, i.2),
      omega arith,
    )

faultless_records : (text : List ℕ) (gs : List Given) → Faultless text gs → (rs : List (List ℕ)) × Records text rs × SumZero rs × (length rs ≡ length gs + 1)
faultless_records text gs x =
    let one : Records x.last (x.bytes ∷ []) = subst (λ (y : List ℕ). Records y (x.bytes ∷ [])) (append-nil x.last) (a_record x.formed no_record) in
    let i = lines_records x.before gs x.last (x.bytes ∷ []) x.lines one (x.ends.1.0, tt) in
    (i.0, subst (λ (y : List ℕ). Records y i.0) (sym x.is) i.1, i.2, i.3)

givens_length : (k address : ℕ) (image : List ℕ) → length (givens k address image) ≡ k
givens_length zero address image = refl
givens_length (suc k) address image = ap suc (givens_length k (address + data_bytes) (drop data_bytes image))

-- THEOREM: what was written of an image is the lines of 165 records, and the bytes of each add up to 0
pub sum_zero : (image text₀ text : List ℕ) → AreBytes image → WriteText image text₀ (Ok tt) text
    → (rs : List (List ℕ)) × Records text rs × SumZero rs × (length rs ≡ 165)
sum_zero image text₀ text f w =
    let i = faultless_records text (givens data_records 0 image) (written_records image text₀ text f w) in
    let n = i.3 in
    let g = givens_length data_records 0 image in
    (i.0, i.1, i.2, omega arith)
