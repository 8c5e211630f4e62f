-- Document 02, M-110: "a byte given twice takes the later value, a byte not given is FFh". What each byte of an image is after a good reading, by calls.
use Rattle.std.specs.Prelude.{ℕ, suc, ◌+◌, ◌-◌, ◌<◌, ◌≤◌, Bool, true, false, List, [], ◌∷◌, ◌++◌, ◌≡◌, refl, eqb, ltb, length, get_or, drop, set, Result, Ok, Err}
use Rattle.std.proofs.Common.{arith, ◌∙◌, ap, sym, length-take, length-set, get_or-set_same, get_or-set_other, ltb-true, ltb-false, eqb-true}
use Rattle.std.proofs.lemmas.List.{length-replicate, get_or-replicate}
use Rattle.std.proofs.lemmas.List.Edits.{sets}
use Rattle.std.proofs.lemmas.Bool.{eqb-false}
use Rattle.base.specs.Exactly.{No}
use Rattle.base.specs.Pick.{pick_true, pick_false}
use Rattle.intelhex.specs.Faults.{image_size}
use Rattle.intelhex.specs.Answers.{read_as}
use Rattle.intelhex.specs.Lines.{count_in, address_in, data_in}
use Rattle.intelhex.specs.Reading.{Given, given, Found, lines_of, put_all, blank, Read, read, read_by, read_text}
use Rattle.intelhex.proofs.Underway.{put_append, put_length}
use Rattle.intelhex.specs.declared.Ending.{Ending}
use Rattle.intelhex.specs.declared.Ending.TheVariants.{End, Part}
use Rattle.roundtrip.specs.Grammar.{IsDataRecord, GoodLines, none, a_line, Faultless}
use Rattle.roundtrip.specs.Judging.{ended_faultless, faultless_ends}
use Rattle.roundtrip.specs.Calls.{ReadText, read-by}
use Rattle.roundtrip.specs.Refused.{tag}
use Rattle.intelhex.specs.declared.Fault.{Fault}

-- ---- stores

-- a record gives the byte of an address
abbrev pub Gives : Given → ℕ → Type 0
Gives g i = (g.address ≤ i) × (i < g.address + length g.bytes)

-- none of some does
abbrev pub NoneGives : List Given → ℕ → Type 0
NoneGives [] i = Unit {0}
NoneGives (g ∷ gs) i = No (Gives g i) × NoneGives gs i

stored_out : (s xs : List ℕ) (a i : ℕ) → No ((a ≤ i) × (i < a + length xs)) → get_or (sets s a xs) i 0 ≡ get_or s i 0
stored_out s [] a i n = refl
stored_out s (x ∷ xs) a i n =
    stored_out (set s a x) xs (suc a) i (λ p. let h = p.0 in let k = p.1 in n (omega arith, omega arith))
    ∙ get_or-set_other s a i x 0 (λ e. n (omega arith, omega arith))

stored-in : (s xs : List ℕ) (a i : ℕ) → a ≤ i → i < a + length xs → i < length s → get_or (sets s a xs) i 0 ≡ get_or xs (i - a) 0
stored-in s [] a i h k l = absurd (omega arith)
stored-in s (x ∷ xs) a i h k l = by (eqb i a) refl (λ m. stored-in (set s a x) xs (suc a) i m (omega arith) (let e = length-set s a x in omega arith))
  where
    by : (t : Bool) → eqb i a ≡ t → (suc a ≤ i → get_or (sets (set s a x) (suc a) xs) i 0 ≡ get_or xs (i - suc a) 0) → get_or (sets (set s a x) (suc a) xs) i 0 ≡ get_or (x ∷ xs) (i - a) 0
    by true e later =
        let q : i ≡ a = eqb-true _ _ e in
        let z : i - a ≡ 0 = omega arith in
        stored_out (set s a x) xs (suc a) i (λ p. let m = p.0 in omega arith)
        ∙ ap (λ (j : ℕ). get_or (set s a x) j 0) q ∙ get_or-set_same s a x 0 (omega arith) ∙ ap (λ (j : ℕ). get_or (x ∷ xs) j 0) (sym z)
    by false e later =
        let q : i ≡ a → ⊥ = eqb-false _ _ e in
        let z : i - a ≡ suc (i - suc a) = omega arith in
        later (omega arith) ∙ ap (λ (j : ℕ). get_or (x ∷ xs) j 0) (sym z)

put_none : (gs : List Given) (s : List ℕ) (i : ℕ) → NoneGives gs i → get_or (put_all gs s) i 0 ≡ get_or s i 0
put_none [] s i n = refl
put_none (g ∷ gs) s i n = put_none gs (sets s g.address g.bytes) i n.1 ∙ stored_out s g.bytes g.address i n.0

put_later : (xs ys : List Given) (g : Given) (s : List ℕ) (i : ℕ) → Gives g i → NoneGives ys i → i < length s → get_or (put_all (xs ++ (g ∷ ys)) s) i 0 ≡ get_or g.bytes (i - g.address) 0
put_later xs ys g s i h n l =
    let e = put_length xs s in
    ap (λ (m : List ℕ). get_or m i 0) (put_append xs (g ∷ ys) s)
    ∙ put_none ys (sets (put_all xs s) g.address g.bytes) i n
    ∙ stored-in (put_all xs s) g.bytes g.address i h.0 h.1 (omega arith)

-- ---- a good reading

-- where all was read, the image has its size, the text ended well, and the image is what it gives
pub record Good (text image after : List ℕ) : Type 0 where
  pub sized : length image ≡ image_size
  pub ended : (lines_of false false text).ending ≡ Ok End
  pub is : after ≡ put_all (lines_of false false text).given blank

good : (text image after : List ℕ) → read (Ok tt) after ≡ read_text text image → Good text image after
unfolding read_text tag
good text image after e = by (eqb (length image) image_size) refl
  where
    f : Found
    f = lines_of false false text

    ends : (x : Result Ending Fault) → f.ending ≡ x → length image ≡ image_size → read (Ok tt) after ≡ read_by image (put_all f.given blank) f.lines x → Good text image after
    ends (Ok End) q s h = record { sized = s; ended = q; is = ap (λ (r : Read). r.image) h }
    ends (Ok Part) q s h = absurd (let z : 0 ≡ 1 = ap (λ (r : Read). tag (read_as r.answer)) h in omega arith)
    ends (Err x) q s h = absurd (let z : 0 ≡ 1 = ap (λ (r : Read). tag (read_as r.answer)) h in omega arith)

    by : (t : Bool) → eqb (length image) image_size ≡ t → Good text image after
    by true t = ends f.ending refl (eqb-true _ _ t) (e ∙ pick_true _ _ _ t)
    by false t = absurd (let z : 0 ≡ 1 = ap (λ (r : Read). tag (read_as r.answer)) (e ∙ pick_false _ _ _ t) in omega arith)

pub good_reading : (text image after : List ℕ) → ReadText text image (Ok tt) after → Good text image after
good_reading text image after c = good text image after (read-by text image (Ok tt) after c)

-- what a text with no fault gives is what its lines give
pub gives : (text image after : List ℕ) (gs : List Given) → ReadText text image (Ok tt) after → Faultless text gs → after ≡ put_all gs blank
gives text image after gs c f = (good_reading text image after c).is ∙ ap (λ (x : List Given). put_all x blank) (faultless_ends text gs f).1

-- THEOREM: what was read had no fault: it is lines of data records, and the line of an end record
pub read_faultless : (text image after : List ℕ) → ReadText text image (Ok tt) after → (gs : List Given) × Faultless text gs
read_faultless text image after c = ((lines_of false false text).given, ended_faultless text (good_reading text image after c).ended)

-- what good lines give lies in the image
abbrev Within : List Given → Type 0
Within [] = Unit {0}
Within (g ∷ gs) = ((i : ℕ) → Gives g i → i < image_size) × Within gs

record_within : (bytes : List ℕ) → IsDataRecord bytes → (i : ℕ) → Gives (given (address_in bytes) (data_in bytes)) i → i < image_size
record_within bytes d i h =
    let l = length-take (count_in bytes) (drop 4 bytes) in
    let a = h.0 in
    let b = h.1 in
    by (ltb 0x0A3F i) refl (λ k. d.1.1.1 (i - address_in bytes, omega arith, omega arith))
  where
    by : (t : Bool) → ltb 0x0A3F i ≡ t → (0x0A3F < i → ⊥) → i < image_size
    by true e n = absurd (n (ltb-true _ _ e))
    by false e n = let k : i ≤ 0x0A3F = ltb-false _ _ e in omega arith

lines_within : (before : List ℕ) (gs : List Given) → GoodLines before gs → Within gs
lines_within before gs none = tt
lines_within before gs (a_line {bytes = bytes} {text = text} {gs = hs} f d l) = (record_within bytes d, lines_within text hs l)

within_at : (xs ys : List Given) (g : Given) → Within (xs ++ (g ∷ ys)) → (i : ℕ) → Gives g i → i < image_size
within_at [] ys g w = w.0
within_at (x ∷ xs) ys g w = within_at xs ys g w.1

-- THEOREM: a byte that is given has the value of the last line that gives it
pub later_value : (text image after : List ℕ) (xs ys : List Given) (g : Given) (i : ℕ) → ReadText text image (Ok tt) after → Faultless text (xs ++ (g ∷ ys))
    → Gives g i → NoneGives ys i → get_or after i 0 ≡ get_or g.bytes (i - g.address) 0
later_value text image after xs ys g i c f h n =
    let e = length-replicate {A = ℕ} image_size 0xFF in
    let l = within_at xs ys g (lines_within f.before (xs ++ (g ∷ ys)) f.lines) i h in
    ap (λ (m : List ℕ). get_or m i 0) (gives text image after (xs ++ (g ∷ ys)) c f) ∙ put_later xs ys g blank i h n (omega arith)

-- THEOREM: a byte that no line gives is FFh
pub not_given : (text image after : List ℕ) (gs : List Given) (i : ℕ) → ReadText text image (Ok tt) after → Faultless text gs → NoneGives gs i → i < image_size → get_or after i 0 ≡ 0xFF
not_given text image after gs i c f n l =
    ap (λ (m : List ℕ). get_or m i 0) (gives text image after gs c f) ∙ put_none gs blank i n ∙ get_or-replicate image_size i 0xFF 0 l

-- THEOREM: an image that was read has its size
pub read_size : (text image after : List ℕ) → ReadText text image (Ok tt) after → length after ≡ image_size
read_size text image after c =
    let g = good_reading text image after c in
    ap length g.is ∙ put_length (lines_of false false text).given blank ∙ length-replicate {A = ℕ} image_size 0xFF
