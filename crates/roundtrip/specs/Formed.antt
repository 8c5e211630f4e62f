-- Laws: a line in form is read as the record of its bytes.
use Prim.Native.Char.{code as letter}
use Rattle.std.specs.Prelude.{ℕ, zero, suc, ◌+◌, ◌-◌, ◌*◌, ◌/◌, ◌%◌, ◌<◌, ◌≤◌, Bool, true, false, List, [], ◌∷◌, ◌++◌, ◌≡◌, eqb, get_or, take, Ok}
use native.Mathlib.Omega.{arith}
use Rattle.std.proofs.Common.{true≢false, append_assoc, ◌∙◌, sym, length-append, take_at, eq-eqb, ne_eqb, lt-ltb, le-ltb}
use Rattle.std.proofs.Math.Path.{refl, ap}
use Rattle.std.proofs.Math.ListN.{length, get_or-append}
use Rattle.std.proofs.Math.Seq.{take-append-add}
use Rattle.std.proofs.lemmas.List.{get_or_at}
use Rattle.base.specs.Bits.{both}
use Rattle.base.specs.Pick.{pick, pick_true, pick_false}
use Rattle.intelhex.specs.Faults.{line_most}
use Rattle.intelhex.specs.Bytes.{between, is_digit, byte_of, bytes_of}
use Rattle.intelhex.specs.Written.{line_feed}
use Rattle.intelhex.specs.Lines.{before, carriage_return, without_return, standing, all_digits, form_of, count_in, judged}
use Rattle.intelhex.specs.Reading.{next_by, next_in, next_of, next}
use Rattle.intelhex.specs.declared.lines.Standing.TheVariants.{Line}
use Rattle.roundtrip.specs.Digits.{digit_is, digit_small}
use Rattle.roundtrip.specs.Grammar.{Spells, nothing, a_byte, LineEnd, lf, cr_lf, IsLineOf}

-- ---- digits

-- neither LF nor CR is a digit
not_feed : is_digit line_feed ≡ true → ⊥
unfolding is_digit between both pick
not_feed e = true≢false (sym e)

not_return : is_digit carriage_return ≡ true → ⊥
unfolding is_digit between both pick
not_return e = true≢false (sym e)

-- there are two for each byte, all are digits, and they stand for the bytes
pub spells_length : (digits bytes : List ℕ) → Spells digits bytes → length digits ≡ 2 * length bytes
spells_length digits bytes nothing = refl
spells_length digits bytes (a_byte {digits = ds} {bytes = bs} h l s) = let e = spells_length ds bs s in omega arith

pub spells_all : (digits bytes : List ℕ) → Spells digits bytes → all_digits digits ≡ true
unfolding both
spells_all digits bytes nothing = refl
spells_all digits bytes (a_byte {digits = ds} {bytes = bs} h l s) = pick_true _ _ _ (digit_is _ _ h).0 ∙ pick_true _ _ _ (digit_is _ _ l).0 ∙ spells_all ds bs s

pub spells_bytes : (digits bytes : List ℕ) → Spells digits bytes → bytes_of digits ≡ bytes
unfolding byte_of
spells_bytes digits bytes nothing = refl
spells_bytes digits bytes (a_byte {digits = ds} {bytes = bs} p q s) = λ j. (16 * (digit_is _ _ p).1 j + (digit_is _ _ q).1 j) ∷ spells_bytes ds bs s j

pub spells_digit : (digits bytes : List ℕ) → Spells digits bytes → (i : ℕ) → i < length digits → is_digit (get_or digits i 0) ≡ true
spells_digit digits bytes nothing i h = absurd (omega arith)
spells_digit digits bytes (a_byte {digits = ds} {bytes = bs} p q s) zero h = (digit_is _ _ p).0
spells_digit digits bytes (a_byte {digits = ds} {bytes = bs} p q s) (suc zero) h = (digit_is _ _ q).0
spells_digit digits bytes (a_byte {digits = ds} {bytes = bs} p q s) (suc (suc i)) h = spells_digit ds bs s i (omega arith)

-- the first byte of them is one
pub spells_count : (digits bytes : List ℕ) → Spells digits bytes → count_in bytes ≤ 255
spells_count digits bytes nothing = omega arith
spells_count digits bytes (a_byte p q s) = let a = digit_small _ _ p in let b = digit_small _ _ q in omega arith

-- no LF is among them
spells_before : (digits bytes rest : List ℕ) → Spells digits bytes → before (digits ++ rest) ≡ length digits + before rest
spells_before digits bytes rest nothing = let e : before rest ≡ 0 + before rest = omega arith in e
spells_before digits bytes rest (a_byte {high = h} {low = l} {digits = ds} {bytes = bs} p q s) =
    let a : eqb h line_feed ≡ false = ne_eqb h line_feed (λ e. not_feed (ap is_digit (sym e) ∙ (digit_is _ _ p).0)) in
    let b : eqb l line_feed ≡ false = ne_eqb l line_feed (λ e. not_feed (ap is_digit (sym e) ∙ (digit_is _ _ q).0)) in
    let i = spells_before ds bs rest s in
    let e : before (h ∷ l ∷ ds ++ rest) ≡ suc (suc (before (ds ++ rest)))
    = pick_false _ _ _ a ∙ ap suc (pick_false _ _ _ b) in
    omega arith

-- ---- a line

-- the characters of a line in form, and what follows, as far as a line can go
first_is : (line rest : List ℕ) → length line ≤ line_most → take line_most (line ++ rest) ≡ line ++ take (line_most - length line) rest
first_is line rest h =
    let e : length line + (line_most - length line) ≡ line_most = omega arith in
    ap (λ (k : ℕ). take k (line ++ rest)) (sym e) ∙ take-append-add line rest (line_most - length line)

-- what a text begins with, by how many characters stand before its first LF
pub by_before : (text : List ℕ) (m n : ℕ) → (length text ≡ 0 → ⊥) → before (take line_most text) ≡ m → m < length (take line_most text) → without_return text m ≡ n → standing text ≡ Line n (m + 1)
unfolding standing
by_before text m n some b h w =
    pick_false _ _ _ (ne_eqb (length text) 0 some) ∙ pick_true _ _ _ (lt-ltb (before (take line_most text)) (length (take line_most text)) (omega arith))
    ∙ (λ j. Line (without_return text (b j)) (b j + 1)) ∙ ap (λ (k : ℕ). Line k (m + 1)) w

no_return : (text : List ℕ) (n : ℕ) → (get_or text n 0 ≡ carriage_return → ⊥) → without_return text (n + 1) ≡ n + 1
unfolding without_return
no_return text n c =
    let e : n + 1 - 1 ≡ n = omega arith in
    pick_false _ _ _ (ne_eqb (n + 1) 0 (λ z. omega arith)) ∙ pick_false _ _ _ (ne_eqb (get_or text (n + 1 - 1) 0) carriage_return (λ z. c (ap (λ (k : ℕ). get_or text k 0) (sym e) ∙ z)))

one_return : (text : List ℕ) (n : ℕ) → get_or text n 0 ≡ carriage_return → without_return text (n + 1) ≡ n
unfolding without_return
one_return text n c =
    let e : n + 1 - 1 ≡ n = omega arith in
    pick_false _ _ _ (ne_eqb (n + 1) 0 (λ z. omega arith)) ∙ pick_true _ _ _ (eq-eqb (get_or text (n + 1 - 1) 0) carriage_return (ap (λ (k : ℕ). get_or text k 0) e ∙ c)) ∙ e

-- what stands before an LF
before_lf : (rest : List ℕ) → before (line_feed ∷ rest) ≡ 0
before_lf rest = pick_true _ _ _ refl

before_cr_lf : (rest : List ℕ) → before (carriage_return ∷ line_feed ∷ rest) ≡ 1
before_cr_lf rest = pick_false _ _ _ refl ∙ ap suc (pick_true _ _ _ refl)

module _ (digits bytes : List ℕ) (s : Spells digits bytes) where
  -- no LF stands before its end, and the last of its digits is no CR
  before_end : (rest : List ℕ) → before (letter ":" ∷ digits ++ rest) ≡ suc (length digits + before rest)
  before_end rest = pick_false _ _ _ (ne_eqb (letter ":") line_feed (λ e. omega arith)) ∙ ap suc (spells_before digits bytes rest s)

  last_no_return : (rest : List ℕ) → get_or (letter ":" ∷ digits ++ rest) (length digits) 0 ≡ carriage_return → ⊥
  last_no_return rest = go digits s
    where
      go : (ds : List ℕ) → Spells ds bytes → get_or (letter ":" ∷ ds ++ rest) (length ds) 0 ≡ carriage_return → ⊥
      go [] t e = absurd (let z : 58 ≡ 13 = e in omega arith)
      go (d ∷ ds) t e = not_return (ap is_digit (sym e ∙ get_or-append (d ∷ ds) rest 0 (length ds) (omega arith)) ∙ spells_digit (d ∷ ds) bytes t (length ds) (omega arith))

  -- a text that begins with it begins with a line of those characters
  formed_stands : (end rest : List ℕ) → LineEnd end → length digits ≤ 520 → standing ((letter ":" ∷ digits ++ end) ++ rest) ≡ Line (length digits + 1) (length (letter ":" ∷ digits ++ end))
  formed_stands end rest lf few =
      let line = letter ":" ∷ digits ++ (line_feed ∷ []) in
      let l = length-append digits (line_feed ∷ []) in
      let f = first_is line rest (omega arith) in
      let Z = take (line_most - length line) rest in
      let z : line ++ Z ≡ letter ":" ∷ digits ++ (line_feed ∷ Z) = ap (λ (x : List ℕ). letter ":" ∷ x) (append_assoc digits (line_feed ∷ []) Z) in
      let b : before (take line_most (line ++ rest)) ≡ length digits + 1 = ap before (f ∙ z) ∙ before_end (line_feed ∷ Z) ∙ (let y = before_lf Z in omega arith) in
      let a = length-append line rest in
      let c = ap length f ∙ length-append line Z in
      let r : get_or (line ++ rest) (length digits) 0 ≡ carriage_return → ⊥ =
      λ e. last_no_return (line_feed ∷ rest) (ap (λ (x : List ℕ). get_or (letter ":" ∷ x) (length digits) 0) (sym (append_assoc digits (line_feed ∷ []) rest)) ∙ e) in
      let k : length digits + 1 + 1 ≡ length line = omega arith in
      by_before (line ++ rest) (length digits + 1) (length digits + 1) (λ e. omega arith) b (omega arith) (no_return (line ++ rest) (length digits) r)
      ∙ ap (Line (length digits + 1)) k
  formed_stands end rest cr_lf few =
      let line = letter ":" ∷ digits ++ (carriage_return ∷ line_feed ∷ []) in
      let l = length-append digits (carriage_return ∷ line_feed ∷ []) in
      let f = first_is line rest (omega arith) in
      let Z = take (line_most - length line) rest in
      let z : line ++ Z ≡ letter ":" ∷ digits ++ (carriage_return ∷ line_feed ∷ Z) = ap (λ (x : List ℕ). letter ":" ∷ x) (append_assoc digits (carriage_return ∷ line_feed ∷ []) Z) in
      let b : before (take line_most (line ++ rest)) ≡ length digits + 1 + 1
      = ap before (f ∙ z) ∙ before_end (carriage_return ∷ line_feed ∷ Z) ∙ (let y = before_cr_lf Z in omega arith) in
      let a = length-append line rest in
      let c = ap length f ∙ length-append line Z in
      let d : letter ":" ∷ digits ++ (carriage_return ∷ line_feed ∷ rest) ≡ line ++ rest = ap (λ (x : List ℕ). letter ":" ∷ x) (sym (append_assoc digits (carriage_return ∷ line_feed ∷ []) rest)) in
      let g : length (letter ":" ∷ digits) ≡ length digits + 1 = omega arith in
      let r : get_or (line ++ rest) (length digits + 1) 0 ≡ carriage_return
      = ap (λ (x : List ℕ). get_or x (length digits + 1) 0) (sym d) ∙ get_or_at (letter ":" ∷ digits) carriage_return (line_feed ∷ rest) 0 (length digits + 1) g in
      let k : length digits + 1 + 1 + 1 ≡ length line = omega arith in
      by_before (line ++ rest) (length digits + 1 + 1) (length digits + 1) (λ e. omega arith) b (omega arith) (one_return (line ++ rest) (length digits + 1) r)
      ∙ ap (Line (length digits + 1)) k

  -- its characters are those digits behind a colon, and its form is that of their bytes
  formed_take : (end rest : List ℕ) → take (length digits + 1) ((letter ":" ∷ digits ++ end) ++ rest) ≡ letter ":" ∷ digits
  formed_take end rest =
      let e : length (letter ":" ∷ digits) ≡ length digits + 1 = omega arith in
      ap (λ (x : List ℕ). take (length digits + 1) (letter ":" ∷ x)) (append_assoc digits end rest) ∙ take_at (letter ":" ∷ digits) (end ++ rest) (length digits + 1) e

  formed_form : 5 ≤ length bytes → form_of (letter ":" ∷ digits) ≡ Ok (length bytes)
  unfolding form_of
  formed_form h =
      let l = spells_length digits bytes s in
      let e : (suc (length digits) - 1) / 2 ≡ length bytes = omega arith in
      pick_true _ _ _ refl ∙ pick_true _ _ _ (spells_all digits bytes s) ∙ pick_true _ _ _ (eq-eqb ((suc (length digits) - 1) % 2) 0 (omega arith))
      ∙ pick_false _ _ _ (le-ltb ((suc (length digits) - 1) / 2) 5 (omega arith)) ∙ ap (λ (n : ℕ). Ok n) e

-- a text that begins with a line of five bytes or more, as many as their count says, goes on with the record of these bytes
pub formed_next : (bytes line rest : List ℕ) (more : Bool) → IsLineOf bytes line → 5 ≤ length bytes → length bytes ≡ count_in bytes + 5
    → next false more (line ++ rest) ≡ next_by (length line) bytes (judged bytes)
unfolding next
formed_next bytes line rest more f h c =
    let d = f.digits in
    let s = f.spells in
    let l = spells_length d bytes s in
    let k = spells_count d bytes s in
    let L = letter ":" ∷ d ++ f.end in
    pick_false _ _ _ refl
    ∙ ap (λ (x : List ℕ). next_of more (x ++ rest) (standing (x ++ rest))) f.is
    ∙ ap (next_of more (L ++ rest)) (formed_stands d bytes s f.end rest f.ends (omega arith))
    ∙ ap (λ (x : List ℕ). next_in (length L) x (form_of x)) (formed_take d bytes s f.end rest)
    ∙ ap (next_in (length L) (letter ":" ∷ d)) (formed_form d bytes s h)
    ∙ ap (λ (x : List ℕ). next_by (length L) x (judged x)) (spells_bytes d bytes s)
    ∙ ap (λ (x : List ℕ). next_by (length x) bytes (judged bytes)) (sym f.is)
