-- Document 02, M-110: "5 first, an image not of 2,624 bytes", where what is there of a text is read; by calls.
use Rattle.std.specs.Prelude.{ℕ, zero, suc, ◌≤◌, Bool, true, false, List, ◌≡◌, eqb, length, take, drop, Result, Ok, Err}
use Rattle.std.proofs.Common.{arith, ◌∙◌, ap, sym}
use Rattle.base.specs.Exactly.{No, Iff, apart}
use Rattle.base.specs.Pick.{pick_both}
use Rattle.intelhex.specs.Faults.{image_size, number_of_fault}
use Rattle.intelhex.specs.Answers.{done, awaited, refused, ended_as}
use Rattle.intelhex.specs.Bytes.{bytes_of}
use Rattle.intelhex.specs.Lines.{standing, form_of, judged}
use Rattle.intelhex.specs.Reading.{Next, data-record, end-record, stop, next_by, next_in, next_of, next_after, next, ends_at, on_next, lines_from, lines_of, Went}
use Rattle.intelhex.proofs.Underway.{lines_unsized}
use Rattle.intelhex.specs.declared.Ending.{Ending}
use Rattle.intelhex.specs.declared.Ending.TheVariants.{End, Part}
use Rattle.intelhex.specs.declared.Fault.{Fault}
use Rattle.intelhex.specs.declared.Fault.TheVariants.{WrongSize, TooLong, NoLineEnd, NoColon, NoDigit, OddDigits, FewBytes, WrongCount, EndNotZero, CheckByte, UnknownType, AboveImage, NoEndRecord, AfterEnd}
use Rattle.intelhex.specs.declared.Taken.{Taken}
use Rattle.intelhex.specs.declared.lines.Standing.{Standing}
use Rattle.intelhex.specs.declared.lines.Standing.TheVariants.{Nothing, Unended, Endless, Line}
use Rattle.intelhex.specs.declared.record.Judged.{Judged}
use Rattle.intelhex.specs.declared.record.Judged.TheVariants as judged-as
use Rattle.roundtrip.specs.Calls.{ReadLines, went-by}
use Rattle.roundtrip.specs.Found.{FormSays, form_says}
use Rattle.roundtrip.specs.Pieces.{call_is}
use Rattle.roundtrip.specs.Refused.{number}
use Rattle.roundtrip.specs.Records.{FaultSays, RecordSays, record_says}

-- ---- a text, whatever its size, is refused by 16 or more
abbrev OfText : Result Ending Fault → Type 0
OfText (Ok End) = Unit {0}
OfText (Ok Part) = Unit {0}
OfText (Err f) = 16 ≤ number_of_fault f

abbrev NextOfText : Next → Type 0
NextOfText (data-record size g) = Unit {0}
NextOfText (end-record size) = Unit {0}
NextOfText (stop e) = OfText e

fault-of : (bytes : List ℕ) (f : Fault) → FaultSays bytes f → 16 ≤ number_of_fault f
fault-of bytes WrongCount r = omega arith
fault-of bytes EndNotZero r = omega arith
fault-of bytes CheckByte r = omega arith
fault-of bytes UnknownType r = omega arith
fault-of bytes AboveImage r = omega arith
fault-of bytes WrongSize r = absurd r
fault-of bytes TooLong r = absurd r
fault-of bytes NoLineEnd r = absurd r
fault-of bytes NoColon r = absurd r
fault-of bytes NoDigit r = absurd r
fault-of bytes OddDigits r = absurd r
fault-of bytes FewBytes r = absurd r
fault-of bytes NoEndRecord r = absurd r
fault-of bytes AfterEnd r = absurd r

record_of : (size : ℕ) (bytes : List ℕ) (j : Result Judged Fault) → RecordSays bytes j → NextOfText (next_by size bytes j)
record_of size bytes (Ok (judged-as.Data address count)) r = tt
record_of size bytes (Ok judged-as.End) r = tt
record_of size bytes (Err f) r = fault-of bytes f r

form-of : (size : ℕ) (line : List ℕ) (x : Result ℕ Fault) → FormSays line x → NextOfText (next_in size line x)
form-of size line (Ok n) s = let bytes = bytes_of (drop 1 line) in record_of size bytes (judged bytes) (record_says bytes)
form-of size line (Err f) s = omega (arith, s)

ends-of : (more : Bool) (e : Result Ending Fault) → OfText e → OfText (ends_at more e)
ends-of more e h = pick_both OfText more _ _ tt h

standing_of : (more : Bool) (text : List ℕ) (x : Standing) → NextOfText (next_of more text x)
standing_of more text Nothing = ends-of more (Err NoEndRecord) (omega arith)
standing_of more text Unended = ends-of more (Err NoLineEnd) (omega arith)
standing_of more text Endless = omega arith
standing_of more text (Line n size) = form-of size (take n text) (form_of (take n text)) (form_says (take n text))

next-of : (over more : Bool) (text : List ℕ) → NextOfText (next over more text)
unfolding next next_after
next-of over more text =
    pick_both NextOfText over _ _ (pick_both NextOfText (eqb (length text) 0) _ _ (ends-of more (Ok End) tt) (omega arith)) (standing_of more text (standing text))

lines-of : (k : ℕ) (more over : Bool) (text : List ℕ) → OfText (lines_from k more over text).ending
unfolding lines_from
lines-of zero more over text = tt
lines-of (suc k) more over text = by (next over more text) (next-of over more text) (λ o t. lines-of k more o t)
  where
    by : (x : Next) → NextOfText x → ((o : Bool) (t : List ℕ) → OfText (lines_from k more o t).ending) → OfText (on_next (λ o t. lines_from k more o t) over text x).ending
    by (data-record size g) h later = later false (drop size text)
    by (end-record size) h later = later true (drop size text)
    by (stop e) h later = h

-- ---- by calls
not_five : (e : Result Ending Fault) → OfText e → No (ended_as e ≡ refused 5)
unfolding number
not_five (Ok End) h = apart number done (refused 5) (λ e. omega arith)
not_five (Ok Part) h = apart number awaited (refused 5) (λ e. omega arith)
not_five (Err f) h = apart number (refused (number_of_fault f)) (refused 5) (λ e. omega (arith, h))

-- THEOREM: reading what is there of a text is refused by 5 exactly when the image has another size
pub refused_lines_5 : (over more : Bool) (text image after : List ℕ) (back : Taken) → ReadLines over more text image back after
    → Iff (ended_as back.ending ≡ refused 5) (No (length image ≡ image_size))
unfolding lines_of
refused_lines_5 over more text image after back c = (
  (λ q l. not_five (lines_of more over text).ending (lines-of (suc (length text)) more over text) (sym (ap (λ (w : Went). ended_as w.ending) (call_is over more text image back after l c)) ∙ q)),
  λ n. ap (λ (w : Went). ended_as w.ending) (went-by over more text image back after c ∙ sym (lines_unsized over more text image n)),
)

-- THEOREM: and then it leaves the image as found
pub unsized_leaves : (over more : Bool) (text image after : List ℕ) (back : Taken) → ReadLines over more text image back after → No (length image ≡ image_size) → after ≡ image
unsized_leaves over more text image after back c n = ap (λ (w : Went). w.image) (went-by over more text image back after c ∙ sym (lines_unsized over more text image n))
