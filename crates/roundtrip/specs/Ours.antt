-- The request M-110: "164 data records of 16 bytes from 0000h to 0A30h, then `:00000001FF`. Capitals, LF after each line". Lines of ours, character by character; by calls.
use Prim.Native.Char.{Char, code as letter}
use Rattle.std.specs.Prelude.{ℕ, ◌*◌, List, [], ◌∷◌, ◌++◌, map, ◌≡◌, refl, take, drop, Ok}
use Rattle.std.proofs.Common.{append_assoc, ◌∙◌, ap, take_at, drop_at}
use Rattle.base.specs.Pick.{pick}
use Rattle.numerals.specs.Hex.{digit}
use Rattle.intelhex.specs.Bytes.{sum_of, check_of}
use Rattle.intelhex.specs.Putting.{lines_length}
use Rattle.intelhex.specs.Written.{line_of, data_record, end_record, data_bytes, data_records, data_lines, text_of}
use Rattle.roundtrip.specs.Calls.{WriteText}
use Rattle.roundtrip.specs.Refused.{written_text}

-- sixteen bytes with every digit, and the line of them at address 0
abbrev sixteen : List ℕ
sixteen = 0x01 ∷ 0x23 ∷ 0x45 ∷ 0x67 ∷ 0x89 ∷ 0xAB ∷ 0xCD ∷ 0xEF ∷ 0xFE ∷ 0xDC ∷ 0xBA ∷ 0x98 ∷ 0x76 ∷ 0x54 ∷ 0x32 ∷ 0x10 ∷ []

abbrev first : List Char
first =
    ":" ∷ "1" ∷ "0" ∷ "0" ∷ "0" ∷ "0" ∷ "0" ∷ "0" ∷ "0"
    ∷ "0" ∷ "1" ∷ "2" ∷ "3" ∷ "4" ∷ "5" ∷ "6" ∷ "7" ∷ "8" ∷ "9" ∷ "A" ∷ "B" ∷ "C" ∷ "D" ∷ "E" ∷ "F"
    ∷ "F" ∷ "E" ∷ "D" ∷ "C" ∷ "B" ∷ "A" ∷ "9" ∷ "8" ∷ "7" ∷ "6" ∷ "5" ∷ "4" ∷ "3" ∷ "2" ∷ "1" ∷ "0" ∷ "F" ∷ "8" ∷ []

abbrev last : List Char
last = ":" ∷ "0" ∷ "0" ∷ "0" ∷ "0" ∷ "0" ∷ "0" ∷ "0" ∷ "1" ∷ "F" ∷ "F" ∷ []

-- computed
first_line : line_of (data_record 0 sixteen) ≡ map letter first ++ (0x0A ∷ [])
unfolding line_of data_record check_of sum_of digit pick
first_line = refl

last_line : line_of end_record ≡ map letter last ++ (0x0A ∷ [])
unfolding line_of check_of sum_of digit pick
last_line = refl

-- THEOREM: of an image that begins with these sixteen bytes, `:100000000123456789ABCDEFFEDCBA9876543210F8` and LF come first
pub our_first_line : (rest text₀ text : List ℕ) → WriteText (sixteen ++ rest) text₀ (Ok tt) text → take 44 text ≡ map letter first ++ (0x0A ∷ [])
unfolding text_of data_lines
our_first_line rest text₀ text w =
    let line = map letter first ++ (0x0A ∷ []) in
    let others = data_lines 163 data_bytes rest in
    ap (take 44) (written_text (sixteen ++ rest) text₀ text w).1.1
    ∙ ap (λ (x : List ℕ). take 44 ((x ++ others) ++ line_of end_record)) first_line
    ∙ ap (take 44) (append_assoc line others (line_of end_record))
    ∙ take_at line (others ++ line_of end_record) 44 refl

-- THEOREM: `:00000001FF` and LF come last, behind 164 lines of 44 characters
pub our_last_line : (image text₀ text : List ℕ) → WriteText image text₀ (Ok tt) text → drop (44 * data_records) text ≡ map letter last ++ (0x0A ∷ [])
unfolding text_of
our_last_line image text₀ text w =
    let p = written_text image text₀ text w in
    ap (drop (44 * data_records)) p.1.1
    ∙ drop_at (data_lines data_records 0 image) (line_of end_record) (44 * data_records) (lines_length data_records 0 image p.0)
    ∙ last_line
