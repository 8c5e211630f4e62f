-- Document 02, M-110: "Write an image as data records of 16 bytes in rising address order and an end record." The text of an image. What `:` and the
-- order of the bytes are is ruled (docs/DECISIONS.md).
use Prim.Native.Char.{code as letter}
use Rattle.std.specs.Prelude.{ℕ, zero, suc, ◌+◌, ◌/◌, ◌%◌, List, [], ◌∷◌, ◌++◌, length, take, drop, ◌==◌, Result, Ok, Err}
use Rattle.base.specs.Bits.{both}
use Rattle.base.specs.Pick.{pick}
use Rattle.intelhex.specs.Faults.{image_size, text_size}
use Rattle.numerals.specs.Hex.{digits_of}
use Rattle.intelhex.specs.Bytes.{check_of}
use Rattle.intelhex.specs.declared.Fault.TheVariants.{WrongSize}
use Rattle.intelhex.specs.declared.Fault.{Fault}

-- "end lines with LF"
abbrev pub line_feed : ℕ
line_feed = 0x0A

-- the line of a record that has no check byte yet: ruled: `:`, then two hex digits for each byte (count, address high, address low, type, data, check byte), then LF
unfoldable pub line_of : List ℕ → List ℕ
line_of bytes = letter ":" ∷ digits_of (bytes ++ (check_of bytes ∷ [])) ++ (line_feed ∷ [])

-- "data records of 16 bytes"
abbrev pub data_bytes : ℕ
data_bytes = 16

-- a data record, of type 00
unfoldable pub data_record : ℕ → List ℕ → List ℕ
data_record address bytes = data_bytes ∷ address / 256 ∷ address % 256 ∷ 0 ∷ bytes

-- "An end record has length and address 0"; its type is 01
abbrev pub end_record : List ℕ
end_record = 0 ∷ 0 ∷ 0 ∷ 1 ∷ []

-- so many data records, "in rising address order"
unfoldable pub data_lines : ℕ → ℕ → List ℕ → List ℕ
data_lines zero address image = []
data_lines (suc k) address image = line_of (data_record address (take data_bytes image)) ++ data_lines k (address + data_bytes) (drop data_bytes image)

-- ruled: 164 data records of 16 bytes from 0000h to 0A30h, then `:00000001FF`
abbrev pub data_records : ℕ
data_records = 164

unfoldable pub text_of : List ℕ → List ℕ
text_of image = data_lines data_records 0 image ++ line_of end_record

-- what writing answers, and the text that it leaves
pub record Wrote : Type 0 where
  pub answer : Result (Unit {0}) Fault
  pub text : List ℕ

abbrev pub wrote : Result (Unit {0}) Fault → List ℕ → Wrote
wrote a text = record { answer = a; text = text }

-- "Refusals: 5 first, an image not of 2,624 bytes or, writing, a text buffer not of 7,228"
unfoldable pub write_text : List ℕ → List ℕ → Wrote
write_text image text =
    pick (both (length image == image_size) (length text == text_size)) (wrote (Ok tt) (text_of image))
    (wrote (Err WrongSize) text)
