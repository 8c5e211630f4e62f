-- Document 02, M-110: "LF or CR LF is read, a line without either is out of form". The line that a text begins with, and what it says. What else is quoted here is the request
-- that settled the rest.
use Prim.Native.Char.{code as letter}
use Rattle.std.specs.Prelude.{ℕ, suc, ◌+◌, ◌-◌, ◌*◌, ◌/◌, ◌%◌, Bool, true, false, not, List, [], ◌∷◌, length, take, drop, ◌==◌, nat_lt, slice_index, Result, Ok, Err}
use Rattle.base.specs.Bits.{both}
use Rattle.base.specs.Pick.{pick}
use Rattle.intelhex.specs.Faults.{last_address, line_most}
use Rattle.intelhex.specs.Bytes.{is_digit, sum_of}
use Rattle.intelhex.specs.Written.{line_feed}
use Rattle.intelhex.specs.declared.Fault.TheVariants.{NoColon, NoDigit, OddDigits, FewBytes, WrongCount, EndNotZero, CheckByte, UnknownType, AboveImage}
use Rattle.intelhex.specs.declared.lines.Standing.{Standing}
use Rattle.intelhex.specs.declared.lines.Standing.TheVariants.{Nothing, Unended, Endless, Line}
use Rattle.intelhex.specs.declared.record.Judged.{Judged}
use Rattle.intelhex.specs.declared.record.Judged.TheVariants as judged-as
use Rattle.intelhex.specs.declared.Fault.{Fault}

-- ---- where a line ends

-- how many characters stand before the first LF; all of them where there is none
abbrev pub before : List ℕ → ℕ
before [] = 0
before (c ∷ cs) = pick (c == line_feed) 0 (suc (before cs))

abbrev pub carriage_return : ℕ
carriage_return = 0x0D

-- how many characters a line has, of so many before its LF: a CR right before the LF belongs to the line's end
unfoldable pub without_return : List ℕ → ℕ → ℕ
without_return text n = pick (n == 0) n (pick (slice_index text (n - 1) == carriage_return) (n - 1) n)

-- what a text begins with: nothing; a line, with its characters and with those that it takes up with its end; the beginning of one; or more characters without an LF
-- than any line in form has
unfoldable pub standing : List ℕ → Standing
standing text =
    let first = take line_most text in
    let n = before first in
    pick (length text == 0) Nothing
    (pick (nat_lt n (length first)) (Line (without_return text n) (n + 1))
    (pick (nat_lt (length text) line_most) Unended Endless))

-- ---- what a line says

-- a refusal, unless a test holds; else what comes after it
abbrev pub unless : {A : Type 0} → Bool → A → A → A
unless test refused on = pick test on refused

abbrev pub all_digits : List ℕ → Bool
all_digits [] = true
all_digits (c ∷ cs) = both (is_digit c) (all_digits cs)

-- a line's characters: "`:`, then two hex digits of either case for each byte"; "16: .. a character out of form; an odd number of digits; fewer than five bytes"
unfoldable pub form_of : List ℕ → Result ℕ Fault
form_of line =
    unless (slice_index line 0 == (letter ":")) (Err NoColon)
    (unless (all_digits (drop 1 line)) (Err NoDigit)
    (unless ((length line - 1) % 2 == 0) (Err OddDigits)
    (pick (nat_lt ((length line - 1) / 2) 5) (Err FewBytes)
    (Ok ((length line - 1) / 2)))))

-- the bytes of a record: count, address, type, data, check byte
abbrev pub count_in : List ℕ → ℕ
count_in bytes = slice_index bytes 0

abbrev pub address_in : List ℕ → ℕ
address_in bytes = 256 * slice_index bytes 1 + slice_index bytes 2

abbrev pub type_in : List ℕ → ℕ
type_in bytes = slice_index bytes 3

abbrev pub data_in : List ℕ → List ℕ
data_in bytes = take (count_in bytes) (drop 4 bytes)

-- "a record of type 01 whose count or address is not 0, whatever its check byte"
unfoldable pub is_bad_end : ℕ → ℕ → ℕ → Bool
is_bad_end type count address = both (type == 1) (not (both (count == 0) (address == 0)))

-- "a data byte at an address above 0A3Fh. Addresses do not run round .. A record without data has no such byte."
unfoldable pub is_above : ℕ → ℕ → Bool
is_above count address = pick (count == 0) false (nat_lt last_address (address + (count - 1)))

-- a record: "a count that is not that of the data bytes"; an end record out of form; "17: the sum of all its bytes, as a byte, is not 0"; "18: a type other than 00
-- and 01"; 19
unfoldable pub judged : List ℕ → Result Judged Fault
judged bytes =
    let count = count_in bytes in
    let address = address_in bytes in
    let type = type_in bytes in
    unless (length bytes == count + 5) (Err WrongCount)
    (pick (is_bad_end type count address) (Err EndNotZero)
    (unless (sum_of bytes == 0) (Err CheckByte)
    (pick (type == 1) (Ok judged-as.End)
    (unless (type == 0) (Err UnknownType)
    (pick (is_above count address) (Err AboveImage)
    (Ok (judged-as.Data address count)))))))
