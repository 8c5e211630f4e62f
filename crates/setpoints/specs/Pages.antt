-- Document 02, M-109: "Page 0 of a unit holds one setpoint record: length, kind, body, in our usual form." What is read of a page, and what is
-- written to one.
use Rattle.std.specs.Prelude.{ℕ, zero, suc, ◌+◌, ◌/◌, ◌%◌, List, [], ◌∷◌, ◌++◌, eqb, ℤ, pos, ◌*ℤ◌, length, drop, Result, Ok, Err}
use Rattle.base.specs.Pick.{pick}
use Rattle.records.specs.Numbers.{number_at}
use Rattle.setpoints.specs.Signed.{signed, unsigned}
use Rattle.setpoints.specs.Kinds.{Form, degrees, tenths, allowed, number_of_fault}
use Rattle.setpoints.specs.declared.Fault.{Fault}
use Rattle.setpoints.specs.declared.Fault.TheVariants.{AnotherKind, WrongLength, OutOfRange}

-- "a page not of 32 bytes"
abbrev pub page_size : ℕ
page_size = 32

-- the length that the record at the page's first byte gives, which counts kind and body, and its kind
abbrev pub length_in : List ℕ → ℕ
length_in page = number_at page 0 2

abbrev pub kind_in : List ℕ → ℕ
kind_in page = number_at page 2 2

-- the length of a record of that form: its kind and its value
abbrev pub length_of : Form → ℕ
length_of f = f.bytes + 2

-- the value in a record of that form
abbrev pub value_in : Form → List ℕ → ℤ
value_in f page = signed f.bytes (number_at page 4 f.bytes)

-- ---- readers

-- "Give either setpoint in signed tenths"; "15, out of range"
unfoldable pub judged : Form → ℤ → Result ℤ Fault
judged f v = pick (allowed f v) (Ok (v *ℤ pos f.worth)) (Err OutOfRange)

-- a record of that kind: "14, wrong length"
unfoldable pub read_record : Form → List ℕ → Result ℤ Fault
read_record f page = pick (eqb (length_in page) (length_of f)) (judged f (value_in f page)) (Err WrongLength)

-- a record of one of these kinds: "13, another kind"
unfoldable pub read_among : List Form → List ℕ → Result ℤ Fault
read_among [] page = Err AnotherKind
read_among (f ∷ fs) page = pick (eqb (kind_in page) f.kind) (read_record f page) (read_among fs page)

-- a page, by a reader of these kinds: "14 first for a page not of 32 bytes"
unfoldable pub read_page : List Form → List ℕ → Result ℤ Fault
read_page fs page = pick (eqb (length page) page_size) (read_among fs page) (Err WrongLength)

-- "Both readers .. stay", and one for either
abbrev pub read101 : List ℕ → Result ℤ Fault
read101 = read_page (degrees ∷ [])

abbrev pub read102 : List ℕ → Result ℤ Fault
read102 = read_page (tenths ∷ [])

abbrev pub read_either : List ℕ → Result ℤ Fault
read_either = read_page (degrees ∷ tenths ∷ [])

-- ---- writers

-- so many bytes of a number, low byte first
abbrev pub bytes_of : ℕ → ℕ → List ℕ
bytes_of zero n = []
bytes_of (suc k) n = n % 256 ∷ bytes_of k (n / 256)

-- the record that holds a value: "length, kind, body"
abbrev pub record_of : Form → ℤ → List ℕ
record_of f v = bytes_of 2 (length_of f) ++ (bytes_of 2 f.kind ++ bytes_of f.bytes (unsigned f.bytes v))

-- what a writer answers, and the page that it leaves
pub record Wrote : Type 0 where
  pub answer : Result (Unit {0}) Fault
  pub page : List ℕ

abbrev pub wrote : Result (Unit {0}) Fault → List ℕ → Wrote
wrote a page = record { answer = a; page = page }

-- "A writer leaves the rest of the page"; a refusal leaves all of it
unfoldable pub write_page : Form → ℤ → List ℕ → Wrote
write_page f v page =
    pick (eqb (length page) page_size)
    (pick (allowed f v) (wrote (Ok tt) (record_of f v ++ drop (4 + f.bytes) page))
    (wrote (Err OutOfRange) page))
    (wrote (Err WrongLength) page)

abbrev pub write101 : ℤ → List ℕ → Wrote
write101 = write_page degrees

abbrev pub write102 : ℤ → List ℕ → Wrote
write102 = write_page tenths

-- ---- what an answer says

-- a setpoint in tenths, that a page was written, or the number of a refusal
pub data Answered : Type 0 where
  setpoint : ℤ → Answered
  written : Answered
  refused : ℕ → Answered

abbrev pub answered_by : Result ℤ Fault → Answered
answered_by (Ok z) = setpoint z
answered_by (Err f) = refused (number_of_fault f)

abbrev pub written_by : Result (Unit {0}) Fault → Answered
written_by (Ok tt) = written
written_by (Err f) = refused (number_of_fault f)
