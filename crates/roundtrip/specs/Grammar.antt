-- Document 02, M-110, and the request's "A line is ..": what a text of such records is, told by its lines and not by how they are read.
use Prim.Native.Char.{code as letter}
use Rattle.std.specs.Prelude.{ℕ, suc, ◌+◌, ◌*◌, ◌<◌, ◌≤◌, List, [], ◌∷◌, ◌++◌, ◌≡◌, length}
use Rattle.base.specs.Exactly.{No}
use Rattle.intelhex.specs.Bytes.{sum_of}
use Rattle.intelhex.specs.Lines.{count_in, address_in, type_in, data_in}
use Rattle.intelhex.specs.Reading.{Given, given}

-- ---- lines

-- "upper or lower case": a character is a hex digit, and is worth so much
pub data Digit : ℕ → ℕ → Type 0 where
  decimal : {n : ℕ} → n < 10 → Digit (letter "0" + n) n
  capital : {n : ℕ} → n < 6 → Digit (letter "A" + n) (10 + n)
  small : {n : ℕ} → n < 6 → Digit (letter "a" + n) (10 + n)

-- "two hex digits of either case for each byte"
pub data Spells : List ℕ → List ℕ → Type 0 where
  nothing : Spells [] []
  a_byte : {high low x y : ℕ} {digits bytes : List ℕ} → Digit high x → Digit low y → Spells digits bytes → Spells (high ∷ low ∷ digits) ((16 * x + y) ∷ bytes)

-- "then LF or CR LF"
pub data LineEnd : List ℕ → Type 0 where
  lf : LineEnd (0x0A ∷ [])
  cr_lf : LineEnd (0x0D ∷ 0x0A ∷ [])

-- "A line is `:`, then two hex digits .. for each byte .., then LF or CR LF .. Nothing else": a line of these bytes
pub record IsLineOf (bytes line : List ℕ) : Type 0 where
  pub digits : List ℕ
  pub end : List ℕ
  pub spells : Spells digits bytes
  pub ends : LineEnd end
  pub is : line ≡ letter ":" ∷ digits ++ end

-- ---- records

-- "count, address high, address low, type, data, check byte": at least five bytes, and as many data bytes as the count says, which being a byte is 255 at most; "An end record has length and address 0"
abbrev pub InForm : List ℕ → Type 0
InForm bytes = (5 ≤ length bytes) × ((length bytes ≡ count_in bytes + 5) × (type_in bytes ≡ 1 → (count_in bytes ≡ 0) × (address_in bytes ≡ 0)))

-- "a data byte's address above 0A3Fh"
abbrev pub IsAbove : List ℕ → Type 0
IsAbove bytes = (k : ℕ) × (k < count_in bytes) × (0x0A3F < address_in bytes + k)

-- a data record with no fault
abbrev pub IsDataRecord : List ℕ → Type 0
IsDataRecord bytes = InForm bytes × ((sum_of bytes ≡ 0) × ((type_in bytes ≡ 0) × No (IsAbove bytes)))

-- an end record with no fault
abbrev pub IsEndRecord : List ℕ → Type 0
IsEndRecord bytes = InForm bytes × ((sum_of bytes ≡ 0) × (type_in bytes ≡ 1))

-- ---- texts

-- a run of lines, each of a data record with no fault, and what they give
pub data GoodLines : List ℕ → List Given → Type 0 where
  none : GoodLines [] []
  a_line : {bytes line text : List ℕ} {gs : List Given} → IsLineOf bytes line → IsDataRecord bytes → GoodLines text gs
      → GoodLines (line ++ text) (given (address_in bytes) (data_in bytes) ∷ gs)

-- a text that is lines of records, and the bytes of these
pub data Records : List ℕ → List (List ℕ) → Type 0 where
  no_record : Records [] []
  a_record : {bytes line text : List ℕ} {rs : List (List ℕ)} → IsLineOf bytes line → Records text rs → Records (line ++ text) (bytes ∷ rs)

-- "the low byte of the sum of all its bytes zero": of each of some records
abbrev pub SumZero : List (List ℕ) → Type 0
SumZero [] = Unit {0}
SumZero (bytes ∷ rs) = (sum_of bytes ≡ 0) × SumZero rs

-- a text that is such a run, of so many lines, and then something
pub record Behind (text rest : List ℕ) (lines : ℕ) : Type 0 where
  pub before : List ℕ
  pub gave : List Given
  pub good : GoodLines before gave
  pub many : length gave ≡ lines
  pub is : text ≡ before ++ rest

-- a text that begins with a line in form, of these bytes, before the rest
pub record Begins (text bytes rest : List ℕ) : Type 0 where
  pub line : List ℕ
  pub formed : IsLineOf bytes line
  pub form : InForm bytes
  pub is : text ≡ line ++ rest

-- why a text is refused: the number, and how many lines stand before "the first record at fault"
pub data Cause (text : List ℕ) : ℕ → ℕ → Type 0 where
  -- "16, a character or length out of form": something follows that does not begin with a line in form
  out_of_form : {rest : List ℕ} {lines : ℕ} → Behind text rest lines → No (rest ≡ []) → ((bytes more : List ℕ) → No (Begins rest bytes more)) → Cause text 16 lines
  -- "17, check byte"
  check_byte : {rest bytes more : List ℕ} {lines : ℕ} → Behind text rest lines → Begins rest bytes more → No (sum_of bytes ≡ 0) → Cause text 17 lines
  -- "18, a type but 00 or 01"
  another_type : {rest bytes more : List ℕ} {lines : ℕ} → Behind text rest lines → Begins rest bytes more → sum_of bytes ≡ 0 → No (type_in bytes ≡ 0) → No (type_in bytes ≡ 1)
      → Cause text 18 lines
  -- "19, a data byte's address above 0A3Fh"
  above_image : {rest bytes more : List ℕ} {lines : ℕ} → Behind text rest lines → Begins rest bytes more → sum_of bytes ≡ 0 → type_in bytes ≡ 0 → IsAbove bytes → Cause text 19 lines
  -- "20, no end record"
  no_end_record : {lines : ℕ} → Behind text [] lines → Cause text 20 lines
  -- "or text after it"
  after_end : {rest bytes more : List ℕ} {lines : ℕ} → Behind text rest lines → Begins rest bytes more → IsEndRecord bytes → No (more ≡ []) → Cause text 20 (suc lines)

-- a text with no fault: lines of data records, and the line of the end record
pub record Faultless (text : List ℕ) (gs : List Given) : Type 0 where
  pub before : List ℕ
  pub last : List ℕ
  pub bytes : List ℕ
  pub lines : GoodLines before gs
  pub formed : IsLineOf bytes last
  pub ends : IsEndRecord bytes
  pub is : text ≡ before ++ last
