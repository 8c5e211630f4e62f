-- Document 02, M-110: "upper or lower case"; "Each record's check byte makes the low byte of the sum of all its bytes zero". Hex digits, bytes in pairs of them, and
-- the sum of a record's bytes.
use Prim.Native.Char.{code as letter}
use Rattle.std.specs.Prelude.{ℕ, ◌+◌, ◌-◌, ◌*◌, ◌%◌, Bool, true, List, [], ◌∷◌, nat_le}
use Rattle.base.specs.Bits.{both}
use Rattle.base.specs.Pick.{pick}

-- ---- digits

-- a character lies between two others, or is one of them
unfoldable pub between : ℕ → ℕ → ℕ → Bool
between least c most = both (nat_le least c) (nat_le c most)

-- a character is a hex digit: "upper or lower case"
unfoldable pub is_digit : ℕ → Bool
is_digit c = pick (between (letter "0") c (letter "9")) true (pick (between (letter "A") c (letter "F")) true (between (letter "a") c (letter "f")))

-- what a hex digit is worth; of any other character this is asked nowhere
unfoldable pub worth : ℕ → ℕ
worth c =
    pick (between (letter "0") c (letter "9")) (c - letter "0")
    (pick (between (letter "A") c (letter "F")) (c - letter "A" + 10)
    (pick (between (letter "a") c (letter "f")) (c - letter "a" + 10) 0))

-- the byte of two digits, the higher first
unfoldable pub byte_of : ℕ → ℕ → ℕ
byte_of high low = 16 * worth high + worth low

-- the bytes of digits, two by two; an odd one at the end has none
abbrev pub bytes_of : List ℕ → List ℕ
bytes_of [] = []
bytes_of (high ∷ []) = []
bytes_of (high ∷ low ∷ cs) = byte_of high low ∷ bytes_of cs

-- ---- sums

abbrev pub total : List ℕ → ℕ
total [] = 0
total (b ∷ bs) = b + total bs

-- "the low byte of the sum of all its bytes"
unfoldable pub sum_of : List ℕ → ℕ
sum_of bs = total bs % 256

-- the byte that makes it zero
unfoldable pub check_of : List ℕ → ℕ
check_of bs = (256 - sum_of bs) % 256
