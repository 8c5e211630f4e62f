-- M-109: "The value is decimal digits, with a minus sign or none; a number of any length is judged". What a text says of a whole number, and the
-- number that is made of it.
use Prim.Native.Char.{code as letter}
use Rattle.std.specs.Prelude.{ℕ, ◌+◌, ◌-◌, ◌*◌, Bool, List, [], ◌∷◌, eqb, ltb, leb, ℤ, pos, neg_ℤ, get_or, drop, Option, Some, None}
use Rattle.std.specs.Int.Signed.{lt_z}
use Rattle.base.specs.Pick.{pick}
use Rattle.base.specs.Bits.{both}

-- ---- what a text says

-- a character is a digit
unfoldable pub is_digit : ℕ → Bool
is_digit c = both (leb (letter "0") c) (leb c (letter "9"))

-- a number without a sign, of any size, or none
pub data Digits : Type 0 where
  digits : ℕ → Digits
  no_digits : Digits

-- what characters say, where the digits before them gave a number
abbrev pub digits_on : ℕ → List ℕ → Digits
digits_on n [] = digits n
digits_on n (c ∷ cs) = pick (is_digit c) (digits_on (10 * n + (c - letter "0")) cs) no_digits

-- what a text says: it has at least one digit, and nothing but digits
abbrev pub digits_in : List ℕ → Digits
digits_in [] = no_digits
digits_in (c ∷ cs) = digits_on 0 (c ∷ cs)

-- a number with its sign, of any size, or none
pub data Says : Type 0 where
  number : ℤ → Says
  nothing : Says

abbrev pub signed_as : (ℕ → ℤ) → Digits → Says
signed_as sign (digits n) = number (sign n)
signed_as sign no_digits = nothing

abbrev pub minus : ℕ → ℤ
minus n = neg_ℤ (pos n)

-- "decimal digits, with a minus sign or none"
unfoldable pub said : List ℕ → Says
said text = pick (eqb (get_or text 0 0) (letter "-")) (signed_as minus (digits_in (drop 1 text))) (signed_as pos (digits_in text))

-- ---- what is made of it

-- the least number of 19 digits
abbrev pub most : ℕ
most = 1000000000000000000

-- a number without a sign past that counts as it, so that it fits a word of 64 bits
unfoldable pub kept : ℕ → ℕ
kept n = pick (ltb n most) n most

-- what digits come to
abbrev pub counted_by : Digits → Option ℕ
counted_by (digits n) = Some (kept n)
counted_by no_digits = None

-- so does one with a sign past that, or below its negative
unfoldable pub capped : ℤ → ℤ
capped z = pick (lt_z (pos most) z) (pos most) (pick (lt_z z (minus most)) (minus most) z)

abbrev pub numeral_by : Says → Option ℤ
numeral_by (number z) = Some (capped z)
numeral_by nothing = None

-- the number that is read of a text
abbrev pub numeral_of : List ℕ → Option ℤ
numeral_of text = numeral_by (said text)
