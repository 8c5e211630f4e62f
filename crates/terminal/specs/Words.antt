-- What the programs say of cards and codes.
use Rattle.std.specs.Prelude.{Bool, true, false, ℕ, List, [], ◌∷◌}
use Prim.Native.Char.{code as letter}
use Rattle.numerals.specs.Hex.{digits_of}
use Rattle.crc.specs.Code.{byte_of}
use Rattle.crc.specs.declared.CodeCheck.{CodeCheck}
use Rattle.crc.specs.declared.CodeCheck.TheVariants.{Good, Bad, AllZeros}
use Rattle.card.specs.Card.{Carded, chips, refused}
use Rattle.terminal.specs.declared.Letters.{Letters}
use Rattle.terminal.specs.declared.Letters.TheVariants.{Two, Four}

-- whether set-up was refused
abbrev pub is_refused : Carded → Bool
is_refused (chips n) = false
is_refused (refused r at) = true

-- the word for each check of a code. Document 01, "Card and list program": "`ok` or `no` for its CRC"; document 02, M-104: "The list program prints
-- `zero`"
abbrev pub word_of : CodeCheck → Letters
word_of Good = Two (letter "o") (letter "k")
word_of Bad = Two (letter "n") (letter "o")
word_of AllZeros = Four (letter "z") (letter "e") (letter "r") (letter "o")

-- the characters that a word is written as
abbrev pub characters_of : Letters → List ℕ
characters_of (Two a b) = a ∷ b ∷ []
characters_of (Four a b c d) = a ∷ b ∷ c ∷ d ∷ []

-- the eight bytes of a code, the eighth first
abbrev pub eighth_first : ℕ → List ℕ
eighth_first code = byte_of code 7 ∷ byte_of code 6 ∷ byte_of code 5 ∷ byte_of code 4 ∷ byte_of code 3 ∷ byte_of code 2 ∷ byte_of code 1 ∷ byte_of code 0 ∷ []

-- "for each code 16 capital hex digits (bit 63 first)"
unfoldable pub code_digits : ℕ → List ℕ
code_digits code = digits_of (eighth_first code)
