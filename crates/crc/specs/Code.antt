-- Document 01, "Codes and check sums": "Its eighth byte is the CRC of the first seven."
use Rattle.std.specs.Prelude.{ℕ, ◌*◌, ◌/◌, ◌%◌, ◌^◌, List, [], ◌∷◌, eqb}
use Rattle.base.specs.Pick.{pick}
use Rattle.crc.specs.Crc.{poly8, crc_of}
use Rattle.crc.specs.declared.CodeCheck.{CodeCheck}
use Rattle.crc.specs.declared.CodeCheck.TheVariants.{Good, Bad, AllZeros}

-- byte k of a code, the family being byte 0
unfoldable pub byte_of : ℕ → ℕ → ℕ
byte_of code k = code / 2 ^ (8 * k) % 256

-- "the first seven"
abbrev pub first_seven : ℕ → List ℕ
first_seven code = byte_of code 0 ∷ byte_of code 1 ∷ byte_of code 2 ∷ byte_of code 3 ∷ byte_of code 4 ∷ byte_of code 5 ∷ byte_of code 6 ∷ []

-- their CRC: "X^8+X^5+X^4+1, start 0"
unfoldable pub code_crc : ℕ → ℕ
code_crc code = crc_of poly8 0 (first_seven code)

-- Document 02, M-104: "A shorted connector reads as a code of zeros, which passes the CRC. The check of a code now answers good, bad or all zeros":
-- all zeros is asked before the CRC
unfoldable pub check_of : ℕ → CodeCheck
check_of code = pick (eqb code 0) AllZeros (pick (eqb (code_crc code) (byte_of code 7)) Good Bad)
