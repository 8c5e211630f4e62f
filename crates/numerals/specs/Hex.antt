-- Bytes in hexadecimal digits. Document 01, "Card and list program": "capital hex digits"; document 02, M-110: "We write capitals".
use Prim.Native.Char.{code as letter}
use Rattle.std.specs.Prelude.{ℕ, ◌+◌, ◌-◌, ◌/◌, ◌%◌, List, [], ◌∷◌, ltb}
use Rattle.base.specs.Pick.{pick}

-- the digit that is worth so much
unfoldable pub digit : ℕ → ℕ
digit n = pick (ltb n 10) (letter "0" + n) (letter "A" + (n - 10))

-- the digits of bytes
abbrev pub digits_of : List ℕ → List ℕ
digits_of [] = []
digits_of (b ∷ bs) = digit (b / 16) ∷ digit (b % 16) ∷ digits_of bs
