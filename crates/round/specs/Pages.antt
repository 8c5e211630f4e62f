-- The request M-108, "The program": "a line of 64 capital hex digits for each page"; "Every line ends with LF."
use Rattle.std.specs.Prelude.{ℕ, List, [], ◌∷◌, ◌++◌}
use Rattle.numerals.specs.Hex.{digits_of}

-- the line of a page
unfoldable pub page_line : List ℕ → List ℕ
page_line page = digits_of page ++ (0x0A ∷ [])
