-- Document 01, "little-endian" and "family first": numbers in bytes, least significant first.
use Rattle.std.specs.Prelude.{ℕ, zero, suc, ◌+◌, ◌*◌, List, get_or}

-- the byte k past an offset, and so many above it; past the end a byte is 0
abbrev number_from : List ℕ → ℕ → ℕ → ℕ → ℕ
number_from s at k zero = get_or s (at + k) 0
number_from s at k (suc n) = get_or s (at + k) 0 + 256 * number_from s at (k + 1) n

-- the number of so many bytes from an offset on
abbrev pub number_at : List ℕ → ℕ → ℕ → ℕ
number_at s at zero = 0
number_at s at (suc n) = number_from s at 0 n
