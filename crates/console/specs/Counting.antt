-- Counts of what has no limit of its own.
use Rattle.std.specs.Prelude.{ℕ, ◌+◌, min}

-- the largest number of 64 bits
abbrev pub count_most : ℕ
count_most = 18446744073709551615

-- a count with so many more, which stays at the largest number
abbrev pub counted_on : ℕ → ℕ → ℕ
counted_on count more = min (count + more) count_most
