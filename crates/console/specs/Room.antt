-- The room for an argument.
use Rattle.std.specs.Prelude.{ℕ}

-- the most characters of an argument that Linux hands over on x86-64, and one more
abbrev pub argument_most : ℕ
argument_most = 131072
