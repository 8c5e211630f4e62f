-- Document 02, M-109: "a signed whole number", "signed tenths": numbers of so many bytes, and what each stands for.
use Rattle.std.specs.Prelude.{ℕ, suc, ◌-◌, ◌/◌, ◌^◌, ltb, ℤ, pos, negsuc, ◌-ℤ◌}
use Rattle.base.specs.Pick.{pick}

-- the signed number that a number of so many bytes stands for: one byte from 80h on stands for itself less 100h, two bytes from 8000h on for themselves
-- less 10000h. "minus one tenth is FFFFh in kind 102"
unfoldable pub signed : ℕ → ℕ → ℤ
signed bytes n = pick (ltb n (256 ^ bytes / 2)) (pos n) (pos n -ℤ pos (256 ^ bytes))

-- the number of so many bytes that stands for a signed number
abbrev pub unsigned : ℕ → ℤ → ℕ
unsigned bytes (pos n) = n
unsigned bytes (negsuc n) = 256 ^ bytes - suc n
