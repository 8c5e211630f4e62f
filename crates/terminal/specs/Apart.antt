-- Laws: whoever reads a listing can tell the checks of codes apart.
use Prim.Native.Char.{code as letter}
use Rattle.std.specs.Prelude.{ℕ, List, ◌≡◌, refl, eqb, get_or}
use Rattle.std.proofs.Common.{◌∙◌, ap, sym}
use Rattle.base.specs.Pick.{pick}
use Rattle.crc.specs.declared.CodeCheck.{CodeCheck}
use Rattle.crc.specs.declared.CodeCheck.TheVariants.{Good, Bad, AllZeros}
use Rattle.terminal.specs.Words.{word_of, characters_of}

-- a check is found again from the first letter of its word
check_from : List ℕ → CodeCheck
check_from cs = pick (eqb (get_or cs 0 0) (letter "o")) Good (pick (eqb (get_or cs 0 0) (letter "n")) Bad AllZeros)

check-from : (a : CodeCheck) → check_from (characters_of (word_of a)) ≡ a
unfolding check_from pick
check-from Good = refl
check-from Bad = refl
check-from AllZeros = refl

-- different checks have different words, as they are written
pub words_differ : (a b : CodeCheck) → characters_of (word_of a) ≡ characters_of (word_of b) → a ≡ b
words_differ a b e = sym (check-from a) ∙ ap check_from e ∙ check-from b
