-- Laws: the digits of a page put into a line.
use Rattle.std.specs.Prelude.{ℕ, ◌+◌, ◌-◌, ◌≤◌, List, ◌++◌, ◌≡◌, length, take, drop, replicate}
use Rattle.std.proofs.Common.{arith, ◌∙◌, ap, length-drop, length-take-le}
use Rattle.std.proofs.lemmas.List.Edits.{sets, sets-eq}
use Rattle.numerals.specs.Hex.{digits_of}
use Rattle.numerals.specs.Spelling.{digits_length}
use Rattle.round.specs.Pages.{page_line}

pub line_put : (page text : List ℕ) → length page ≡ 32 → text ≡ sets (replicate 65 0x0A) 0 (digits_of page) → text ≡ page_line page
unfolding page_line
line_put page text l e =
    let d = digits_length page in
    let n : 0 + length (digits_of page) ≡ 64 = omega arith in
    e ∙ sets-eq (digits_of page) (replicate 65 0x0A) 0 (omega arith) ∙ ap (λ (k : ℕ). digits_of page ++ drop k (replicate 65 0x0A)) n
