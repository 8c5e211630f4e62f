use Rattle.std.proofs.Common.{ℕ, ◌/◌, ◌%◌, List, [], ◌∷◌, ◌≡◌, replicate, arith, ◌∙◌, ap, sym}
use Rattle.std.specs.Int.{w64, to_be_bytes}
use Rattle.std.proofs.lemmas.List.Edits.{sets}
use Rattle.crc.specs.Code.{byte_of}
use Rattle.numerals.specs.Hex.{digits_of}
use Rattle.terminal.specs.Words.{eighth_first, code_digits}
use Rattle.terminal.proofs.code_digits.Goals as goal

bytes_are : (code : ℕ) → to_be_bytes w64 code ≡ eighth_first code
unfolding byte_of
bytes_are code =
    let e : code / 1 ≡ code = omega arith in
    ap
    (λ (n : ℕ).
    byte_of code 7 ∷ byte_of code 6 ∷ byte_of code 5 ∷ byte_of code 4 ∷ byte_of code 3 ∷ byte_of code 2 ∷ byte_of code 1 ∷ n % 256 ∷ [])
    (sym e)

pub returns : goal.returns
unfolding code_digits
returns c = c.put_digits.ensures ∙ ap (λ (bs : List ℕ). sets (replicate 16 0) 0 (digits_of bs)) (c.to_be_bytes.ensures ∙ bytes_are c.args.code)
