use Rattle.std.specs.Prelude.{◌≡◌, drop}
use Rattle.std.proofs.lemmas.List.Edits.{sets}
use Rattle.numerals.specs.Hex.{digits_of}
use Rattle.numerals.proofs.hex.put_digits.Given as goal

abbrev pub invariant-loop-b : goal.invariant-loop-b
invariant-loop-b l = sets l.text l.to (digits_of (drop l.b-index l.bytes)) ≡ sets l.initial.text l.at (digits_of l.bytes)
