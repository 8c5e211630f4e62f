use Rattle.std.specs.Prelude.{◌≤◌, ◌≡◌, drop}
use Rattle.numerals.specs.Numerals.{digits_on, digits_in, counted_by, most}
use Rattle.numerals.proofs.read_digits.Given as goal

abbrev pub invariant-loop-c : goal.invariant-loop-c
invariant-loop-c l = (l.n ≤ most) × (counted_by (digits_on l.n (drop l.c-index l.text)) ≡ counted_by (digits_in l.text))
