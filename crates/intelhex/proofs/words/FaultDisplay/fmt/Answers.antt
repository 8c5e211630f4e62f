-- The size of an image is printed in decimal digits.
use Rattle.std.proofs.Common.{◌≡◌, refl, ap}
use Rattle.std.proofs.Output.{has_written_of_eq}
use Rattle.std.specs.Fmt.{digits, decimal}
use Rattle.std.specs.Prelude.{codes, ◌++◌}
use Rattle.intelhex.proofs.words.FaultDisplay.fmt.Goals as goal

size_digits : decimal 2624 ≡ codes "2624"
unfolding digits
size_digits = refl

pub returns-in-WrongSize-clause-writes : goal.returns-in-WrongSize-clause-writes
returns-in-WrongSize-clause-writes g c plain ok =
    has_written_of_eq _ _ _ _ _ (rw c.in-WrongSize.is (ap (λ ds. codes "an image has " ++ ds ++ codes " bytes") size_digits)) (c.write.ensures.writes plain ok)
