use native.Mathlib.Omega.{arith}
use Rattle.line.specs.Refusals.{fit_small}
use Rattle.line.specs.Event.{asked_by}
use Rattle.base.specs.Rules.{cases}
use Rattle.line.proofs.carrier.asked_of.Goals as goal

pub returns-then-number-lt2 : goal.returns-then-number-lt2
unfolding asked_by
returns-then-number-lt2 c = search cases

pub returns-then-number-eq2 : goal.returns-then-number-eq2
unfolding asked_by
returns-then-number-eq2 c = search cases

pub returns-then-number-eq3 : goal.returns-then-number-eq3
unfolding asked_by
returns-then-number-eq3 c = search cases

pub overflow_cast-result-2 : goal.overflow_cast-result-2
overflow_cast-result-2 c = let a = c.args in let k = fit_small a.e a.n a.kind c.requires.kind_value (omega (arith, c.requires.number_bound)) in record { fits = omega (arith, k) }

pub returns : goal.returns
unfolding asked_by
returns c = search cases
