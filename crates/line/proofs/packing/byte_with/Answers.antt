use native.Mathlib.Omega.{arith}
use Rattle.line.specs.Packing.{with_few, with_one, with_none}
use Rattle.line.proofs.packing.byte_with.Goals as goal

pub overflow_add-result : goal.overflow_add-result
overflow_add-result c = let e = c.worth_of-worth.ensures.result_nonzero in omega (arith, (with_few c.args.byte _ e.0 e.1).0)

pub overflow_cast-result : goal.overflow_cast-result
overflow_cast-result c = let e = c.worth_of-worth.ensures.result_nonzero in omega (arith, (with_few c.args.byte _ e.0 e.1).0)

pub returns-then-bit : goal.returns-then-bit
returns-then-bit c = let a = c.args in with_one a.place a.byte _ a.bit c.if-bit.true c.worth_of-worth.ensures.value

pub overflow_cast-result-2 : goal.overflow_cast-result-2
overflow_cast-result-2 c = let e = c.worth_of-worth.ensures.result_nonzero in omega (arith, (with_few c.args.byte _ e.0 e.1).1)

pub returns : goal.returns
returns c = let a = c.args in with_none a.place a.byte _ a.bit c.if-bit.false c.worth_of-worth.ensures.value
