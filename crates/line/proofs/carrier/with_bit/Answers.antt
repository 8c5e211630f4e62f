use Rattle.base.specs.Rules.{cases}
use Prim.Native.Nat.{ℕ, ◌+◌}
use native.Mathlib.Nat.{add-zero}
use mathlib.Core.Path.{◌∙◌, ap, sym}
use Rattle.base.specs.Pick.{pick_false}
use Rattle.line.proofs.carrier.with_bit.Goals as goal

pub returns-then-bit : goal.returns-then-bit
returns-then-bit c = search cases

pub returns : goal.returns
returns c = let a = c.args in sym (ap (λ (x : ℕ). a.sum + x) (pick_false a.bit a.worth 0 c.if-bit.false) ∙ add-zero a.sum)
