use mathlib.Core.Bool.{true}
use Rattle.packed.specs.Filling.{Filling}
use Rattle.packed.proofs.table.fill.Given as goal

abbrev pub invariant-loop-i : goal.invariant-loop-i
invariant-loop-i l = Filling l.n l.bytes l.initial.chips l.chips l.i true
