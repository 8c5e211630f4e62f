use Rattle.card.specs.Reading.{Taking}
use Prim.Native.Nat.{◌-◌}
use Rattle.card.proofs.set_up.Given as goal

abbrev pub invariant-loop-entry : goal.invariant-loop-entry
invariant-loop-entry l = Taking l.most l.s l.initial.chips l.chips l.n l.at

abbrev pub decreases-loop-entry : goal.decreases-loop-entry
decreases-loop-entry l = l.most - l.n
