use Prim.Native.Nat.{◌-◌}
use Rattle.toemsakun.specs.Narrow.{Narrow}
use Rattle.toemsakun.proofs.slots.front.Given as goal

abbrev pub invariant-loop-r : goal.invariant-loop-r
invariant-loop-r l = Narrow l.table l.r

abbrev pub decreases-loop-r : goal.decreases-loop-r
decreases-loop-r l = l.r.past - l.r.first
