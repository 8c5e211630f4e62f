use Prim.Native.Nat.{◌-◌}
use lib.ListN.{length}
use Rattle.recording.specs.CardLoop.{Taking}
use Rattle.recording.proofs.cards.read_cards.Given as goal

abbrev pub invariant-loop-table : goal.invariant-loop-table
invariant-loop-table l = Taking l.more l.s l.initial.table l.at l.table

abbrev pub decreases-loop-table : goal.decreases-loop-table
decreases-loop-table l = length l.s - l.at
