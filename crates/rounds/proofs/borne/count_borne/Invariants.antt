use Rattle.std.proofs.Common.{◌≡◌, ◌≤◌, ◌+◌, drop}
use Rattle.base.specs.Once.{distinct_in}
use Rattle.rounds.specs.Borne.{borne_in}
use Rattle.rounds.proofs.borne.count_borne.Given as goal

abbrev pub invariant-loop-i : goal.invariant-loop-i
invariant-loop-i l = record {
  few : l.codes ≤ l.i;
  counted : l.codes + distinct_in (borne_in (drop l.i l.chips)) ≡ distinct_in (borne_in l.chips);
}
