use Rattle.std.proofs.Common.{◌≡◌, ◌-◌, length}
use Rattle.lent.specs.Gathered.{puts}
use Rattle.lent.proofs.gathered.put_back.Given as goal

abbrev pub invariant-loop-i : goal.invariant-loop-i
invariant-loop-i l = puts l.t (length l.initial.table - l.i) l.i l.table ≡ puts l.t (length l.initial.table) 0 l.initial.table
