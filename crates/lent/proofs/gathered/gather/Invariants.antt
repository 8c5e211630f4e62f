use Rattle.std.proofs.Common.{◌≡◌, ◌-◌, length}
use Rattle.line.specs.Carrier.{over}
use Rattle.line.specs.Tables.{joined}
use Rattle.lent.proofs.gathered.gather.Given as goal

abbrev pub invariant-loop-i : goal.invariant-loop-i
invariant-loop-i l = over joined (length l.table - l.i) l.i l.table l.t ≡ over joined (length l.table) 0 l.table l.initial.t
