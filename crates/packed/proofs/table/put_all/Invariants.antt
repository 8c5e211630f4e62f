use Rattle.packed.specs.Packed.{record_size, packed_table}
use lib.ListN.{length, take, drop}
use mathlib.Core.List.{◌++◌}
use mathlib.Core.Path.{◌≡◌}
use Prim.Native.Nat.{◌*◌}
use Rattle.packed.proofs.table.put_all.Given as goal

abbrev pub invariant-loop-i : goal.invariant-loop-i
invariant-loop-i l = (packed_table (take l.i l.t.chips) ++ drop (l.i * record_size) l.initial.bytes ≡ l.bytes) × (length l.bytes ≡ length l.initial.bytes)
