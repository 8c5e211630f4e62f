use Rattle.line.specs.Layout.{line_of}
use Rattle.line.specs.RunTables.{ByteTable}
use Rattle.line.proofs.runs.run_byte.Given as goal

abbrev pub invariant-loop-i : goal.invariant-loop-i
invariant-loop-i l = ByteTable l.initial.table.n l.initial.table.chips (line_of l.initial.table.n l.initial.table.chips l.initial.ms l.initial.ss) l.bits l.count l.i l.host l.sum l.worth l.table.n l.table.chips l.initial.ms l.initial.ss l.ms l.ss
