use Rattle.line.specs.Layout.{line_of}
use Rattle.line.specs.RunTables.{RunTable}
use Rattle.line.proofs.runs.run_all.Given as goal

abbrev pub invariant-loop-left : goal.invariant-loop-left
invariant-loop-left l = RunTable l.initial.table.n l.initial.table.chips (line_of l.initial.table.n l.initial.table.chips l.initial.ms l.initial.ss) l.slots l.bits l.initial.answers l.at l.left l.answers l.table.n l.table.chips l.initial.ms l.initial.ss l.ms l.ss

abbrev pub decreases-loop-left : goal.decreases-loop-left
decreases-loop-left l = l.left
