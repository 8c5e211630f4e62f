use Rattle.search.specs.Passes.{Seeking}
use Rattle.line.specs.Attached.{attached}
use Rattle.search.proofs.seek.Given as goal

abbrev pub invariant-loop-n : goal.invariant-loop-n
invariant-loop-n l = record {
  seeking : Seeking l.places (attached l.initial.table.n l.initial.table.chips l.initial.ms l.initial.ss) (attached l.table.n l.table.chips l.ms l.ss) l.initial.list l.list l.want l.n l.slots;
}
