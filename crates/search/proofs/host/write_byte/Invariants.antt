use Rattle.search.specs.Pass.{Writing}
use Rattle.line.specs.Attached.{attached}
use Rattle.search.proofs.host.write_byte.Given as goal

abbrev pub invariant-loop-i : goal.invariant-loop-i
invariant-loop-i l = record {
  writing : Writing l.byte (attached l.initial.t.n l.initial.t.chips l.initial.ms l.initial.ss) (attached l.t.n l.t.chips l.ms l.ss) l.i;
}
