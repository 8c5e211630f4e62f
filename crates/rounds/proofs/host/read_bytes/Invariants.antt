use Rattle.line.specs.Attached.{attached}
use Rattle.rounds.specs.Reading.{Reading}
use Rattle.rounds.proofs.host.read_bytes.Given as goal

abbrev pub invariant-loop-i : goal.invariant-loop-i
invariant-loop-i l = record {
  reading : Reading l.at (attached l.initial.t.n l.initial.t.chips l.initial.ms l.initial.ss) (attached l.t.n l.t.chips l.ms l.ss) l.initial.pages l.pages l.i;
}
