use Rattle.line.specs.Attached.{attached}
use Rattle.rounds.specs.Reading.{Hearing}
use Rattle.rounds.proofs.host.read_byte.Given as goal

abbrev pub invariant-loop : goal.invariant-loop
invariant-loop l = record {
  hearing : Hearing (attached l.initial.t.n l.initial.t.chips l.initial.ms l.initial.ss) (attached l.t.n l.t.chips l.ms l.ss) l.byte l.counter;
}
