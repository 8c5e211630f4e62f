use Rattle.line.specs.Attached.{attached}
use Rattle.rounds.specs.Reading.{Sending}
use Rattle.rounds.proofs.host.write_code.Given as goal

abbrev pub invariant-loop : goal.invariant-loop
invariant-loop l = record {
  sending : Sending l.code (attached l.initial.t.n l.initial.t.chips l.initial.ms l.initial.ss) (attached l.t.n l.t.chips l.ms l.ss) l.rest l.counter;
}
