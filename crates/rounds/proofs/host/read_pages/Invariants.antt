use Rattle.line.specs.Attached.{attached}
use Rattle.rounds.specs.Pages.{Paging}
use Rattle.rounds.specs.Borne.{borne_in}
use Rattle.rounds.proofs.host.read_pages.Given as goal

abbrev pub invariant-loop-code : goal.invariant-loop-code
invariant-loop-code l = record {
  paging : Paging (borne_in l.chips) l.listed (attached l.initial.t.n l.initial.t.chips l.initial.ms l.initial.ss) (attached l.t.n l.t.chips l.ms l.ss) l.initial.pages l.pages l.count l.at l.code-index;
}
