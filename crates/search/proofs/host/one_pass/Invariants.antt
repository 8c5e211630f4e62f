use Rattle.std.specs.Prelude.{◌≡◌, true}
use Rattle.search.specs.Pass.{Going}
use Rattle.search.specs.Branch.{marked}
use Rattle.line.specs.Attached.{attached}
use Rattle.search.proofs.host.one_pass.Given as goal

abbrev pub invariant-bits : goal.invariant-bits
invariant-bits l = record {
  going : Going l.want (attached l.initial.t.n l.initial.t.chips l.initial.ms l.initial.ss) (attached l.t.n l.t.chips l.ms l.ss) l.k l.code (marked l.parting) l.slots;
  whole_is : l.whole ≡ true;
}
