use Rattle.std.proofs.Common.{Ok, Err, ap, sym, ◌∙◌}
use Rattle.line.specs.Attached.{attached}
use Rattle.search.specs.Search.{searched, outcome}
use Rattle.search.specs.declared.Fault.{Fault}
use Rattle.rounds.specs.Round.{round}
use Rattle.rounds.specs.Rounds.{well_stood, round_at}
use Rattle.rounds.proofs.make_round.Goals as goal

pub go_round-requires : goal.go_round-requires
go_round-requires c = well_stood _ _ _ _ _ (sym c.in-Ok.is ∙ c.how_stands.ensures)

pub returns-in-Ok : goal.returns-in-Ok
returns-in-Ok c =
    let a = c.args in
    let q = c.how_stands in
    round_at (attached a.t.n a.t.chips a.ms.now a.ss.now) a.list.now a.pages.now q.result (Ok tt) _ q.ensures c.in-Ok.is c.go_round.ensures

pub returns-in-Err : goal.returns-in-Err
returns-in-Err c =
    let a = c.args in
    let q = c.how_stands in
    let l = attached a.t.n a.t.chips a.ms.now a.ss.now in
    round_at l a.list.now a.pages.now q.result (Err c.in-Err.r) _ q.ensures c.in-Err.is
    (ap (λ (f : Fault). round (outcome (searched (Err f)) 0 a.list.now 0 0 l) a.pages.now) c.from.ensures)
