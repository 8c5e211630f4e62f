use Rattle.std.proofs.Common.{Ok, Err, ap}
use Rattle.line.specs.Attached.{attached}
use Rattle.search.specs.Search.{searched, outcome}
use Rattle.search.specs.Passes.{search_at}
use Rattle.search.specs.declared.Fault.{Fault}
use Rattle.search.proofs.search_line.Goals as goal

pub returns-in-Ok : goal.returns-in-Ok
returns-in-Ok c = let a = c.args in let q = c.how_stands in search_at a.t.n a.t.chips a.ms.now a.ss.now a.list.now q.result (Ok tt) _ q.ensures c.in-Ok.is c.find.ensures

pub returns-in-Err : goal.returns-in-Err
returns-in-Err c =
    let a = c.args in
    let q = c.how_stands in
    search_at a.t.n a.t.chips a.ms.now a.ss.now a.list.now q.result (Err c.in-Err.r) _ q.ensures c.in-Err.is
    (ap (λ (f : Fault). outcome (searched (Err f)) 0 a.list.now 0 0 (attached a.t.n a.t.chips a.ms.now a.ss.now)) c.from.ensures)
