use Rattle.std.proofs.Common.{◌≤◌, min, length, rules}
use Rattle.std.proofs.lemmas.List.{take_min}
use Rattle.console.proofs.Reading.{read_on}
use Rattle.console.proofs.input.fill.Goals as goal

pub loop-preserved : goal.loop-preserved
loop-preserved g c =
    let l = c.loop in
    let r = c.in_ok-h in
    let further : min l.h.bytes (length l.bytes) ≤ r.h.bytes = search rules in
    (search rules, read_on _ _ _ _ _ l.bytes _ further r.ensures.kept (rw (take_min l.h.bytes l.bytes) l.invariant.1) r.ensures.known)

pub returns-then-not-h-clause-known : goal.returns-then-not-h-clause-known
returns-then-not-h-clause-known g c =
    let l = c.loop in
    let r = c.in_ok-h in
    let further : min l.h.bytes (length l.bytes) ≤ r.h.bytes = search rules in
    read_on _ _ _ _ _ l.bytes _ further r.ensures.kept (rw (take_min l.h.bytes l.bytes) l.invariant.1) r.ensures.known
