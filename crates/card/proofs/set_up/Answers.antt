use Rattle.std.proofs.Common.{◌∙◌, ◌<◌, Ok}
use Rattle.card.specs.Reading.{taking_start, taking_next, room_for, taking_done, taking_refused}
use native.Mathlib.Omega.{arith}
use Rattle.card.proofs.set_up.Goals as goal

-- a record that gives a chip: how many came before it
taken : (c : goal.After-set_up) → (c.loop-entry.n < c.used_places-most.result) × (c.loop-entry.n < 16)
taken c = let e = c.in-Ok-Some in room_for _ _ _ _ _ _ c.loop-entry.invariant c.entry_at.result c.entry_at.ensures _ (e.is ∙ (λ j. Ok (e.field-0-is j)))

pub loop-entry-init : goal.loop-entry-init
loop-entry-init c = let a = c.args in taking_start _ a.s.now a.t.chips c.used_places-most.ensures.most.0 (omega arith)

pub bounds-chips-n : goal.bounds-chips-n
bounds-chips-n c = (taken c).1

pub loop-entry-smaller : goal.loop-entry-smaller
loop-entry-smaller c = let h = (taken c).0 in omega arith

pub loop-entry-preserved : goal.loop-entry-preserved
loop-entry-preserved c =
    let e = c.in-Ok-Some in
    taking_next _ _ _ _ _ _ c.loop-entry.invariant c.entry_at.result c.entry_at.ensures _ _ (e.is ∙ (λ j. Ok (e.field-0-is j))) c.set_up.ensures

pub returns-in-Ok-None : goal.returns-in-Ok-None
returns-in-Ok-None c =
    let e = c.in-Ok-None in
    taking_done _ _ _ _ _ _ c.loop-entry.invariant c.entry_at.result c.entry_at.ensures c.args.places c.args.t.n c.used_places-most.ensures.value (e.is ∙ (λ j. Ok (e.field-0-is j)))

pub returns-in-Err : goal.returns-in-Err
returns-in-Err c =
    taking_refused _ _ _ _ _ _ c.loop-entry.invariant c.entry_at.result c.entry_at.ensures c.args.places c.args.t.n c.used_places-most.ensures.value c.in-Err.fault c.in-Err.is
