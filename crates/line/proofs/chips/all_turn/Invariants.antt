use Rattle.std.proofs.Common.{◌≡◌, ◌-◌, length}
use Rattle.line.specs.Carrier.{acts}
use Rattle.line.proofs.chips.all_turn.Given as goal

abbrev pub invariant-loop-i : goal.invariant-loop-i
invariant-loop-i g l =
    let p = g.C.Chips.places in
    let n = g.C.Chips.number in
    (n l.chips ≡ n l.initial.chips) × (g.C.Chips.lender l.chips ≡ g.C.Chips.lender l.initial.chips) × (length l.ms ≡ length l.initial.ms) × (length l.ss ≡ length l.initial.ss)
    × (acts l.plan l.value (l.i-end - l.i) l.i l.spot (p l.chips) l.ms l.ss ≡ acts l.plan l.value l.i-end 0 l.initial.spot (p l.initial.chips) l.initial.ms l.initial.ss)
