use Rattle.std.proofs.Common.{◌≡◌, ◌-◌}
use Rattle.chip.specs.declared.Chip.{Chip}
use Rattle.line.specs.declared.Bus.{Bus}
use Rattle.line.specs.Carrier.{over, bus_with}
use Rattle.line.proofs.chips.bus_value.Given as goal

abbrev pub invariant-loop-i : goal.invariant-loop-i
invariant-loop-i g l =
    let cs = g.C.Chips.places l.chips in
    let f = λ (c : Chip) (s : Bus). bus_with l.plan c s l.ms l.ss in
    over f (l.i-end - l.i) l.i cs l.bus ≡ over f l.i-end 0 cs l.initial.bus
