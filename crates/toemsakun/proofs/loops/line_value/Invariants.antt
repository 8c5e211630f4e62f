use Rattle.line.specs.Carrier.{bus_with}
use Rattle.line.specs.declared.Bus.{Bus}
use Rattle.chip.specs.declared.Chip.{Chip}
use Rattle.toemsakun.specs.Acting.{Walking, sum_with}
use Rattle.toemsakun.proofs.loops.line_value.Given as goal

abbrev pub invariant-loop-i : goal.invariant-loop-i
invariant-loop-i l = Walking (λ (c : Chip) (s : Bus). bus_with l.plan c s l.ms l.ss) l.table (sum_with l.initial.value l.initial.spot) l.n l.i (sum_with l.value l.spot)
