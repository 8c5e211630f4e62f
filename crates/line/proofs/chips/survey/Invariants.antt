use Rattle.std.proofs.Common.{◌≡◌, ◌-◌}
use Rattle.line.specs.Carrier.{over, survey_chip}
use Rattle.line.proofs.chips.survey.Given as goal

abbrev pub invariant-loop-i : goal.invariant-loop-i
invariant-loop-i g l =
    let cs = g.C.Chips.places l.chips in
    over (survey_chip l.chip) (l.i-end - l.i) l.i cs l.survey ≡ over (survey_chip l.chip) l.i-end 0 cs l.initial.survey
