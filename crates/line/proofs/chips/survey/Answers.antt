use Rattle.std.proofs.Common.{rules, arith, ◌∙◌, sym, ap}
use Rattle.line.specs.Carrier.{over, survey_chip, over_more, over_done}
use Rattle.line.specs.Layout.{capped}
use Rattle.line.proofs.chips.survey.Goals as goal

pub loop-i-preserved : goal.loop-i-preserved
loop-i-preserved g c =
    sym (over_more (survey_chip c.args.chip) _ _ (g.C.Chips.places c.args.chips.now) _ _ c.loop-i-test.true (search rules)) ∙ c.loop-i.invariant

pub returns : goal.returns
returns g c =
    let a = c.args in
    let cs = g.C.Chips.places a.chips.now in
    sym (over_done (survey_chip a.chip) _ _ cs _ (omega arith)) ∙ c.loop-i.invariant
    ∙ (λ j. over (survey_chip a.chip) ((c.used_places-i-end.ensures.value ∙ ap capped c.number.ensures.value) j) 0 cs (c.first_survey-survey.ensures j))
