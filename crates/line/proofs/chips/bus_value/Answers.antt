use Rattle.std.proofs.Common.{rules, arith, ◌∙◌, sym, ap}
use Rattle.chip.specs.declared.Chip.{Chip}
use Rattle.line.specs.declared.Bus.{Bus}
use Rattle.line.specs.Carrier.{over, bus_with, over_more, over_done}
use Rattle.line.specs.Layout.{capped}
use Rattle.line.proofs.chips.bus_value.Goals as goal

pub loop-i-preserved : goal.loop-i-preserved
loop-i-preserved g c =
    let a = c.args in
    sym (over_more (λ (x : Chip) (s : Bus). bus_with a.plan x s a.ms.now a.ss.now) _ _ (g.C.Chips.places a.chips.now) _ _ c.loop-i-test.true (search rules)) ∙ c.loop-i.invariant

pub returns : goal.returns
returns g c =
    let a = c.args in
    let cs = g.C.Chips.places a.chips.now in
    ap (λ (s : Bus). s.value)
    (sym (over_done (λ (x : Chip) (s : Bus). bus_with a.plan x s a.ms.now a.ss.now) _ _ cs _ (omega arith)) ∙ c.loop-i.invariant
    ∙ (λ j. over (λ (x : Chip) (s : Bus). bus_with a.plan x s a.ms.now a.ss.now) ((c.used_places-i-end.ensures.value ∙ ap capped c.number.ensures.value) j) 0 cs (c.first_bus-bus.ensures j)))
