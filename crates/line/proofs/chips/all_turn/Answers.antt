use Rattle.std.proofs.Common.{arith, ◌∙◌, sym, ap, List, ◌+◌, ◌-◌}
use Rattle.chip.specs.declared.Chip.{Chip}
use Rattle.line.specs.Carrier.{acts, turn_of, acts_more, acts_done}
use Rattle.line.specs.Layout.{capped}
use Rattle.line.proofs.chips.all_turn.Goals as goal

pub loop-i-preserved : goal.loop-i-preserved
loop-i-preserved g c =
    let t = c.turn-turned in
    let l = c.loop-i in
    let a = c.args in
    let p = g.C.Chips.places in
    let e = t.ensures ∙ ap (λ (x : Chip). turn_of a.plan a.value x l.spot l.ms l.ss) c.chip.ensures in (
      c.put.ensures.as_many ∙ l.invariant.0,
      c.put.ensures.as_lent ∙ l.invariant.1,
      t.auto.ms ∙ l.invariant.2,
      t.auto.ss ∙ l.invariant.3,
      ap (λ (cs : List Chip). acts a.plan a.value (c.used_places-i-end.result - (l.i + 1)) (l.i + 1) t.result.spot cs t.new.ms t.new.ss) c.put.ensures.places_after
          ∙ sym (acts_more a.plan a.value _ l.i l.spot t.result.spot (p l.chips) l.ms l.ss t.result.chip t.new.ms t.new.ss c.loop-i-test.true e)
          ∙ l.invariant.4,
    )

pub returns-clause-ss_after : goal.returns-clause-ss_after
returns-clause-ss_after g c =
    let a = c.args in
    sym (acts_done a.plan a.value _ _ _ _ _ _ (omega arith)) ∙ c.loop-i.invariant.4
    ∙ (λ j. acts a.plan a.value ((c.used_places-i-end.ensures.value ∙ ap capped c.number.ensures.value) j) 0 (c.first_spot-spot.ensures j) (g.C.Chips.places a.chips.now) a.ms.now a.ss.now)
