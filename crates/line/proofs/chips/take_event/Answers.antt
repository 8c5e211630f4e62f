use Rattle.std.proofs.Common.{rules, ◌≡◌, ◌∙◌, ap, Bool, Result, Err, length}
use Rattle.line.specs.declared.Refusal.{Refusal}
use Rattle.line.specs.Event.{answered, outcome}
use Rattle.line.specs.Layout.{lent}
use Rattle.line.specs.Carrier.{plan_seen}
use Rattle.line.proofs.Walked.{carried_refused, carried_done}
use Rattle.line.proofs.chips.take_event.Goals as goal

pub returns-in_err-plan-clause-event : goal.returns-in_err-plan-clause-event
returns-in_err-plan-clause-event g c =
    let a = c.args in
    let n = g.C.Chips.number a.chips.now in
    let cs = g.C.Chips.places a.chips.now in
    let l = c.survey-survey in
    let q = c.number in
    let r : c.from_residual.result ≡ Err c.in_err-plan.field-0.0 = search rules in
    ap (λ (x : Result Bool Refusal). outcome (answered x) n (lent cs a.ms.now a.ss.now)) r
    ∙ carried_refused n cs a.ms.now a.ss.now q.ensures.placed a.e l.result l.ensures c.in_err-plan.field-0.0
    (c.in_err-plan.ensures ∙ ap (λ k. plan_seen l.result k a.e (length a.ms.now) (length a.ss.now)) q.ensures.value)

pub returns-clause-event : goal.returns-clause-event
returns-clause-event g c =
    let a = c.args in
    let n = g.C.Chips.number a.chips.now in
    let cs = g.C.Chips.places a.chips.now in
    let l = c.survey-survey in
    let q = c.number in
    let r = c.carry_out-value in
    ap (λ (x : Result Bool Refusal). outcome (answered x) (g.C.Chips.number r.new.chips) (lent (g.C.Chips.places r.new.chips) r.new.ms r.new.ss)) c.answer_of.ensures
    ∙ carried_done n cs a.ms.now a.ss.now q.ensures.placed a.e l.result l.ensures c.in_ok-plan.plan
    (c.in_ok-plan.ensures ∙ ap (λ k. plan_seen l.result k a.e (length a.ms.now) (length a.ss.now)) q.ensures.value)
    r.result _ _ _ _ r.ensures.value r.ensures.ss_after r.ensures.as_many
