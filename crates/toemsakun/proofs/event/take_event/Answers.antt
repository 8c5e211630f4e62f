use Rattle.std.proofs.Common.{rules, ◌≡◌, ◌∙◌, refl, sym, ap, Bool, Result, Ok, Err}
use Rattle.line.specs.declared.Refusal.{Refusal}
use Rattle.line.specs.Event.{answered}
use Rattle.toemsakun.specs.Library.{event_left, answer_number}
use Rattle.toemsakun.specs.Judging.{none_done}
use Rattle.toemsakun.proofs.event.take_event.Goals as goal

pub returns-in_err-plan : goal.returns-in_err-plan
returns-in_err-plan c =
    let a = c.args in
    let r : c.from_residual.result ≡ Err c.in_err-plan.field-0.0 = search rules in
    ap (λ (x : Result Bool Refusal). event_left (answer_number (answered x)) a.table.now a.ms.now a.ss.now) r
    ∙ none_done a.table.now a.e a.ms.now a.ss.now (Err c.in_err-plan.field-0.0) c.in_err-plan.ensures (Err c.in_err-plan.field-0.0) refl refl

pub returns : goal.returns
returns c =
    let r = c.carry_out-value in
    ap (λ (x : Result Bool Refusal). event_left (answer_number (answered x)) r.new.table r.new.ms r.new.ss) c.answer_of.ensures ∙ r.ensures
