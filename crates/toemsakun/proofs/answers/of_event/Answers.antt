use mathlib.Core.Path.{◌∙◌}
use Rattle.toemsakun.specs.Answers.{event_at, passed}
use Rattle.base.specs.Rules.{cases}
use Rattle.toemsakun.proofs.answers.of_event.Goals as goal

pub returns-in-Ok : goal.returns-in-Ok
returns-in-Ok c = passed c.of_bit.result c.of_bit.type_inv ∙ (search (cases, event_at, c.of_bit.ensures))

pub returns-in-Err : goal.returns-in-Err
returns-in-Err c = passed c.of_refusal.result c.of_refusal.type_inv ∙ (search (cases, event_at, c.of_refusal.ensures))
