use mathlib.Core.Path.{◌∙◌, sym}
use Rattle.toemsakun.specs.Surveys.{plan_some, plan_none}
use Rattle.toemsakun.proofs.event.plan_bytes.Goals as goal

pub returns-in_default : goal.returns-in_default
returns-in_default c = plan_none _ _ _ _ (sym c.in_default.is ∙ c.judge.ensures)

pub returns : goal.returns
returns c = plan_some _ _ _ _ _ _ (sym c.in-Some.is ∙ c.judge.ensures) c.plan_of.ensures
