use mathlib.Core.Path.{◌∙◌, sym}
use Rattle.toemsakun.specs.Surveys.{verdict_some, verdict_none}
use Rattle.toemsakun.proofs.runs.verdict_bytes.Goals as goal

pub returns-in_default : goal.returns-in_default
returns-in_default c = verdict_none _ _ _ _ _ _ (sym c.in_default.is ∙ c.judge.ensures)

pub returns : goal.returns
returns c = verdict_some _ _ _ _ _ _ _ _ (sym c.in-Some.is ∙ c.judge.ensures) c.run_verdict_by.ensures
