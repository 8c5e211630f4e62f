use mathlib.Core.Path.{◌∙◌, ap}
use Rattle.toemsakun.specs.Library.{minus}
use Rattle.toemsakun.specs.Answers.{passed}
use Rattle.toemsakun.proofs.answers.of_refusal.Goals as goal

pub returns : goal.returns
returns c = passed c.minus_of.result c.minus_of.type_inv ∙ c.minus_of.ensures ∙ ap minus c.number_of.ensures
