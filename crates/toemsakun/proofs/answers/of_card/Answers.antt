use mathlib.Core.Path.{◌∙◌}
use Rattle.toemsakun.specs.Answers.{card_at, passed}
use Rattle.base.specs.Rules.{cases}
use Rattle.toemsakun.proofs.answers.of_card.Goals as goal

pub returns-in-Ok : goal.returns-in-Ok
returns-in-Ok c = passed c.of_count.result c.of_count.type_inv ∙ (search (cases, card_at, c.of_count.ensures))
