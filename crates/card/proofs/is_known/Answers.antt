use Rattle.chip.specs.Limits.{known_past}
use borrow.Author.Rules.{rules}
use Rattle.card.proofs.is_known.Goals as goal

pub returns : goal.returns
returns c = search (rules, known_past)
