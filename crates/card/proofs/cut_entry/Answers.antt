use Rattle.card.specs.Card.{cut_entry}
use Rattle.base.specs.Rules.{cases}
use Rattle.card.proofs.cut_entry.Goals as goal

pub returns-then-is_known : goal.returns-then-is_known
unfolding cut_entry
returns-then-is_known c = search (cases, ← c.is_known.ensures)

pub returns : goal.returns
unfolding cut_entry
returns c = search (cases, ← c.is_known.ensures)
