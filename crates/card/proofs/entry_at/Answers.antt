use Rattle.card.specs.Reading.{entry-at}
use Rattle.card.specs.Card.{entry_at}
use Rattle.base.specs.Rules.{cases}
use Rattle.card.proofs.entry_at.Goals as goal

pub returns-in-End : goal.returns-in-End
unfolding entry_at
returns-in-End c = search (cases, entry-at, ← c.head_at.ensures)

pub returns-in-Short : goal.returns-in-Short
unfolding entry_at
returns-in-Short c = search (cases, entry-at, ← c.head_at.ensures)

pub returns-in-Cut : goal.returns-in-Cut
unfolding entry_at
returns-in-Cut c = search (cases, entry-at, c.cut_entry.ensures, ← c.head_at.ensures)

pub returns-in-Whole : goal.returns-in-Whole
unfolding entry_at
returns-in-Whole c = search (cases, entry-at, c.whole_entry.ensures, ← c.head_at.ensures)
