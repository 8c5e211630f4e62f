use Rattle.chip.specs.Limits.{known_small}
use mathlib.Core.Path.{sym, ◌∙◌}
use native.Mathlib.Omega.{arith}
use Rattle.card.specs.Card.{whole_entry}
use Rattle.base.specs.Rules.{cases}
use Rattle.card.proofs.whole_entry.Goals as goal

pub overflow_cast-result : goal.overflow_cast-result
overflow_cast-result c = let a = c.args in record { fits = omega (arith, known_small a.kind (sym c.is_known.ensures ∙ c.if-not-is_known.false)) }

pub returns-then-not-is_known : goal.returns-then-not-is_known
unfolding whole_entry
returns-then-not-is_known c = search (cases, ← c.is_known.ensures)

pub returns-then-size-ne-ENTRY_LENGTH : goal.returns-then-size-ne-ENTRY_LENGTH
unfolding whole_entry
returns-then-size-ne-ENTRY_LENGTH c = search (cases, ← c.is_known.ensures)

pub returns-then-room-eq0 : goal.returns-then-room-eq0
unfolding whole_entry
returns-then-room-eq0 c = search (cases, ← c.is_known.ensures)

pub returns : goal.returns
unfolding whole_entry
returns c = search (cases, c.code_at.ensures, ← c.is_known.ensures)
