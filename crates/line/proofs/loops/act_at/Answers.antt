use Rattle.base.specs.Rules.{cases}
use Rattle.line.specs.Bridge.{act_at}
use mathlib.Core.Path.{◌∙◌, sym}
use borrow.Author.Tests.{leb-true}
use Rattle.line.proofs.loops.act_at.Goals as goal

pub act_within-requires : goal.act_within-requires
act_within-requires c = (leb-true _ _ (sym c.lies_in.ensures ∙ c.if-lies_in.true), leb-true _ _ (sym c.lies_in-then-lies_in.ensures ∙ c.if-lies_in-2.true), c.image_size-size.ensures.value, c.pad_size-room.ensures.value)

pub returns-then-lies_in-2 : goal.returns-then-lies_in-2
unfolding act_at
returns-then-lies_in-2 c = search (cases, ← c.image_size-size.ensures.value, ← c.pad_size-room.ensures.value, ← c.lies_in.ensures, ← c.lies_in-then-lies_in.ensures, ← c.act_within.ensures)

pub returns-then-lies_in : goal.returns-then-lies_in
unfolding act_at
returns-then-lies_in c = search (cases, ← c.image_size-size.ensures.value, ← c.pad_size-room.ensures.value, ← c.lies_in.ensures, ← c.lies_in-then-lies_in.ensures)

pub returns : goal.returns
unfolding act_at
returns c = search (cases, ← c.image_size-size.ensures.value, ← c.lies_in.ensures)
