use Rattle.base.specs.Rules.{cases}
use Rattle.line.specs.Bridge.{bit_at}
use mathlib.Core.Path.{◌∙◌, sym}
use borrow.Author.Tests.{leb-true}
use Rattle.line.proofs.loops.bit_at.Goals as goal

pub bit_within-requires : goal.bit_within-requires
bit_within-requires c = (leb-true _ _ (sym c.lies_in.ensures ∙ c.if-lies_in.true), leb-true _ _ (sym c.lies_in-then-lies_in.ensures ∙ c.if-lies_in-2.true), c.image_size-size.ensures.value, c.pad_size-room.ensures.value)

pub returns-then-lies_in-2 : goal.returns-then-lies_in-2
unfolding bit_at
returns-then-lies_in-2 c = search (cases, ← c.image_size-size.ensures.value, ← c.pad_size-room.ensures.value, ← c.lies_in.ensures, ← c.lies_in-then-lies_in.ensures, c.bit_within.ensures)

pub returns-then-lies_in : goal.returns-then-lies_in
unfolding bit_at
returns-then-lies_in c = search (cases, ← c.image_size-size.ensures.value, ← c.pad_size-room.ensures.value, ← c.lies_in.ensures, ← c.lies_in-then-lies_in.ensures)

pub returns : goal.returns
unfolding bit_at
returns c = search (cases, ← c.image_size-size.ensures.value, ← c.lies_in.ensures)
