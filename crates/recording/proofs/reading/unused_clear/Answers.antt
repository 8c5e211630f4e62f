use mathlib.Core.Path.{◌∙◌, ap, sym}
use Prim.Native.Nat.{ℕ, ◌%◌}
use lib.ListN.{drop}
use Rattle.line.specs.Slots.{bits_of}
use Rattle.recording.specs.Reading.{none_set}
use Rattle.recording.specs.Unused.{unused_last, unused_none}
use borrow.Author.Rules.{rules}
use Rattle.recording.proofs.reading.unused_clear.Goals as goal

pub returns-then-place-eq0 : goal.returns-then-place-eq0
returns-then-place-eq0 c = let a = c.args in sym (unused_none a.count a.bytes.now (search rules) (search rules))

pub returns : goal.returns
returns c = let a = c.args in c.are_clear.ensures ∙ ap (λ (x : ℕ). none_set (drop (a.count % 8) (bits_of 8 x))) c.byte_at-last.ensures ∙ sym (unused_last a.count a.bytes.now (search rules))
