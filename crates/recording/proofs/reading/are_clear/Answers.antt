use mathlib.Core.Path.{ap, sym}
use lib.ListN.{drop_of_length-le}
use Rattle.line.specs.Slots.{bits_of}
use Rattle.recording.specs.Reading.{none_set}
use Rattle.recording.specs.Unused.{none_from}
use borrow.Author.Rules.{rules}
use Rattle.recording.proofs.reading.are_clear.Goals as goal

pub returns-then-place-lt8 : goal.returns-then-place-lt8
returns-then-place-lt8 c = let a = c.args in sym (none_from a.place 8 a.byte (search rules))

pub returns : goal.returns
returns c = let a = c.args in ap none_set (sym (drop_of_length-le (bits_of 8 a.byte) {i = a.place} (search rules)))
