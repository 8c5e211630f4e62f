use native.Mathlib.Omega.{arith}
use mathlib.Core.Path.{◌∙◌, sym}
use Rattle.recording.specs.Heads.{cut_lies, whole_lies, found-at}
use Rattle.recording.specs.Reading.{found_at}
use Rattle.base.specs.Rules.{cases}
use Rattle.recording.proofs.reading.record_at.Goals as goal

pub cut_record-requires : goal.cut_record-requires
cut_record-requires c = cut_lies _ _ _ _ (sym c.head_at.ensures ∙ c.in-Cut.is)

pub whole_record-requires : goal.whole_record-requires
whole_record-requires c = let l = whole_lies _ _ _ _ _ _ (sym c.head_at.ensures ∙ c.in-Whole.is) in (omega (arith, l.0, l.1), l.2)

pub returns-in-End : goal.returns-in-End
unfolding found_at
returns-in-End c = search (cases, found-at, c.at_end.ensures, ← c.head_at.ensures)

pub returns-in-Short : goal.returns-in-Short
unfolding found_at
returns-in-Short c = search (cases, found-at, c.cut_off.ensures, ← c.head_at.ensures)

pub returns-in-Cut : goal.returns-in-Cut
unfolding found_at
returns-in-Cut c = search (cases, found-at, c.cut_record.ensures, ← c.head_at.ensures)

pub returns-in-Whole : goal.returns-in-Whole
unfolding found_at
returns-in-Whole c = search (cases, found-at, c.whole_record.ensures, ← c.head_at.ensures)
