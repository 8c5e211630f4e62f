use Rattle.std.proofs.Common.{List, ℕ, ap, ◌∙◌}
use Rattle.intelhex.specs.Reading.{lines_of, went_by}
use Rattle.intelhex.proofs.Underway.{lines_unsized, lines_sized}
use Rattle.intelhex.proofs.readers.read_lines.Goals as goal

pub returns-in_default : goal.returns-in_default
returns-in_default c = lines_unsized _ _ _ _ c.in_default.ensures.cases

pub returns : goal.returns
returns c =
    let a = c.args in
    let image = c.in-Some.ensures.cases in
    lines_sized _ _ _ _ image.long _ (c.read_all.ensures ∙ ap (λ (x : List ℕ). went_by x (lines_of a.more a.over a.text.now)) image.same)
