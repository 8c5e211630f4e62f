use Rattle.std.proofs.Common.{List, ℕ, ap, ◌∙◌}
use Rattle.intelhex.specs.Reading.{read_by}
use Rattle.intelhex.proofs.Underway.{text_unsized, text_sized}
use Rattle.intelhex.proofs.readers.read_text.Goals as goal

pub returns-in_default : goal.returns-in_default
returns-in_default c = text_unsized _ _ c.in_default.ensures.cases

pub returns : goal.returns
returns c =
    let taken = c.read_all-taken in
    let image = c.in-Some.ensures.cases in
    text_sized _ _ image.long _ taken.new.image _ _ _ _ _ c.blank_image-made.ensures.value taken.ensures
    (c.hand_over.ensures ∙ ap (λ (x : List ℕ). read_by x taken.new.image taken.result.lines taken.result.ending) image.same)
