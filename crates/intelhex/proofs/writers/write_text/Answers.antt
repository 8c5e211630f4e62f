use Rattle.std.proofs.Common.{ap, ◌∙◌}
use Rattle.intelhex.specs.Written.{text_of}
use Rattle.intelhex.specs.Putting.{image_unsized, text_unsized, text_written}
use Rattle.intelhex.proofs.writers.write_text.Goals as goal

pub returns-in_default : goal.returns-in_default
returns-in_default c = image_unsized _ _ c.in_default.ensures.cases

pub returns-in_default-as_mut_array : goal.returns-in_default-as_mut_array
returns-in_default-as_mut_array c = text_unsized _ _ c.in-Some.ensures.cases.long c.in_default-as_mut_array.ensures.cases

pub returns : goal.returns
returns c =
    let image = c.in-Some.ensures.cases in
    text_written _ _ image.long _ c.in-Some-as_mut_array.ensures.cases.long (c.put_text.ensures ∙ ap text_of image.same)
