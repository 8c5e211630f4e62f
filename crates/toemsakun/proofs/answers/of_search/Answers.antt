use Rattle.std.proofs.Common.{◌∙◌, ap, refl}
use Rattle.toemsakun.specs.Library.{minus}
use Rattle.toemsakun.specs.Answers.{search_at, refused_at, passed}
use Rattle.toemsakun.proofs.answers.of_search.Goals as goal

pub returns-in-Ok : goal.returns-in-Ok
returns-in-Ok c = let a = c.args in passed c.of_count.result c.of_count.type_inv ∙ search_at a.n a.answer _ c.of_count.result c.in-Ok.is c.of_count.ensures

pub returns-in-Err : goal.returns-in-Err
returns-in-Err c =
    let a = c.args in
    passed c.minus_of.result c.minus_of.type_inv ∙ refused_at a.n a.answer _ c.minus_of.result c.in-Err.is refl (c.minus_of.ensures ∙ ap minus c.number_of.ensures)
