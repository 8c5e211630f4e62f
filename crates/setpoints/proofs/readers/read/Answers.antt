use Rattle.std.proofs.Common.{rules, ◌≡◌, ◌∙◌, ap, sym, to_z, of_z}
use Rattle.std.specs.Int.{w64}
use Rattle.setpoints.specs.Readers.{whole_record}
use Rattle.setpoints.specs.Pages.{judged}
use Rattle.setpoints.specs.Kinds.{form_of}
use Rattle.setpoints.proofs.readers.read.Goals as goal

pub returns : goal.returns
returns c =
    let z : to_z w64 (of_z w64 c.value_in.result) ≡ c.value_in.result = search rules in
    c.judge.ensures ∙ ap (judged (form_of c.args.kind)) (z ∙ c.value_in.ensures)
    ∙ whole_record (form_of c.args.kind) _ c.if-page-ne-PAGE_SIZE.false
    (sym c.pair_at.ensures ∙ c.if-pair_at-number.false ∙ c.number.ensures)
    (sym c.pair_at-2.ensures ∙ c.if-pair_at-length.false ∙ c.length.ensures)
