use mathlib.Core.Path.{◌∙◌, ap}
use Rattle.line.specs.declared.Table.{Table}
use Rattle.toemsakun.specs.Answers.{passed}
use Rattle.toemsakun.specs.Laws.{card_few, card_done}
use Rattle.toemsakun.proofs.tk_card.Goals as goal

pub of_card-requires : goal.of_card-requires
of_card-requires c = let s = c.set_up-up in let b = c.blank-none in card_few c.args.table.now c.args.card.now b.result (ap (λ (t : Table). t.n) b.ensures) _ s.result.table.n s.result.table.chips s.ensures

pub returns : goal.returns
returns c = let s = c.set_up-up in let b = c.blank-none in card_done c.args.table.now c.args.card.now b.result (ap (λ (t : Table). t.n) b.ensures) _ s.result.table.n s.result.table.chips _ _ _ s.ensures c.put_table.ensures c.offset_of.ensures (passed c.of_card.result c.of_card.type_inv ∙ c.of_card.ensures)
