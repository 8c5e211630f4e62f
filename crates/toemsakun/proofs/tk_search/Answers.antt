use mathlib.Core.Path.{◌∙◌}
use Rattle.toemsakun.specs.Answers.{passed}
use Rattle.toemsakun.specs.Laws.{search_done, listed_few}
use Rattle.toemsakun.proofs.tk_search.Goals as goal

pub of_search-requires : goal.of_search-requires
of_search-requires c = let f = c.search_line-f in listed_few _ _ _ f.ensures

pub returns : goal.returns
returns c = let t = c.unpack-t in let f = c.search_line-f in search_done _ t.result t.ensures _ _ _ _ f.result.listed _ f.result.resets.0 f.result.slots.0 f.result.table.n f.result.table.chips _ _ _ _ f.ensures c.put_table.ensures (passed c.of_search.result c.of_search.type_inv ∙ c.of_search.ensures)
