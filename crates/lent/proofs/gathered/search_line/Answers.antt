use Rattle.lent.specs.Back.{searches}
use Rattle.lent.proofs.gathered.search_line.Goals as goal

pub returns : goal.returns
returns c =
    let a = c.args in
    searches a.table.now a.list.now a.ms.now a.ss.now c.gather-t.result c.search_line-f.result c.table_left-left.result _ _ _ _ c.told_of.result
    c.gather-t.ensures c.search_line-f.ensures c.table_left-left.ensures c.put_back.ensures c.told_of.ensures
