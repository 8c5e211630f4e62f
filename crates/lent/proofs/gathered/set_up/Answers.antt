use Rattle.lent.specs.Back.{sets_up}
use Rattle.lent.proofs.gathered.set_up.Goals as goal

pub returns : goal.returns
returns c =
    let a = c.args in
    sets_up a.s.now a.table.now c.blank-none.result c.set_up-up.result _ c.blank-none.ensures c.set_up-up.ensures c.put_back.ensures
