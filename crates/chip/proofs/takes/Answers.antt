use Rattle.chip.specs.Level.{takes_is}
use Rattle.chip.proofs.takes.Goals as goal

pub returns : goal.returns
returns c =
    let a = c.args in
    let k = c.looks-look in
    let x = c.fetch-seen in
    let t = c.takes_by-to in
    let p = c.part_of-part in
    takes_is a.c a.v a.m.now a.s.now _ _ k.result x.result t.result p.result k.ensures x.ensures t.ensures p.ensures c.carry_out.ensures
