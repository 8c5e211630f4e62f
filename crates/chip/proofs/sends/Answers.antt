use Rattle.chip.specs.Level.{sends_is}
use Rattle.chip.proofs.sends.Goals as goal

pub returns : goal.returns
returns c =
    let a = c.args in
    let k = c.looks-look in
    let x = c.fetch-seen in
    sends_is a.c a.m.now a.s.now k.result x.result c.sends_by.result k.ensures x.ensures c.sends_by.ensures
