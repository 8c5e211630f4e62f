use Rattle.std.proofs.Common.{◌-◌, length}
use Rattle.console.proofs.Reading.{dropped_on}
use Rattle.console.proofs.input.fetch.Goals as goal

pub returns-in-Ok-clause-known : goal.returns-in-Ok-clause-known
returns-in-Ok-clause-known g c =
    let held = c.within-held in
    let bytes = c.args.bytes.now in
    let got = c.in-Ok in
    let there = dropped_on held.result (length bytes - held.result) got.got bytes c.read.new.buf held.ensures.prefix_len.0 got.ensures.bound.0 in
    rw (← held.ensures.value, there) got.ensures.bytes.0
