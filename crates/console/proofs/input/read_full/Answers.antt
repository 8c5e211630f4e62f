use Rattle.std.proofs.Common.{◌-◌, length, rules}
use Rattle.console.proofs.Reading.{consumed_on, taken_on}
use Rattle.console.proofs.input.read_full.Goals as goal

pub loop-done-preserved : goal.loop-done-preserved
loop-done-preserved g c =
    let l = c.loop-done in
    let r = c.read_some in (
      search rules,
      rw (taken_on l.done (length l.bytes - l.done) r.result l.bytes r.new.bytes (search rules) r.ensures.prefix_len.0)
          (consumed_on _ _ _ _ _ l.invariant.1 r.ensures.known),
    )
