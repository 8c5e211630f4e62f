use Rattle.rounds.specs.Reading.{reading_next, reading_end}
use Rattle.rounds.proofs.host.read_bytes.Goals as goal

pub loop-i-preserved : goal.loop-i-preserved
loop-i-preserved c =
    let s = c.loop-i in
    record { reading = reading_next _ _ _ _ _ _ _ s.i _ s.invariant.reading c.loop-i-test.true c.read_byte-byte.ensures c.put_at.ensures }

pub returns : goal.returns
returns c = let s = c.loop-i in reading_end _ _ _ _ _ s.i s.invariant.reading c.loop-i-test.false
