use Rattle.crc.specs.Loop.{drawn_next, drawn_end}
use Rattle.crc.specs.Drawn.{drawn_from_0}
use Rattle.crc.proofs.crc8.Goals as goal

pub loop-b-preserved : goal.loop-b-preserved
loop-b-preserved c = let l = c.loop-b in cc (drawn_next l.r c.args.s.now l.b-index c.loop-b-test.true, l.invariant, c.take_byte-r.ensures)

pub returns : goal.returns
returns c = let s = c.args.s.now in cc (drawn_end c.loop-b.r s c.loop-b.b-index c.loop-b-test.false, c.loop-b.invariant, c.as_byte.ensures, drawn_from_0 s)
