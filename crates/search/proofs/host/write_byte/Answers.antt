use Rattle.search.specs.Pass.{writing_next, writing_end}
use Rattle.search.proofs.host.write_byte.Goals as goal

pub loop-i-preserved : goal.loop-i-preserved
loop-i-preserved c = let s = c.loop-i in record { writing = writing_next _ _ _ _ s.i _ s.invariant.writing c.loop-i-test.true c.bit_of.ensures c.slot.ensures.1 }

pub returns : goal.returns
returns c = let s = c.loop-i in writing_end _ _ _ s.i s.invariant.writing c.loop-i-test.false
