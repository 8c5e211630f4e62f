use Rattle.line.specs.Attached.{attached}
use Rattle.rounds.specs.Reading.{hearing_start, hearing_next, hearing_end}
use Rattle.rounds.proofs.host.read_byte.Goals as goal

pub loop-init : goal.loop-init
loop-init c = let t = c.args.t.now in record { hearing = hearing_start (attached t.n t.chips c.args.ms.now c.args.ss.now) }

pub loop-preserved : goal.loop-preserved
loop-preserved c =
    let s = c.loop in
    let h = c.slot in
    record { hearing = hearing_next _ _ _ s.byte s.counter _ _ s.invariant.hearing c.loop-test.true h.ensures.0 h.ensures.1 c.filled-byte.ensures }

pub returns : goal.returns
returns c = let s = c.loop in hearing_end _ _ s.byte s.counter s.invariant.hearing c.loop-test.false
