use Rattle.std.proofs.Common.{refl}
use Rattle.line.specs.Attached.{attached}
use Rattle.rounds.specs.Reading.{sending_start, sending_next, sending_end}
use Rattle.rounds.proofs.host.write_code.Goals as goal

pub loop-init : goal.loop-init
loop-init c = let t = c.args.t.now in record { sending = sending_start c.args.code (attached t.n t.chips c.args.ms.now c.args.ss.now) }

pub loop-preserved : goal.loop-preserved
loop-preserved c =
    let s = c.loop in
    record { sending = sending_next _ _ _ _ s.rest s.counter _ s.invariant.sending c.loop-test.true refl c.write_byte.ensures }

pub returns : goal.returns
returns c = let s = c.loop in sending_end _ _ _ s.rest s.counter s.invariant.sending c.loop-test.false
