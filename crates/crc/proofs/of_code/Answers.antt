use Rattle.std.proofs.Common.{rules, ap}
use Rattle.base.specs.Turns.{turns_from, turn_next, turn_last}
use Rattle.crc.specs.Code.{byte_of}
use Rattle.crc.specs.Drawn.{drawn-code}
use Rattle.crc.specs.Figure4.{drawn_byte, drawn_of, drawn_code}
use Rattle.crc.specs.declared.figure4.ShiftRegister.{ShiftRegister}
use Rattle.crc.proofs.of_code.Goals as goal

pub loop-k-init : goal.loop-k-init
unfolding drawn_code drawn_of
loop-k-init c = ap (λ (r : ShiftRegister). turns_from (λ r k. drawn_byte r (byte_of c.args.code k)) 7 0 r) c.start-r.ensures

pub loop-k-preserved : goal.loop-k-preserved
loop-k-preserved c = let l = c.loop-k in cc (turn_next (λ r k. drawn_byte r (byte_of c.args.code k)) 7 l.k l.r (search rules), l.invariant)

pub returns : goal.returns
returns c = let l = c.loop-k in cc (turn_last (λ r k. drawn_byte r (byte_of c.args.code k)) 7 l.k l.r (search rules), l.invariant, drawn-code c.args.code)
