use Rattle.std.proofs.Common.{◌≡◌}
use Rattle.base.specs.Turns.{turns_from}
use Rattle.crc.specs.Code.{byte_of}
use Rattle.crc.specs.Figure4.{drawn_byte, drawn_code}
use Rattle.crc.proofs.of_code.Given as goal

abbrev pub invariant-loop-k : goal.invariant-loop-k
invariant-loop-k l = turns_from (λ r k. drawn_byte r (byte_of l.code k)) 7 l.k l.r ≡ drawn_code l.code
