use Rattle.std.proofs.Common.{◌≡◌, drop}
use Rattle.crc.specs.Figure4.{cleared, drawn_of}
use Rattle.crc.proofs.crc8.Given as goal

abbrev pub invariant-loop-b : goal.invariant-loop-b
invariant-loop-b l = drawn_of l.r (drop l.b-index l.s) ≡ drawn_of cleared l.s
