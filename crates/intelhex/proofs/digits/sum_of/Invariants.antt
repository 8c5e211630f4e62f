use Rattle.std.proofs.Common.{◌≡◌, ◌+◌, ◌%◌, drop}
use Rattle.intelhex.specs.Bytes.{total, sum_of}
use Rattle.intelhex.proofs.digits.sum_of.Given as goal

abbrev pub invariant-loop-byte : goal.invariant-loop-byte
invariant-loop-byte l = (l.sum + total (drop l.byte-index l.bytes)) % 256 ≡ sum_of l.bytes
