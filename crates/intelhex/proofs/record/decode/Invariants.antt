use Rattle.std.proofs.Common.{◌≡◌}
use Rattle.std.proofs.lemmas.List.Edits.{sets}
use Rattle.intelhex.specs.Bytes.{bytes_of}
use Rattle.intelhex.proofs.record.decode.Given as goal

abbrev pub invariant-loop-i : goal.invariant-loop-i
invariant-loop-i l =
    (l.i-iterator.iter.size ≡ 2) × (sets l.bytes l.i-iterator.count (bytes_of l.i-iterator.iter.rest.now) ≡ sets l.initial.bytes 0 (bytes_of l.digits))
