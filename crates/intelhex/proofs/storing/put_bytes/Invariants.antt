use Rattle.std.proofs.Common.{◌≡◌, length, take}
use Rattle.std.proofs.lemmas.List.Edits.{sets}
use Rattle.intelhex.proofs.storing.put_bytes.Given as goal

abbrev pub invariant-loop-i : goal.invariant-loop-i
invariant-loop-i l = (length l.slice ≡ length l.initial.slice) × (l.slice ≡ sets l.initial.slice l.at (take l.i l.bytes))
