use Rattle.recording.specs.Digits.{Digits}
use Rattle.recording.proofs.playing.put_digits.Given as goal

abbrev pub invariant-loop-i : goal.invariant-loop-i
invariant-loop-i l = Digits l.answers l.n l.place l.initial.out l.out l.i
