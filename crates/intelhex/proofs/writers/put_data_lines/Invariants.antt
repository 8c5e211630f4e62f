use Rattle.intelhex.specs.Putting.{Putting}
use Rattle.intelhex.proofs.writers.put_data_lines.Given as goal

abbrev pub invariant-loop-i : goal.invariant-loop-i
invariant-loop-i l = Putting l.image l.initial.text l.text l.i-iterator.iter.rest.now l.i-iterator.iter.size l.i-iterator.count
