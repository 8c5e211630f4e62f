use Rattle.memory.proofs.flat.+copy_bytes.Given as goal

abbrev pub decreases-copy_bytes : goal.decreases-copy_bytes
decreases-copy_bytes l = l.n
