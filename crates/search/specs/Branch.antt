-- What the code hands back of a pass: the branch that it took, where a chip answered at every place.
use Rattle.std.specs.Prelude.{ℕ, ◌+◌, true, false, Option, Some, None}
use Rattle.search.specs.Host.{End, end}
use Rattle.search.specs.declared.host.Branch.{Branch}

-- one more than the last parting at which 0 was taken, 0 where there is none
abbrev pub marked : Option ℕ → ℕ
marked None = 0
marked (Some k) = k + 1

abbrev pub marked_on : Option Branch → ℕ
marked_on None = 0
marked_on (Some b) = marked b.parting

-- the end of a pass by its branch; where the pass was given up, the path and the last parting are those that it came to
abbrev pub ended : Option Branch → End → End
ended None e = end e.path e.last false
ended (Some b) e = end b.code (marked b.parting) true
