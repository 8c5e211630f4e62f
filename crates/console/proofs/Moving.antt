-- Bytes that the library's `copy_within` moves to the start of their buffer.
use Rattle.std.proofs.Common.{ℕ, ◌-◌, ◌≡◌, min, arith, List}
use Rattle.std.proofs.lemmas.Grind.{common_steps}
use Rattle.std.specs.List.{copy_within}
use Rattle.console.specs.Input.{moved_down}

-- what lies between two places is moved down; from a place after the end there is nothing to move
pub moved_by_copy : (at held : ℕ) (bs : List ℕ) → copy_within bs (min at held) held 0 ≡ moved_down at (held - at) bs
unfolding moved_down
moved_by_copy at held bs = grind (arith, common_steps)
