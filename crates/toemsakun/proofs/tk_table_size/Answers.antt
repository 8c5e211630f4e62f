use Rattle.toemsakun.specs.Library.{table_size}
use Rattle.packed.specs.Packed.{record_size}
use Prim.Native.Nat.{ℕ, ◌*◌}
use mathlib.Core.Path.{ap}
use Rattle.toemsakun.proofs.tk_table_size.Goals as goal

pub returns : goal.returns
unfolding table_size
returns c = ap (λ (n : ℕ). n * record_size) c.used_places-n.ensures.value
