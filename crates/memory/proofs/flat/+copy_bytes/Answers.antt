use Rattle.memory.specs.Memory.{copied}
use Rattle.std.proofs.Common.{refl}
use Rattle.std.proofs.Common.{rules, ◌+◌, ◌-◌}
use Rattle.scratchpad.specs.Scratchpad.{in_page}
use Rattle.memory.specs.Part.{map_of}
use Rattle.memory.specs.Laws.{copied_none, copied_more}
use Rattle.memory.proofs.flat.+copy_bytes.Goals as goal

pub overflow_add-a : goal.overflow_add-a
unfolding in_page
overflow_add-a t c = search rules

pub returns-then-n-gt0 : goal.returns-then-n-gt0
unfolding copied
returns-then-n-gt0 t c =
    let a = c.args in
    cc (copied_more (map_of a.part) a.m.now a.s.now (in_page a.t 0) a.k a.n (a.k + a.n - 1) (search rules) refl)

pub returns-else-n-gt0 : goal.returns-else-n-gt0
returns-else-n-gt0 t c =
    let a = c.args in
    copied_none (map_of a.part) a.m.now a.s.now (in_page a.t 0) a.k a.n (search rules)
