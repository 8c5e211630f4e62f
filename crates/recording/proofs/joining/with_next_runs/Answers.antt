use borrow.Enum.Refused.{opened}
use borrow.Author.Rules.{rules}
use native.Mathlib.Omega.{arith}
use Prim.Native.Nat.{◌≤◌}
use mathlib.Core.Path.{subst}
use Rattle.recording.specs.Putting.{RecordFits}
use Rattle.recording.specs.Next.{run-bytes}
use Rattle.recording.specs.JoinLoop.{joined_other, joined_none, joined_runs}
use Rattle.recording.proofs.Absent.{no_slots}
use Rattle.recording.proofs.joining.with_next_runs.Goals as goal

pub returns-in_default : goal.returns-in_default
returns-in_default c = let a = c.args in joined_other a.more a.s.now a.room a.taken a.next a.host.now (no_slots _ (opened c.in_default.in_default-own.keys2)) c.requires.1

pub returns-then-count-eq0 : goal.returns-then-count-eq0
returns-then-count-eq0 c = let a = c.args in joined_none a.more a.s.now a.room a.taken a.next _ _ _ c.in-Slots.is a.host.now c.if-count-eq0.true c.requires.1

pub slice_bounds-add_bits-count : goal.slice_bounds-add_bits-count
slice_bounds-add_bits-count c = let a = c.args in let f = subst (RecordFits a.s.now) c.in-Slots.is c.requires.0 in let e = f.0 in omega arith

pub slice_bounds-add_bits-start : goal.slice_bounds-add_bits-start
slice_bounds-add_bits-start c = let a = c.args in let f = subst (RecordFits a.s.now) c.in-Slots.is c.requires.0 in let e = f.0 in omega arith

pub slice_bounds-add_bits-end : goal.slice_bounds-add_bits-end
slice_bounds-add_bits-end c = let a = c.args in let f = subst (RecordFits a.s.now) c.in-Slots.is c.requires.0 in f.1

pub add_bits-requires : goal.add_bits-requires
add_bits-requires c = let a = c.args in let g = c.in-Slots in let f = subst (RecordFits a.s.now) g.is c.requires.0 in let few : g.count ≤ 65535 = search rules in let b = run-bytes a.s.now _ _ _ f in (omega arith, omega arith)

pub returns : goal.returns
returns c = let a = c.args in let j = c.gather_runs-run in let b = c.add_bits in joined_runs a.more a.s.now a.room a.taken a.next _ _ _ c.in-Slots.is a.host.now _ _ _ _ _ c.if-count-eq0.false b.ensures j.ensures c.bytes_asked.ensures j.array_long
