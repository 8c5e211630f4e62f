-- "Protected blocks never change, and in EPROM mode no bit rises.": of the public event, over a table and its buffers, and of calls, events
-- and searches in any order.
use Rattle.std.specs.Prelude.{ℕ, ◌+◌, ◌*◌, ◌<◌, List, ◌≡◌}
use Rattle.std.proofs.Common.{sym, subst}
use Rattle.std.specs.Int.Bits.{bit_and}
use Rattle.chip.specs.Chip.{Whole}
use Rattle.line.specs.declared.Event.{Event}
use Rattle.line.specs.Attached.{Attached, Stands, line_from}
use Rattle.histories.specs.Histories.{at}
use Rattle.histories.specs.Joined.{run_on, run_joined}
use Rattle.histories.specs.Calls.{Call, calls_on, events_of_calls, calls_run}
use Rattle.protection.specs.Guarded.{Protected, OnlyFalls}
use Rattle.protection.proofs.Blocks.{control, block_byte, run_protected, run_only_falls}

-- the memory of chip i of a table
abbrev pub memory_of : ℕ → Attached → List ℕ
memory_of i l = (at i (line_from l)).memory

-- THEOREM: once the control byte of block j is 55h, no history of the public event changes it or any of the block's bytes
pub protected_on : (es : List Event) (l : Attached) → Stands l → (i j : ℕ) → j < 10
    → control (memory_of i l) j ≡ 0x55
    → (control (memory_of i (run_on es l)) j ≡ 0x55)
    × ((k : ℕ) → k < 256 → block_byte (memory_of i (run_on es l)) j k ≡ block_byte (memory_of i l) j k)
protected_on es l s i j h = subst (λ (M : List Whole). Protected (0x0A00 + j) (256 * j) 256 (memory_of i l) (at i M).memory) (sym (run_joined es l s)) (run_protected es (line_from l) i j h)

-- THEOREM: once it is AAh, none changes it or raises a bit of the block's bytes
pub only_falls_on : (es : List Event) (l : Attached) → Stands l → (i j : ℕ) → j < 10
    → control (memory_of i l) j ≡ 0xAA
    → (control (memory_of i (run_on es l)) j ≡ 0xAA)
    × ((k : ℕ) → k < 256 → bit_and (block_byte (memory_of i (run_on es l)) j k) (block_byte (memory_of i l) j k) ≡ block_byte (memory_of i (run_on es l)) j k)
only_falls_on es l s i j h = subst (λ (M : List Whole). OnlyFalls (0x0A00 + j) (256 * j) 256 (memory_of i l) (at i M).memory) (sym (run_joined es l s)) (run_only_falls es (line_from l) i j h)

-- THEOREM: nor do calls with searches and runs of slots among them change a block at 55h
pub protected_calls : (cs : List Call) (l : Attached) → Stands l → (i j : ℕ) → j < 10
    → control (memory_of i l) j ≡ 0x55
    → (control (memory_of i (calls_on cs l)) j ≡ 0x55)
    × ((k : ℕ) → k < 256 → block_byte (memory_of i (calls_on cs l)) j k ≡ block_byte (memory_of i l) j k)
protected_calls cs l s = rw (calls_run cs l s) (protected_on (events_of_calls cs l) l s)

-- THEOREM: nor do they raise a bit of one at AAh
pub only_falls_calls : (cs : List Call) (l : Attached) → Stands l → (i j : ℕ) → j < 10
    → control (memory_of i l) j ≡ 0xAA
    → (control (memory_of i (calls_on cs l)) j ≡ 0xAA)
    × ((k : ℕ) → k < 256 → bit_and (block_byte (memory_of i (calls_on cs l)) j k) (block_byte (memory_of i l) j k) ≡ block_byte (memory_of i (calls_on cs l)) j k)
only_falls_calls cs l s = rw (calls_run cs l s) (only_falls_on (events_of_calls cs l) l s)
