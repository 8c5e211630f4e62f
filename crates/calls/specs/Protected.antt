-- Demand 3, "Protected blocks never change, and in EPROM mode no bit rises.": over any calls.
use Rattle.std.specs.Prelude.{ℕ, ◌<◌, List, ◌≡◌}
use Rattle.std.specs.Int.Bits.{bit_and}
use Rattle.protection.proofs.Blocks.{control, block_byte}
use Rattle.protection.proofs.Public.{memory_of, protected_calls, only_falls_calls}
use Rattle.calls.specs.Form.{Form, CallTold, calls_of, Ran, Well, ran_leaves}

-- once the control byte of block j of chip i is 55h, no calls change it or any of the block's bytes
abbrev pub Protects : Form → Type 2
Protects F = (cs : List (CallTold F)) (x y : F.Loan) → Well F x → Ran F cs x y → (i j : ℕ) → j < 10
    → control (memory_of i (F.table x)) j ≡ 0x55
    → (control (memory_of i (F.table y)) j ≡ 0x55)
    × ((k : ℕ) → k < 256 → block_byte (memory_of i (F.table y)) j k ≡ block_byte (memory_of i (F.table x)) j k)

-- once it is AAh, none change it or raise a bit of the block's bytes
abbrev pub OnlyFall : Form → Type 2
OnlyFall F = (cs : List (CallTold F)) (x y : F.Loan) → Well F x → Ran F cs x y → (i j : ℕ) → j < 10
    → control (memory_of i (F.table x)) j ≡ 0xAA
    → (control (memory_of i (F.table y)) j ≡ 0xAA)
    × ((k : ℕ) → k < 256 → bit_and (block_byte (memory_of i (F.table y)) j k) (block_byte (memory_of i (F.table x)) j k) ≡ block_byte (memory_of i (F.table y)) j k)

-- THEOREMS, in each form
pub protects : (F : Form) → Protects F
protects F cs x y w r = rw (ran_leaves F w.is-table r).table (protected_calls (calls_of cs) (F.table x) w.stands)

pub only_fall : (F : Form) → OnlyFall F
only_fall F cs x y w r = rw (ran_leaves F w.is-table r).table (only_falls_calls (calls_of cs) (F.table x) w.stands)
