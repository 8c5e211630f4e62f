-- "Protected blocks never change, and in EPROM mode no bit rises.": chip i of any line, over every history, refused events counted in.
use Rattle.std.specs.Prelude.{ℕ, ◌<◌, List, ◌≡◌}
use Rattle.std.specs.Int.Bits.{bit_and}
use Rattle.chip.specs.Chip.{Whole}
use Rattle.line.specs.declared.Event.{Event}
use Rattle.histories.specs.Histories.{at, run}
use Rattle.protection.proofs.Blocks.{control, block_byte, run_protected, run_only_falls}

-- THEOREM: once the control byte of block j is 55h, it stays 55h, and none of the block's 256 bytes changes
pub protected : (es : List Event) (L : List Whole) (i j : ℕ) → j < 10
    → control (at i L).memory j ≡ 0x55
    → (control (at i (run es L)).memory j ≡ 0x55)
    × ((k : ℕ) → k < 256 → block_byte (at i (run es L)).memory j k ≡ block_byte (at i L).memory j k)
protected = run_protected

-- THEOREM: once it is AAh, it stays AAh, and no bit of the block's bytes rises: each byte afterwards AND the byte before is the
-- byte afterwards
pub only-falls : (es : List Event) (L : List Whole) (i j : ℕ) → j < 10
    → control (at i L).memory j ≡ 0xAA
    → (control (at i (run es L)).memory j ≡ 0xAA)
    × ((k : ℕ) → k < 256 → bit_and (block_byte (at i (run es L)).memory j k) (block_byte (at i L).memory j k) ≡ block_byte (at i (run es L)).memory j k)
only-falls = run_only_falls
