-- What Read Memory leaves. Document 01: "T, E/S and scratchpad stay."
use Rattle.std.specs.Prelude.{ℕ, Bool, ◌≡◌, refl}
use Rattle.std.proofs.Common.{ap}
use Rattle.base.specs.Pick.{pick_both}
use Rattle.scratchpad.specs.Scratchpad.{memory_begins}
use Rattle.scratchpad.specs.declared.Registers.{Registers}
use Rattle.scratchpad.specs.declared.Deed.{Deed}
use Rattle.scratchpad.specs.declared.Deed.TheVariants.{Nothing}
use Rattle.scratchpad.specs.declared.MemoryPhase.TheVariants.{ReadAddress, ReadMemory}
use Rattle.memory.specs.Memory.{Bytes, done}
use Rattle.memory.specs.declared.Seen.{Seen}
use Rattle.chip.specs.Chip.{Whole, chip_map, function_in, function_slot, memory_slot, level_seen, level_takes_by, takes_of}
use Rattle.chip.specs.declared.Chip.{Chip}
use Rattle.chip.specs.declared.ChipAfter.{ChipAfter}
use Rattle.chip.specs.declared.Level.{Level}
use Rattle.chip.specs.declared.Level.TheVariants.{FunctionCommand, Memory}

-- the levels of Read Memory: its command, its address, and the bytes that it sends
pub data Reads : Level → Type 0 where
  command : (count bits : ℕ) → Reads (FunctionCommand count bits)
  address : (count bits : ℕ) → Reads (Memory (ReadAddress count bits))
  bytes : (a count : ℕ) → Reads (Memory (ReadMemory a count))

-- T, E/S, scratchpad and memory of a chip are those of another
pub record Stay (before after : Whole) : Type 0 where
  pub registers : after.chip.registers ≡ before.chip.registers
  pub pad : after.pad ≡ before.pad
  pub memory : after.memory ≡ before.memory

-- a slot that does nothing to memory and scratchpad, and leaves these registers
abbrev Still : Registers → ChipAfter → Type 0
Still r s = (s.chip.registers ≡ r) × (s.deed ≡ Nothing)

-- so is one at each of the levels
level_still : (c : Chip) (v : Bool) (x : Seen) {l : Level} → Reads l → Still c.registers (level_takes_by c v x l)
unfolding function_slot function_in memory_begins memory_slot
level_still c v x (command count bits) =
    let S = Still c.registers in
    pick_both S _ _ _ (refl, refl) (pick_both S _ _ _ (refl, refl) (pick_both S _ _ _ (refl, refl) (refl, refl)))
level_still c v x (address count bits) = (refl, refl)
level_still c v x (bytes a count) = (refl, refl)

-- THEOREM: a slot of whatever value, at whatever bit of Read Memory
pub read_stays : (w : Whole) (v : Bool) → Reads w.chip.level → Stay w (takes_of v w)
unfolding takes_of
read_stays w v r =
    let k = level_still w.chip v (level_seen w w.chip.level) r in
    let did : Deed → Bytes = λ d. done (chip_map w.chip) w.memory w.pad d in
    record { registers = k.0; pad = ap (λ (d : Deed). (did d).pad) k.1; memory = ap (λ (d : Deed). (did d).memory) k.1 }
