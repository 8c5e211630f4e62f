-- Laws: the bounds that a slot sees are those of the map, whatever it has at hand.
use Rattle.std.specs.Prelude.{ℕ, ◌<◌, ◌≡◌, refl}
use Rattle.std.proofs.Common.{arith}
use Rattle.scratchpad.specs.Map.{Map}
use Rattle.scratchpad.specs.Scratchpad.{hand_of}
use Rattle.scratchpad.specs.declared.Hand.{Hand}
use Rattle.scratchpad.specs.declared.Hand.TheVariants as hand
use Rattle.scratchpad.specs.declared.MemoryPhase.{MemoryPhase}
use Rattle.ds28ec20.specs.Map as ec20
use Rattle.memory.specs.declared.Seen.{Seen}
use Rattle.memory.specs.declared.Part.{Part}
use Rattle.memory.specs.declared.Part.TheVariants.{Ds28ec20}
use Rattle.memory.specs.Part.{map_of}
use Rattle.memory.specs.Memory.{sight_by}
use Rattle.chip.specs.Chip.{chip_map, memory_sight}
use Rattle.chip.specs.Kinds.{part_of}
use Rattle.chip.specs.declared.Chip.{Chip}

by_last : (M : Map) (es : ℕ) (x : Seen) (h : Hand) → (sight_by M es x h).last ≡ M.last
by_last M es x hand.Nothing = refl
by_last M es x (hand.Byte a) = refl
by_last M es x (hand.Page p) = refl
by_last M es x (hand.Pad o) = refl
by_last M es x (hand.Memory a) = refl

by_end : (M : Map) (es : ℕ) (x : Seen) (h : Hand) → M.end es < 32 → (sight_by M es x h).end < 32
by_end M es x hand.Nothing e = e
by_end M es x (hand.Byte a) e = e
by_end M es x (hand.Page p) e = e
by_end M es x (hand.Pad o) e = e
by_end M es x (hand.Memory a) e = e

-- Read Scratchpad sends no offset past 31
map_end : (q : Part) (es : ℕ) → (map_of q).end es < 32
unfolding map_of ec20.ds28ec20 ec20.pad_end
map_end Ds28ec20 es = omega arith

pub sight_last : (c : Chip) (p : MemoryPhase) (x : Seen) → (memory_sight c p x).last ≡ (chip_map c).last
unfolding memory_sight
sight_last c p x = by_last (chip_map c) c.registers.es x (hand_of c.registers.t p)

pub sight_end : (c : Chip) (p : MemoryPhase) (x : Seen) → (memory_sight c p x).end < 32
unfolding memory_sight
sight_end c p x = by_end (chip_map c) c.registers.es x (hand_of c.registers.t p) (map_end (part_of c.kind) c.registers.es)
