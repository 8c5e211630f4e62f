-- Document 01, "Refusal numbers": the ranges that refusal 8 goes by.
use Rattle.std.specs.Prelude.{ℕ, Bool, true, ltb}
use Rattle.base.specs.Bits.{both}
use Rattle.rom.specs.Rom.{rom_in_range}
use Rattle.scratchpad.specs.Scratchpad.{memory_in_range, registers_in_range}
use Rattle.memory.specs.Part.{map_of}
use Rattle.chip.specs.Kinds.{known_kind, part_of, has_memory, has_switch}
use Rattle.ds2413.specs.Switch.{phase_in_range, switch_in_range}
use Rattle.chip.specs.declared.Chip.{Chip}
use Rattle.chip.specs.declared.Level.{Level}
use Rattle.chip.specs.declared.Level.TheVariants.{Waiting, Rom, FunctionCommand, Memory, Pio}

-- "every bit count and place inside its step", and the level is one that the kind can be in
abbrev pub level_in_range : ℕ → Level → Bool
level_in_range kind Waiting = true
level_in_range kind (Rom s) = rom_in_range s
level_in_range kind (FunctionCommand count bits) = ltb count 8
level_in_range kind (Memory p) = both (has_memory kind) (memory_in_range (map_of (part_of kind)).last p)
level_in_range kind (Pio p) = both (has_switch kind) (phase_in_range p)

-- "kind 1 or 2, E/S bit 6 zero, latches and levels two bits each, every bit count and place inside its step"
unfoldable pub in_range : Chip → Bool
in_range c =
    both (both (known_kind c.kind) (registers_in_range c.registers))
    (both (switch_in_range c.switch) (level_in_range c.kind c.level))
