-- One chip of any kind, with its memory and its scratchpad: "Each chip answers bit for bit".
use Rattle.std.specs.Prelude.{ℕ, ◌+◌, Bool, true, false, List, ltb, length, replicate}
use Rattle.base.specs.Pick.{pick}
use Rattle.base.specs.Bits.{filled}
use Rattle.rom.specs.Rom.{rom_takes, rom_sends}
use Rattle.rom.specs.declared.RomNext.{RomNext}
use Rattle.rom.specs.declared.RomNext.TheVariants as next
use Rattle.rom.specs.declared.RomStep.{RomStep}
use Rattle.rom.specs.declared.RomStep.TheVariants.{Command}
use Rattle.scratchpad.specs.Registers.{power_on_registers}
use Rattle.scratchpad.specs.Scratchpad.{hand_of, memory_begins, memory_takes, memory_sends, memory_reset}
use Rattle.scratchpad.specs.declared.Registers.{Registers}
use Rattle.scratchpad.specs.declared.MemoryPhase.{MemoryPhase}
use Rattle.scratchpad.specs.declared.MemoryAfter.{MemoryAfter}
use Rattle.scratchpad.specs.declared.Sight.{Sight}
use Rattle.scratchpad.specs.declared.Deed.{Deed}
use Rattle.scratchpad.specs.declared.Deed.TheVariants.{Nothing}
use Rattle.scratchpad.specs.Map.{Map}
use Rattle.memory.specs.declared.Look.{Look}
use Rattle.memory.specs.declared.Look.TheVariants as look
use Rattle.memory.specs.declared.Seen.{Seen}
use Rattle.memory.specs.Part.{map_of}
use Rattle.memory.specs.Memory.{look_of, seen_in, sight_by, done}
use Rattle.chip.specs.Kinds.{part_of, has_memory, has_scratchpad, has_registers, has_switch, takes_outside, knows_of}
use Rattle.chip.specs.With.{new_chip, with_rc, with_level, with_registers, with_switch}
use Rattle.chip.specs.declared.ChipAfter.{ChipAfter}
use Rattle.ds2413.specs.Switch.{switch_outside, switch_begins, switch_takes, switch_sends, switch_power_on, switch_set_up}
use Rattle.ds2413.specs.declared.SwitchPhase.{SwitchPhase}
use Rattle.ds2413.specs.declared.SwitchAfter.{SwitchAfter}
use Rattle.chip.specs.declared.Chip.{Chip}
use Rattle.chip.specs.declared.Level.{Level}
use Rattle.chip.specs.declared.Level.TheVariants.{Waiting, Rom, FunctionCommand, Memory, Pio}

-- the chip's whole state: its record, its memory and its scratchpad
pub record Whole : Type 0 where
  pub chip : Chip
  pub memory : List ℕ
  pub pad : List ℕ

abbrev pub whole : Chip → List ℕ → List ℕ → Whole
whole c m s = record { chip = c; memory = m; pad = s }

-- the map of a chip's part
abbrev pub chip_map : Chip → Map
chip_map c = map_of (part_of c.kind)

-- where a slot leaves a chip, and its deed
abbrev pub left : Chip → Deed → ChipAfter
left c d = record { chip = c; deed = d }

-- where the ROM level leads
abbrev pub level_of : RomNext → Level
level_of next.Wait = Waiting
level_of (next.Step s) = Rom s
level_of next.Function = FunctionCommand 0 0

-- a slot at the ROM level
unfoldable pub rom_slot : Chip → RomStep → Bool → Chip
rom_slot c s v =
    let t = rom_takes c.code c.rc v (knows_of c.kind) s in
    with_level (level_of t.next) (with_rc t.rc c)

-- a chip after a slot of its memory
abbrev pub after_memory : Chip → MemoryAfter → ChipAfter
after_memory c t = left (with_level (Memory t.phase) (with_registers t.registers c)) t.deed

-- a chip after a slot of its switch
abbrev pub after_switch : Chip → SwitchAfter → Chip
after_switch c t = with_level (Pio t.phase) (with_switch t.switch c)

-- the function command b: "The kind of a chip is told, never guessed from its code."
unfoldable pub function_in : Chip → ℕ → ChipAfter
function_in c b =
    pick (has_memory c.kind) (after_memory c (memory_begins c.registers b))
    (pick (has_switch c.kind) (left (after_switch c (switch_begins c.switch b)) Nothing)
    (left (with_level Waiting c) Nothing))

-- a bit of the function command
unfoldable pub function_slot : Chip → ℕ → ℕ → Bool → ChipAfter
function_slot c count bits v =
    pick (ltb count 7) (left (with_level (FunctionCommand (count + 1) (filled 0x80 bits v)) c) Nothing)
    (function_in c (filled 0x80 bits v))

-- what a memory looks at and sees at a phase
unfoldable pub memory_look : Chip → MemoryPhase → Look
memory_look c p = look_of (chip_map c) (hand_of c.registers.t p)

unfoldable pub memory_sight : Chip → MemoryPhase → Seen → Sight
memory_sight c p x = sight_by (chip_map c) c.registers.es x (hand_of c.registers.t p)

-- a slot at a phase of a memory
unfoldable pub memory_slot : Chip → MemoryPhase → Bool → Seen → ChipAfter
memory_slot c p v x = after_memory c (memory_takes c.registers v (memory_sight c p x) p)

-- a slot at a phase of a DS2413
unfoldable pub switch_slot : Chip → SwitchPhase → Bool → Chip
switch_slot c p v = after_switch c (switch_takes c.switch v p)

-- which bytes a slot looks at, at each level
abbrev pub level_looks : Chip → Level → Look
level_looks c Waiting = look.Nothing
level_looks c (Rom s) = look.Nothing
level_looks c (FunctionCommand count bits) = look.Nothing
level_looks c (Memory p) = memory_look c p
level_looks c (Pio p) = look.Nothing

unfoldable pub looks_of : Chip → Look
looks_of c = level_looks c c.level

-- where a slot of the value v leaves a chip, by what it saw, at each level
abbrev pub level_takes_by : Chip → Bool → Seen → Level → ChipAfter
level_takes_by c v x Waiting = left c Nothing
level_takes_by c v x (Rom s) = left (rom_slot c s v) Nothing
level_takes_by c v x (FunctionCommand count bits) = function_slot c count bits v
level_takes_by c v x (Memory p) = memory_slot c p v x
level_takes_by c v x (Pio p) = left (switch_slot c p v) Nothing

unfoldable pub takes_by : Chip → Bool → Seen → ChipAfter
takes_by c v x = level_takes_by c v x c.level

-- what a chip sends in a slot, by what it saw, at each level; "a chip with nothing to send sends 1"
abbrev pub level_sends_by : Chip → Seen → Level → Bool
level_sends_by c x Waiting = true
level_sends_by c x (Rom s) = rom_sends c.code s
level_sends_by c x (FunctionCommand count bits) = true
level_sends_by c x (Memory p) = memory_sends c.registers (memory_sight c p x) p
level_sends_by c x (Pio p) = switch_sends p

unfoldable pub sends_by : Chip → Seen → Bool
sends_by c x = level_sends_by c x c.level

-- what a slot at a level sees of a whole chip
abbrev pub level_seen : Whole → Level → Seen
level_seen w l = seen_in w.memory w.pad (level_looks w.chip l)

-- a whole chip after a slot: its deed is done to memory and scratchpad
abbrev pub whole_after : Whole → ChipAfter → Whole
whole_after w t = let b = done (chip_map w.chip) w.memory w.pad t.deed in whole t.chip b.memory b.pad

-- what a slot of the value v does at each level
abbrev pub level_takes : Whole → Bool → Level → Whole
level_takes w v l = whole_after w (level_takes_by w.chip v (level_seen w l) l)

-- what a slot of the value v does to a chip
unfoldable pub takes_of : Bool → Whole → Whole
takes_of v w = level_takes w v w.chip.level

-- what a chip sends in a slot at each level
abbrev pub level_sends : Whole → Level → Bool
level_sends w l = level_sends_by w.chip (level_seen w l) l

-- the bit that a chip sends in a slot
unfoldable pub sends_of : Whole → Bool
sends_of w = level_sends w w.chip.level

-- what a reset does to T and E/S at each level
abbrev pub level_reset : Chip → Level → Registers
level_reset c Waiting = c.registers
level_reset c (Rom s) = c.registers
level_reset c (FunctionCommand count bits) = c.registers
level_reset c (Memory p) = memory_reset c.registers (chip_map c).cut_sets_pf p
level_reset c (Pio p) = c.registers

-- "After a reset every chip takes 8 bits .. Reset alone leaves RC, memory, scratchpad, registers and latches, save for the PF rule below."
unfoldable pub reset_chip : Chip → Chip
reset_chip c = with_level (Rom (Command 0 0)) (with_registers (level_reset c c.level) c)

unfoldable pub reset_of : Whole → Whole
reset_of w = whole (reset_chip w.chip) w.memory w.pad

-- "After power on a chip waits for a reset; slots do nothing and RC is 0."; a DS28EC20's T and E/S and a DS2413's latches are set
unfoldable pub power_on_chip : Chip → Chip
power_on_chip c =
    with_level Waiting
    (with_rc false
    (with_registers (pick (has_registers c.kind) power_on_registers c.registers)
    (with_switch (pick (has_switch c.kind) (switch_power_on c.switch) c.switch) c)))

-- "scratchpad all FFh (here)"
unfoldable pub power_on_pad : ℕ → List ℕ → List ℕ
power_on_pad kind s = pick (has_scratchpad kind) (replicate (length s) 0xFF) s

unfoldable pub power_on_of : Whole → Whole
power_on_of w = whole (power_on_chip w.chip) w.memory (power_on_pad w.chip.kind w.pad)

-- new outside levels of a chip, of a kind that takes them
unfoldable pub outside_chip : ℕ → Chip → Chip
outside_chip l c = with_switch (pick (takes_outside c.kind) (switch_outside l c.switch) c.switch) c

unfoldable pub outside_of : ℕ → Whole → Whole
outside_of l w = whole (outside_chip l w.chip) w.memory w.pad

-- "Set-up: .. chips as after power on", every field written
unfoldable pub set_up_chip : ℕ → ℕ → Chip
set_up_chip code kind = new_chip code kind power_on_registers switch_set_up
