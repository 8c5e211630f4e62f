-- Law: a chip whose record names step 0 waits for a reset.
use Rattle.std.specs.Prelude.{true, ◌≡◌, refl, eqb, get_or}
use Rattle.std.proofs.Common.{true≢false, sym}
use Rattle.rom.specs.declared.RomStep.{RomStep}
use Rattle.rom.specs.declared.RomStep.TheVariants as rom
use Rattle.scratchpad.specs.declared.MemoryPhase.{MemoryPhase}
use Rattle.scratchpad.specs.declared.MemoryPhase.TheVariants as memory
use Rattle.ds2413.specs.declared.SwitchPhase.{SwitchPhase}
use Rattle.ds2413.specs.declared.SwitchPhase.TheVariants as pio
use Rattle.chip.specs.declared.Chip.{Chip}
use Rattle.chip.specs.declared.Level.{Level}
use Rattle.chip.specs.declared.Level.TheVariants.{Waiting, Rom, FunctionCommand, Memory, Pio}
use Rattle.packed.specs.Step.{rom_packed, memory_packed, switch_packed, level_packed}
use Rattle.packed.specs.Packed.{packed}

rom_goes_on : (s : RomStep) → eqb (rom_packed s).number 0 ≡ true → ⊥
rom_goes_on (rom.Command count bits) e = true≢false (sym e)
rom_goes_on (rom.Read place) e = true≢false (sym e)
rom_goes_on (rom.Match place) e = true≢false (sym e)
rom_goes_on (rom.Search place part) e = true≢false (sym e)

memory_goes_on : (p : MemoryPhase) → eqb (memory_packed p).number 0 ≡ true → ⊥
memory_goes_on memory.Ones e = true≢false (sym e)
memory_goes_on (memory.WriteAddress count bits) e = true≢false (sym e)
memory_goes_on (memory.WriteData offset count bits crc) e = true≢false (sym e)
memory_goes_on (memory.SendCrc place crc) e = true≢false (sym e)
memory_goes_on (memory.ReadRegisters place) e = true≢false (sym e)
memory_goes_on (memory.ReadPad offset count crc) e = true≢false (sym e)
memory_goes_on (memory.CopyAddress count bits) e = true≢false (sym e)
memory_goes_on (memory.CopyEnd address count bits) e = true≢false (sym e)
memory_goes_on (memory.Copied answer) e = true≢false (sym e)
memory_goes_on (memory.ReadAddress count bits) e = true≢false (sym e)
memory_goes_on (memory.ReadMemory address count) e = true≢false (sym e)

switch_goes_on : (p : SwitchPhase) → eqb (switch_packed p).number 0 ≡ true → ⊥
switch_goes_on pio.Ones e = true≢false (sym e)
switch_goes_on (pio.Status count sample) e = true≢false (sym e)
switch_goes_on (pio.Take count bits) e = true≢false (sym e)
switch_goes_on (pio.Confirm count) e = true≢false (sym e)
switch_goes_on (pio.Show count sample) e = true≢false (sym e)

level_waits : (l : Level) → eqb (level_packed l).number 0 ≡ true → l ≡ Waiting
level_waits Waiting e = refl
level_waits (Rom s) e = absurd (rom_goes_on s e)
level_waits (FunctionCommand count bits) e = absurd (true≢false (sym e))
level_waits (Memory p) e = absurd (memory_goes_on p e)
level_waits (Pio p) e = absurd (switch_goes_on p e)

pub waits_packed : (c : Chip) → eqb (get_or (packed c) 15 0) 0 ≡ true → c.level ≡ Waiting
unfolding packed
waits_packed c e = level_waits c.level e
