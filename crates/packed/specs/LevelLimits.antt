-- Law: a level in its range, packed, is a step that a chip of the kind can be in with such fields.
use Rattle.std.specs.Prelude.{ℕ, suc, ◌≤◌, true, ◌≡◌, ltb, leb}
use Rattle.std.proofs.Common.{arith, ltb-true, leb-true}
use Rattle.base.specs.Pick.{pick}
use Rattle.base.specs.Bits.{both}
use Rattle.base.specs.Both.{both_holds}
use Rattle.memory.specs.Part.{map_of}
use Rattle.scratchpad.specs.Scratchpad.{memory_in_range}
use Rattle.ds2413.specs.Switch.{phase_in_range}
use Rattle.rom.specs.declared.RomStep.{RomStep}
use Rattle.rom.specs.declared.RomStep.TheVariants as rom
use Rattle.scratchpad.specs.declared.MemoryPhase.{MemoryPhase}
use Rattle.scratchpad.specs.declared.MemoryPhase.TheVariants as memory
use Rattle.ds2413.specs.declared.SwitchPhase.{SwitchPhase}
use Rattle.ds2413.specs.declared.SwitchPhase.TheVariants as pio
use Rattle.chip.specs.Kinds.{part_of, has_memory, has_switch}
use Rattle.chip.specs.Range.{level_in_range}
use Rattle.chip.specs.declared.Level.{Level}
use Rattle.chip.specs.declared.Level.TheVariants.{Waiting, Rom, FunctionCommand, Memory, Pio}
use Rattle.packed.specs.declared.Step.{Step}
use Rattle.packed.specs.Step.{step, flag, rom_packed, memory_packed, switch_packed, level_packed}
use Rattle.packed.specs.Limits.{up_to, any_limits, memory_limits, switch_limits, limits_of, can_be, step_stands}
use Rattle.packed.specs.LimitsLaw.{holds_both, flag_small, fits}

-- a number below a bound
at_most : (x k : ℕ) → ltb x (suc k) ≡ true → x ≤ k
at_most x k e = let h = ltb-true x (suc k) e in omega arith

-- the fields that may be anything are numbers of their bytes
pub record Bytes (s : Step) : Type 0 where
  pub w_small : s.w ≤ 65535
  pub b_small : s.b ≤ 255
  pub c_small : s.c ≤ 255

module _ (kind : ℕ) where
  rom_fits : (s : RomStep) → level_in_range kind (Rom s) ≡ true → Bytes (rom_packed s) → step_stands kind (rom_packed s) ≡ true
  unfolding step_stands can_be limits_of any_limits pick both
  rom_fits (rom.Command count bits) e g = fits (step 1 0 count bits 0) (up_to 0 7 255 0) (omega arith) (at_most count 7 e) g.b_small (omega arith)
  rom_fits (rom.Read place) e g = fits (step 2 0 place 0 0) (up_to 0 63 0 0) (omega arith) (at_most place 63 e) (omega arith) (omega arith)
  rom_fits (rom.Match place) e g = fits (step 3 0 place 0 0) (up_to 0 63 0 0) (omega arith) (at_most place 63 e) (omega arith) (omega arith)
  rom_fits (rom.Search place part) e g =
      let h = both_holds (ltb place 64) (ltb part 3) e in
      fits (step 4 0 place part 0) (up_to 0 63 2 0) (omega arith) (at_most place 63 h.0) (at_most part 2 h.1) (omega arith)

  memory_fits : (p : MemoryPhase) → has_memory kind ≡ true → memory_in_range (map_of (part_of kind)).last p ≡ true → Bytes (memory_packed p) → step_stands kind (memory_packed p) ≡ true
  unfolding step_stands can_be limits_of memory_limits pick both
  memory_fits memory.Ones o e g = holds_both (has_memory kind) _ o (fits (step 16 0 0 0 0) (up_to 0 0 0 0) (omega arith) (omega arith) (omega arith) (omega arith))
  memory_fits (memory.WriteAddress count bits) o e g = holds_both (has_memory kind) _ o (fits (step 17 bits count 0 0) (up_to 65535 15 0 0) g.w_small (at_most count 15 e) (omega arith) (omega arith))
  memory_fits (memory.WriteData offset count bits crc) o e g =
      let h = both_holds (ltb offset 32) (ltb count 8) e in
      holds_both (has_memory kind) _ o (fits (step 18 crc offset count bits) (up_to 65535 31 7 255) g.w_small (at_most offset 31 h.0) (at_most count 7 h.1) g.c_small)
  memory_fits (memory.SendCrc place crc) o e g = holds_both (has_memory kind) _ o (fits (step 19 crc place 0 0) (up_to 65535 15 0 0) g.w_small (at_most place 15 e) (omega arith) (omega arith))
  memory_fits (memory.ReadRegisters place) o e g = holds_both (has_memory kind) _ o (fits (step 20 0 place 0 0) (up_to 0 23 0 0) (omega arith) (at_most place 23 e) (omega arith) (omega arith))
  memory_fits (memory.ReadPad offset count crc) o e g =
      let h = both_holds (ltb offset 32) (ltb count 8) e in
      holds_both (has_memory kind) _ o (fits (step 21 crc offset count 0) (up_to 65535 31 7 0) g.w_small (at_most offset 31 h.0) (at_most count 7 h.1) (omega arith))
  memory_fits (memory.CopyAddress count bits) o e g = holds_both (has_memory kind) _ o (fits (step 22 bits count 0 0) (up_to 65535 15 0 0) g.w_small (at_most count 15 e) (omega arith) (omega arith))
  memory_fits (memory.CopyEnd address count bits) o e g = holds_both (has_memory kind) _ o (fits (step 23 address count bits 0) (up_to 65535 7 255 0) g.w_small (at_most count 7 e) g.b_small (omega arith))
  memory_fits (memory.Copied answer) o e g = holds_both (has_memory kind) _ o (fits (step 24 0 (flag answer) 0 0) (up_to 0 1 0 0) (omega arith) (flag_small answer) (omega arith) (omega arith))
  memory_fits (memory.ReadAddress count bits) o e g = holds_both (has_memory kind) _ o (fits (step 25 bits count 0 0) (up_to 65535 15 0 0) g.w_small (at_most count 15 e) (omega arith) (omega arith))
  memory_fits (memory.ReadMemory address count) o e g =
      let last = (map_of (part_of kind)).last in
      let h = both_holds (leb address last) (ltb count 8) e in
      holds_both (has_memory kind) _ o (fits (step 26 address count 0 0) (up_to last 7 0 0) (leb-true address last h.0) (at_most count 7 h.1) (omega arith) (omega arith))

  switch_fits : (p : SwitchPhase) → has_switch kind ≡ true → phase_in_range p ≡ true → Bytes (switch_packed p) → step_stands kind (switch_packed p) ≡ true
  unfolding step_stands can_be limits_of switch_limits pick both
  switch_fits pio.Ones o e g = holds_both (has_switch kind) _ o (fits (step 32 0 0 0 0) (up_to 0 0 0 0) (omega arith) (omega arith) (omega arith) (omega arith))
  switch_fits (pio.Status count sample) o e g = holds_both (has_switch kind) _ o (fits (step 33 0 count sample 0) (up_to 0 7 255 0) (omega arith) (at_most count 7 e) g.b_small (omega arith))
  switch_fits (pio.Take count bits) o e g = holds_both (has_switch kind) _ o (fits (step 34 bits count 0 0) (up_to 65535 15 0 0) g.w_small (at_most count 15 e) (omega arith) (omega arith))
  switch_fits (pio.Confirm count) o e g = holds_both (has_switch kind) _ o (fits (step 35 0 count 0 0) (up_to 0 7 0 0) (omega arith) (at_most count 7 e) (omega arith) (omega arith))
  switch_fits (pio.Show count sample) o e g = holds_both (has_switch kind) _ o (fits (step 36 0 count sample 0) (up_to 0 7 255 0) (omega arith) (at_most count 7 e) g.b_small (omega arith))

  pub level_fits : (l : Level) → level_in_range kind l ≡ true → Bytes (level_packed l) → step_stands kind (level_packed l) ≡ true
  unfolding step_stands can_be limits_of any_limits pick both
  level_fits Waiting e g = fits (step 0 0 0 0 0) (up_to 0 0 0 0) (omega arith) (omega arith) (omega arith) (omega arith)
  level_fits (Rom s) e g = rom_fits s e g
  level_fits (FunctionCommand count bits) e g = fits (step 5 0 count bits 0) (up_to 0 7 255 0) (omega arith) (at_most count 7 e) g.b_small (omega arith)
  level_fits (Memory p) e g = let h = both_holds (has_memory kind) _ e in memory_fits p h.0 h.1 g
  level_fits (Pio p) e g = let h = both_holds (has_switch kind) _ e in switch_fits p h.0 h.1 g
