-- Law: what is sent by a chip's record in its place is what the chip sends.
use Rattle.std.specs.Prelude.{ℕ, ◌+◌, ◌*◌, ◌≤◌, List, ◌≡◌, leb, length}
use Rattle.std.proofs.Math.Bool.{not}
use Rattle.std.proofs.Math.Path.{refl, ap}
use Rattle.std.proofs.Common.{◌∙◌, sym, le-leb}
use Rattle.base.specs.Pick.{pick, pick_true}
use Rattle.base.specs.Bits.{bit_of}
use Rattle.base.specs.Parts.{part_byte}
use Rattle.rom.specs.Rom.{search_sends}
use Rattle.rom.specs.declared.RomStep.{RomStep}
use Rattle.rom.specs.declared.RomStep.TheVariants as rom
use Rattle.scratchpad.specs.declared.MemoryPhase.{MemoryPhase}
use Rattle.scratchpad.specs.declared.MemoryPhase.TheVariants as memory
use Rattle.ds2413.specs.declared.SwitchPhase.{SwitchPhase}
use Rattle.ds2413.specs.declared.SwitchPhase.TheVariants as pio
use Rattle.chip.specs.Chip.{level_sends, sends_of, memory_look, memory_sight}
use Rattle.chip.specs.Kinds.{image_size, pad_size}
use Rattle.chip.specs.declared.Chip.{Chip}
use Rattle.chip.specs.declared.Level.{Level}
use Rattle.chip.specs.declared.Level.TheVariants.{Waiting, Rom, FunctionCommand, Memory, Pio}
use Rattle.line.specs.Bridge.{whole_at, bit_at}
use Rattle.packed.specs.Step.{flag_back, level_packed}
use Rattle.packed.specs.Packed.{packed_with, packed}
use Rattle.packed.specs.Laws.{number_back}
use Rattle.packed.specs.Parts.{byte_of_part}
use Rattle.packed.specs.Sends.{code_bit, search_bit, crc_bit, register_bit, pad_bit, copied_bit, memory_bit, sample_bit, confirm_bit, sends_at, sends_in}

-- where the chip's parts lie in the buffers
module _ (image pad : ℕ) (c : Chip) (ms ss : List ℕ) (h : image + image_size c.kind ≤ length ms) (k : pad + pad_size c.kind ≤ length ss) where
  -- the chip's record, with any level, sends what the level does
  abbrev Sent : Level → Type 0
  Sent l = sends_in image pad (packed_with c (level_packed l)) ms ss ≡ level_sends (whole_at c image pad ms ss) l

  rom_sent : (s : RomStep) → Sent (Rom s)
  unfolding sends_in sends_at code_bit search_bit pick
  rom_sent (rom.Command count bits) = refl
  rom_sent (rom.Read place) = ap (λ (x : ℕ). bit_of x place) (number_back 7 c.code)
  rom_sent (rom.Match place) = refl
  rom_sent (rom.Search place part) = ap (λ (x : ℕ). search_sends x place part) (number_back 7 c.code)

  memory-sent : (p : MemoryPhase) → Sent (Memory p)
  unfolding sends_in sends_at crc_bit register_bit pad_bit copied_bit memory_bit memory_look memory_sight pick
  memory-sent memory.Ones = refl
  memory-sent (memory.WriteAddress count bits) = refl
  memory-sent (memory.WriteData offset count bits crc) = refl
  memory-sent (memory.SendCrc place crc) = ap (λ (x : ℕ). not (bit_of x place)) (number_back 1 crc)
  memory-sent (memory.ReadRegisters place) = ap (λ (x : ℕ). bit_of (x + 65536 * c.registers.es) place) (number_back 1 c.registers.t)
  memory-sent (memory.ReadPad offset count crc) = ap (λ (x : ℕ). bit_of x count) (byte_of_part ss pad (pad_size c.kind) offset k)
  memory-sent (memory.CopyAddress count bits) = refl
  memory-sent (memory.CopyEnd address count bits) = refl
  memory-sent (memory.Copied answer) = flag_back answer
  memory-sent (memory.ReadAddress count bits) = refl
  memory-sent (memory.ReadMemory address count) =
      ap (λ (x : ℕ). bit_of (part_byte ms image (image_size c.kind) x) count) (number_back 1 address)
      ∙ ap (λ (x : ℕ). bit_of x count) (byte_of_part ms image (image_size c.kind) address h)

  switch_sent : (p : SwitchPhase) → Sent (Pio p)
  unfolding sends_in sends_at sample_bit confirm_bit pick
  switch_sent pio.Ones = refl
  switch_sent (pio.Status count sample) = refl
  switch_sent (pio.Take count bits) = refl
  switch_sent (pio.Confirm count) = refl
  switch_sent (pio.Show count sample) = refl

  level_sent : (l : Level) → Sent l
  unfolding sends_in sends_at pick
  level_sent Waiting = refl
  level_sent (Rom s) = rom_sent s
  level_sent (FunctionCommand count bits) = refl
  level_sent (Memory p) = memory-sent p
  level_sent (Pio p) = switch_sent p

pub sends_packed : (image pad : ℕ) (c : Chip) (ms ss : List ℕ) → image + image_size c.kind ≤ length ms → pad + pad_size c.kind ≤ length ss
    → sends_in image pad (packed c) ms ss ≡ bit_at c image pad ms ss
unfolding packed bit_at sends_of
sends_packed image pad c ms ss h k =
    level_sent image pad c ms ss h k c.level
    ∙ sym (pick_true (leb (pad + pad_size c.kind) (length ss)) _ _ (le-leb (pad + pad_size c.kind) (length ss) k))
    ∙ sym (pick_true (leb (image + image_size c.kind) (length ms)) _ _ (le-leb (image + image_size c.kind) (length ms) h))
