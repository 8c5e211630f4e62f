-- The theorems are about something: a line on which 12h and 34h are written from 001Eh on and read back, and the end of a memory is read.
-- Each byte that is sent is there as a number.
use Rattle.std.specs.Prelude.{ℕ, ◌+◌, ◌<◌, true, List, [], ◌∷◌, ◌++◌, ◌≡◌, refl, replicate}
use Rattle.std.proofs.Common.{arith, ◌∙◌, ap, sym, subst, length-append}
use Rattle.std.proofs.lemmas.List.{length-replicate}
use Rattle.base.specs.Pick.{pick}
use Rattle.base.specs.Bits.{bit_of, same, both}
use Rattle.crc.specs.Crc.{crc_bit, crc_byte, crc_of}
use Rattle.scratchpad.specs.Registers.{rule_of_byte}
use Rattle.scratchpad.specs.Map.{rule_by}
use Rattle.ds28ec20.specs.Map.{is_data, control_address, held, only_falls, ds28ec20}
use Rattle.memory.specs.Memory.{rule_at}
use Rattle.chip.specs.Kinds.{image_size, pad_size}
use Rattle.chip.specs.Chip.{Whole, whole, set_up_chip, reset_chip, reset_of}
use Rattle.histories.specs.Below.{all-below}
use Rattle.histories.specs.Histories.{at, run, answers}
use Rattle.line.specs.Keeps.{Good}
use Rattle.histories.specs.Sent.{bits_from, bits_of}
use Rattle.recovery.specs.Sessions.{write_bits, write, WithinPage}
use Rattle.recovery.proofs.Installed.{Installed, installed_run}
use Rattle.recovery.proofs.Case.{fresh_range}
use Rattle.commands.specs.Streams.{then_ones}
use Rattle.commands.specs.ReadSession.{reading, reading_answers}
use Rattle.commands.specs.ReadScratchpad.{scratchpad_bits}
use Rattle.commands.proofs.ReadScratchpad.{scratchpad_answers}
use Rattle.commands.specs.ReadMemory.{read_memory, memory_answers}
use Rattle.commands.specs.WriteScratchpad.{written_from, part_written, write_answers}

-- a DS28EC20 of code 5 and a DS2413 of code 6, as set up; the memory ends in A5h and 5Ah
abbrev line : List Whole
line = whole (set_up_chip 5 1) (replicate 2622 0x00 ++ (0xA5 ∷ 0x5A ∷ [])) (replicate 32 0xFF) ∷ whole (set_up_chip 6 2) [] [] ∷ []

-- its memory and its scratchpad have their sizes
fresh : Good (at 0 line)
unfolding set_up_chip image_size pad_size pick
fresh =
    record {
      range = fresh_range;
      memory = length-append {A = ℕ} (replicate 2622 0x00) (0xA5 ∷ 0x5A ∷ []) ∙ ap (λ (n : ℕ). n + 2) (length-replicate {A = ℕ} 2622 0x00);
      pad = length-replicate {A = ℕ} 32 0xFF;
    }

-- the codes differ
line_installed : Installed 0 line
unfolding set_up_chip both pick
line_installed = record { attached = omega arith; differ = (((λ e. omega arith), tt), (tt, tt)); codes = all-below _ _ refl; kind = refl; good = fresh }

-- 12h and 34h for 001Eh
two : WithinPage 0x001E (0x12 ∷ 0x34 ∷ [])
unfolding both pick
two = record { address = omega arith; some = omega arith; fits = omega arith; small = all-below _ _ refl }

-- the CRC-16 of 0Fh, 1Eh, 00h, 12h, 34h is 5E5Fh: A0h and A1h are read, then ones
pub write_read : answers (reading 5 (write_bits 0x001E (0x12 ∷ 0x34 ∷ [])) 18) line
    ≡ reading_answers 5 (write_bits 0x001E (0x12 ∷ 0x34 ∷ [])) (bits_of (0xA0 ∷ 0xA1 ∷ []) ++ (true ∷ true ∷ []))
unfolding set_up_chip crc_of crc_byte crc_bit bit_of same pick
write_read = write_answers 0 line line_installed 0x001E (0x12 ∷ 0x34 ∷ []) two refl 18

-- the line after the write
abbrev later : List Whole
later = run (write 5 0x001E (0x12 ∷ 0x34 ∷ [])) line

-- chip 0 on it
later_chip : at 0 later ≡ written_from 0x001E (0x12 ∷ 0x34 ∷ []) (at 0 line)
unfolding set_up_chip
later_chip = part_written 0 line line_installed 0x001E (0x12 ∷ 0x34 ∷ []) two

-- TA1 1Eh, TA2 00h, E/S 1Fh, 12h, 34h; the CRC-16 of AAh and these is B98Ch: 73h and 46h are read, then ones
pub pad_read : answers (reading 5 (bits_from 8 0 0xAA) 58) later
    ≡ reading_answers 5 (bits_from 8 0 0xAA) (bits_of (0x1E ∷ 0x00 ∷ 0x1F ∷ 0x12 ∷ 0x34 ∷ 0x73 ∷ 0x46 ∷ []) ++ (true ∷ true ∷ []))
unfolding set_up_chip written_from reset_of reset_chip rule_at rule_by rule_of_byte ds28ec20 held only_falls is_data control_address crc_of crc_byte crc_bit bit_of same pick
pad_read =
    let small = subst (λ (w : Whole). w.chip.registers.t < 0x10000) (sym later_chip) (omega arith) in
    subst (λ (w : Whole). answers (reading w.chip.code (bits_from 8 0 0xAA) 58) later
    ≡ reading_answers w.chip.code (bits_from 8 0 0xAA) (then_ones 58 (scratchpad_bits (reset_of w).chip.registers w.pad))) later_chip
    (scratchpad_answers 0 later (installed_run 0 (write 5 0x001E (0x12 ∷ 0x34 ∷ [])) line line_installed) small 58)

-- from 0A3Eh on A5h and 5Ah are read, then ones
pub memory_read : answers (reading 5 (read_memory 0x0A3E) 18) line ≡ reading_answers 5 (read_memory 0x0A3E) (bits_of (0xA5 ∷ 0x5A ∷ []) ++ (true ∷ true ∷ []))
unfolding set_up_chip bit_of
memory_read = memory_answers 0 line line_installed 0x0A3E (omega arith) 18
