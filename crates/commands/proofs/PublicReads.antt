-- What Read Scratchpad and Read Memory send, and the CRC-16 of Write Scratchpad: of the public event, over a table and its buffers. The
-- session is a reset, a match of the chip's code, the command, and n read slots.
use Rattle.std.specs.Prelude.{ℕ, ◌+◌, ◌%◌, ◌<◌, Bool, List, [], ◌≡◌, length}
use Rattle.std.proofs.Common.{◌∙◌, ap}
use Rattle.ds28ec20.specs.Map.{last_address}
use Rattle.chip.specs.Chip.{Whole, reset_of}
use Rattle.line.specs.Event.{Answered}
use Rattle.line.specs.Attached.{Attached, line_from}
use Rattle.histories.specs.Histories.{at, run, answers}
use Rattle.histories.specs.Joined.{run_on, answers_on, run_joined, answers_joined}
use Rattle.histories.specs.Sent.{bits_from}
use Rattle.recovery.specs.Sessions.{write_bits, write, WithinPage}
use Rattle.recovery.proofs.Public.{chip_of, TableInstalled, line_installed}
use Rattle.commands.specs.ShortAddress.{matched}
use Rattle.commands.specs.Streams.{then_ones, but_level}
use Rattle.commands.specs.Sending.{inverted}
use Rattle.commands.specs.ReadSession.{reading, reading_answers}
use Rattle.commands.specs.ReadScratchpad.{scratchpad_bits}
use Rattle.commands.proofs.ReadScratchpad.{scratchpad_answers, scratchpad_stays}
use Rattle.commands.specs.ReadMemory.{read_memory, memory_bits, memory_answers, memory_past, memory_stays}
use Rattle.commands.specs.WriteScratchpad.{write_crc, written_from, filled_from, part_written, write_answers, write_leaves}

module _ (i : ℕ) (l : Attached) (s : TableInstalled i l) where
  -- chip i, and its code
  abbrev own : Whole
  own = chip_of i l

  abbrev code : ℕ
  code = own.chip.code

  -- what a session that reads answers, and what it leaves of chip i
  answered : (bits : List Bool) (n : ℕ) (given : List Answered) → answers (reading code bits n) (line_from l) ≡ given → answers_on (reading code bits n) l ≡ given
  answered bits n given e = answers_joined (reading code bits n) l s.stands ∙ e

  leaves : (bits : List Bool) (n : ℕ) (u : Whole) → but_level (at i (run (reading code bits n) (line_from l))) ≡ u → but_level (chip_of i (run_on (reading code bits n) l)) ≡ u
  leaves bits n u e = ap (λ (L : List Whole). but_level (at i L)) (run_joined (reading code bits n) l s.stands) ∙ e

  -- THEOREM: "AAh Read Scratchpad: TA1, TA2, E/S, the scratchpad from T mod 32 to 31, the CRC-16 of the command and all that, then ones.",
  -- of a T of 16 bits; T and E/S as the reset left them
  pub read_scratchpad_on : own.chip.registers.t < 0x10000 → (n : ℕ)
      → answers_on (reading code (bits_from 8 0 0xAA) n) l ≡ reading_answers code (bits_from 8 0 0xAA) (then_ones n (scratchpad_bits (reset_of own).chip.registers own.pad))
  read_scratchpad_on h n = answered (bits_from 8 0 0xAA) n _ (scratchpad_answers i (line_from l) (line_installed i l s) h n)

  -- THEOREM: and the chip, but for its level, is as the reset left it, and RC is 1
  pub read_scratchpad_stays_on : own.chip.registers.t < 0x10000 → (n : ℕ)
      → but_level (chip_of i (run_on (reading code (bits_from 8 0 0xAA) n) l)) ≡ but_level (matched (reset_of own))
  read_scratchpad_stays_on h n = leaves (bits_from 8 0 0xAA) n _ (scratchpad_stays i (line_from l) (line_installed i l s) h n)

  -- THEOREM: "F0h Read Memory: TA1, TA2, bytes up to the last address, then ones."
  pub read_memory_on : (t : ℕ) → t < 0x10000 → (n : ℕ)
      → answers_on (reading code (read_memory t) n) l ≡ reading_answers code (read_memory t) (then_ones n (memory_bits t own.memory))
  read_memory_on t h n = answered (read_memory t) n _ (memory_answers i (line_from l) (line_installed i l s) t h n)

  -- THEOREM: from an address above the last, ones alone
  pub read_past_on : (t : ℕ) → t < 0x10000 → last_address < t → (n : ℕ) → answers_on (reading code (read_memory t) n) l ≡ reading_answers code (read_memory t) (then_ones n [])
  read_past_on t h k n = answered (read_memory t) n _ (memory_past i (line_from l) (line_installed i l s) t h k n)

  -- THEOREM: "T, E/S and scratchpad stay.", and so does all but the level and RC, as the reset left it
  pub read_memory_stays_on : (t : ℕ) → t < 0x10000 → (n : ℕ) → but_level (chip_of i (run_on (reading code (read_memory t) n) l)) ≡ but_level (matched (reset_of own))
  read_memory_stays_on t h n = leaves (read_memory t) n _ (memory_stays i (line_from l) (line_installed i l s) t h n)

  -- THEOREM: "After offset 31 the chip sends the CRC-16 of command, address and data as it took them, before the rule of a byte, then ones."
  pub write_scratchpad_on : (t : ℕ) (bytes : List ℕ) → WithinPage t bytes → t % 32 + length bytes ≡ 32 → (n : ℕ)
      → answers_on (reading code (write_bits t bytes) n) l ≡ reading_answers code (write_bits t bytes) (then_ones n (inverted (write_crc t bytes)))
  write_scratchpad_on t bytes g f n = answered (write_bits t bytes) n _ (write_answers i (line_from l) (line_installed i l s) t bytes g f n)

  -- THEOREM: and what it leaves: T, E/S 1Fh, the scratchpad below T mod 32 as it was, and from there on each byte through the rule of a byte
  pub write_scratchpad_leaves_on : (t : ℕ) (bytes : List ℕ) → WithinPage t bytes → t % 32 + length bytes ≡ 32 → (n : ℕ)
      → but_level (chip_of i (run_on (reading code (write_bits t bytes) n) l)) ≡ but_level (filled_from t bytes own)
  write_scratchpad_leaves_on t bytes g f n = leaves (write_bits t bytes) n _ (write_leaves i (line_from l) (line_installed i l s) t bytes g f n)

  -- THEOREM: a write that stops where it will: the chip's whole state
  pub part_written_on : (t : ℕ) (bytes : List ℕ) → WithinPage t bytes → chip_of i (run_on (write code t bytes) l) ≡ written_from t bytes own
  part_written_on t bytes g = ap (at i) (run_joined (write code t bytes) l s.stands) ∙ part_written i (line_from l) (line_installed i l s) t bytes g
