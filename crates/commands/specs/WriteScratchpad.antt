-- Write Scratchpad from any offset. Document 01: "When all 16 address bits are in, T is set, E = T mod 32, PF = AA = 0. .. Each whole byte
-- passes the rule of a byte into the scratchpad and sets E to its offset. .. After offset 31 the chip sends the CRC-16 of command, address
-- and data as it took them, before the rule of a byte, then ones."
use Rattle.std.specs.Prelude.{ℕ, ◌+◌, ◌-◌, ◌/◌, ◌%◌, List, ◌∷◌, ◌++◌, ◌≡◌, take}
use Rattle.std.proofs.Math.Bool.{true}
use Rattle.std.proofs.Math.Path.{refl, ap}
use Rattle.std.proofs.Common.{◌∙◌, sym}
use Rattle.std.proofs.Math.ListN.{length}
use Rattle.crc.specs.Crc.{poly16, crc_of}
use Rattle.scratchpad.specs.Registers.{registers}
use Rattle.scratchpad.specs.declared.Registers.{Registers}
use Rattle.scratchpad.specs.declared.MemoryPhase.TheVariants.{SendCrc}
use Rattle.chip.specs.With.{with_rc, with_level, with_registers}
use Rattle.chip.specs.Chip.{Whole, whole, level_reset}
use Rattle.chip.specs.declared.Level.TheVariants.{Memory}
use Rattle.histories.specs.Histories.{at, run, answers}
use Rattle.recovery.specs.Sessions.{write_bits, write, WithinPage}
use Rattle.recovery.proofs.Among.{among_at}
use Rattle.recovery.specs.Goes.{Goes, of_kind}
use Rattle.recovery.specs.Written.{ruled, data_from, overlaid, wrote, goes_write, goes_filled}
use Rattle.recovery.proofs.Installed.{Installed}
use Rattle.recovery.proofs.Matched.{session_among}
use Rattle.recovery.proofs.Rewritten.{pad-size}
use Rattle.commands.specs.Streams.{then_ones, but_level, Streams}
use Rattle.commands.specs.Sending.{inverted, in_phase, streams_crc}
use Rattle.commands.specs.ReadSession.{reading, reading_answers, after_match, match_goes, session_reads, session_stays}

-- "the CRC-16 of command, address and data as it took them"
abbrev pub write_crc : ℕ → List ℕ → ℕ
write_crc t bytes = crc_of poly16 0 (0x0F ∷ t % 256 ∷ t / 256 ∷ bytes)

-- a chip after bytes written from t on: T is t, E the offset of the last byte, PF = AA = 0, RC is 1; in the scratchpad, from T mod 32 on,
-- each byte through the rule of a byte, and the others as they were; the next byte is to come, or after offset 31 the CRC-16
unfoldable pub written_from : ℕ → List ℕ → Whole → Whole
written_from t bytes w =
    whole
    (with_level (Memory (data_from (t % 32 + length bytes) (write_crc t bytes))) (with_rc true (with_registers (registers t (t % 32 + (length bytes - 1))) w.chip)))
    w.memory
    (overlaid (t % 32) (ruled w.memory t bytes) w.pad)

-- a chip after bytes written from t on up to offset 31, but for its level
abbrev pub filled_from : ℕ → List ℕ → Whole → Whole
filled_from t bytes w = whole (with_rc true (with_registers (registers t 0x1F) w.chip)) w.memory (take (t % 32) w.pad ++ ruled w.memory t bytes)

module _ (i : ℕ) (L : List Whole) (s : Installed i L) (t : ℕ) (bytes : List ℕ) (g : WithinPage t bytes) where
  -- chip i, its code, and its registers after the reset
  abbrev own : Whole
  own = at i L

  abbrev code : ℕ
  code = own.chip.code

  abbrev first : Registers
  first = level_reset own.chip own.chip.level

  -- its scratchpad has 32 bytes
  full : length own.pad ≡ 32
  full = s.good.pad ∙ pad-size own s.kind

  -- THEOREM: after a reset, a match of its code, 0Fh, an address and as many bytes as its page has from there on, or fewer, from any state
  -- of the line
  pub part_written : at i (run (write code t bytes) L) ≡ written_from t bytes own
  unfolding written_from
  part_written =
      among_at (session_among i L s code refl (write_bits t bytes) (wrote own.chip own.memory t bytes own.pad)
      (match_goes i L s (write_bits t bytes) _ (goes_write own.chip own.memory t bytes first own.pad g full)))
      ∙ ap (λ (k : ℕ). of_kind own.chip own.memory k (Memory (data_from (t % 32 + length bytes) (write_crc t bytes))) true
      (registers t (t % 32 + (length bytes - 1))) (overlaid (t % 32) (ruled own.memory t bytes) own.pad)) (sym s.kind)

  module _ (f : t % 32 + length bytes ≡ 32) where
    -- the chip when the last byte is in
    abbrev begun : Whole
    begun = in_phase own.chip own.memory true (registers t 0x1F) (take (t % 32) own.pad ++ ruled own.memory t bytes) (SendCrc 0 (write_crc t bytes))

    -- the command, the address and the bytes bring it there, and it is silent over them
    taken : Goes (write_bits t bytes) (after_match own) begun
    taken = goes_filled own.chip own.memory t bytes first own.pad g f full

    -- what it sends from there on
    streams : Streams (inverted (write_crc t bytes)) begun
    streams = streams_crc own.chip own.memory true (registers t 0x1F) (take (t % 32) own.pad ++ ruled own.memory t bytes) (write_crc t bytes)

    -- THEOREM: with bytes up to offset 31, n read slots after them are answered by the CRC-16, then ones
    pub write_answers : (n : ℕ) → answers (reading code (write_bits t bytes) n) L ≡ reading_answers code (write_bits t bytes) (then_ones n (inverted (write_crc t bytes)))
    write_answers n = session_reads i L s (write_bits t bytes) begun (inverted (write_crc t bytes)) taken streams n

    -- THEOREM: and the chip, but for its level, is then so
    pub write_leaves : (n : ℕ) → but_level (at i (run (reading code (write_bits t bytes) n) L)) ≡ but_level (filled_from t bytes own)
    write_leaves n =
        session_stays i L s (write_bits t bytes) begun (inverted (write_crc t bytes)) taken streams n
        ∙ ap (λ (k : ℕ). but_level (of_kind own.chip own.memory k (Memory (SendCrc 0 (write_crc t bytes))) true (registers t 0x1F)
        (take (t % 32) own.pad ++ ruled own.memory t bytes))) (sym s.kind)
