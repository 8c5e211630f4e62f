-- Laws: what Read Scratchpad sends, in full.
use Rattle.std.specs.Prelude.{ℕ, ◌+◌, ◌*◌, ◌%◌, ◌<◌, Bool, List, ◌++◌, ◌≡◌, leb, length, get_or, drop}
use Rattle.std.proofs.Common.{arith, add-one, ◌∙◌, sym, subst, lt-ltb}
use Rattle.std.proofs.Math.Bool.{true}
use Rattle.std.proofs.Math.Path.{refl, ap}
use Rattle.base.specs.Pick.{pick}
use Rattle.base.specs.Bits.{bit_of}
use Rattle.crc.specs.Crc.{poly16, crc_byte, crc_of}
use Rattle.scratchpad.specs.Scratchpad.{memory_function, crc_of_address, pad_from, pad_begins, register_sent, pad_byte_sent, pad_sent}
use Rattle.scratchpad.specs.declared.Registers.{Registers}
use Rattle.scratchpad.specs.declared.MemoryPhase.TheVariants.{SendCrc, ReadRegisters, ReadPad}
use Rattle.ds28ec20.specs.Map.{ds28ec20, pad_end}
use Rattle.memory.specs.Part.{map_of}
use Rattle.chip.specs.Kinds.{part_of}
use Rattle.chip.specs.Chip.{Whole, memory_look, memory_sight, memory_slot, takes_of, sends_of, level_reset, reset_chip, reset_of}
use Rattle.chip.specs.declared.Chip.{Chip}
use Rattle.chip.specs.declared.Level.TheVariants.{Memory}
use Rattle.histories.specs.Histories.{at, run, answers}
use Rattle.line.specs.Keeps.{Good, level_either}
use Rattle.histories.specs.Sent.{bits_from, bits_of}
use Rattle.recovery.specs.Goes.{Goes, of_kind, goes_command}
use Rattle.recovery.proofs.Installed.{Installed}
use Rattle.recovery.proofs.Rewritten.{pad-size}
use Rattle.commands.specs.ShortAddress.{matched}
use Rattle.commands.specs.Streams.{then_ones, but_level, Streams, streams_from}
use Rattle.commands.specs.Sending.{inverted, in_phase, streams_places, streams_bytes, streams_crc}
use Rattle.commands.specs.RegisterBits.{register_bits}
use Rattle.commands.specs.ReadSession.{reading, reading_answers, after_match, after_match_is, session_reads, session_stays}
use Rattle.commands.specs.ReadScratchpad.{scratchpad_bytes, scratchpad_crc, scratchpad_bits}

module _ (c : Chip) (m : List ℕ) (rc : Bool) (r : Registers) (s : List ℕ) where
  -- the registers, bit by bit
  registers_send : (p : ℕ) → sends_of (in_phase c m rc r s (ReadRegisters p)) ≡ bit_of (r.t + 65536 * r.es) p
  unfolding sends_of
  registers_send p = refl

  registers_move : (v : Bool) (p : ℕ) → p < 23 → takes_of v (in_phase c m rc r s (ReadRegisters p)) ≡ in_phase c m rc r s (ReadRegisters (p + 1))
  unfolding takes_of memory_slot register_sent pick
  registers_move v p h = simp (lt-ltb p 23 h)

  -- the CRC-16 of the command and the registers
  abbrev crc_before : ℕ
  crc_before = crc_byte poly16 (crc_of_address 0xAA r.t) r.es

  registers_lead : (v : Bool) → takes_of v (in_phase c m rc r s (ReadRegisters 23)) ≡ in_phase c m rc r s (pad_from (r.t % 32) crc_before 31)
  unfolding takes_of memory_slot memory_sight memory_look part_of map_of ds28ec20 pad_end register_sent pad_begins pick
  registers_lead v = refl

  -- a byte of the scratchpad, bit by bit
  pad_sends : (o crc p : ℕ) → sends_of (in_phase c m rc r s (ReadPad o p crc)) ≡ bit_of (get_or s o 0) p
  unfolding sends_of memory_sight memory_look
  pad_sends o crc p = refl

  pad_moves : (o crc : ℕ) (v : Bool) (p : ℕ) → p < 7 → takes_of v (in_phase c m rc r s (ReadPad o p crc)) ≡ in_phase c m rc r s (ReadPad o (p + 1) crc)
  unfolding takes_of memory_slot pad_sent pick
  pad_moves o crc v p h = simp (lt-ltb p 7 h)

  pad_leads : (o crc : ℕ) (v : Bool) → takes_of v (in_phase c m rc r s (ReadPad o 7 crc)) ≡ in_phase c m rc r s (pad_from (o + 1) (crc_byte poly16 crc (get_or s o 0)) 31)
  unfolding takes_of memory_slot memory_sight memory_look part_of map_of ds28ec20 pad_end pad_sent pad_byte_sent pad_from pick
  pad_leads o crc v =
      let n = crc_byte poly16 crc (get_or s o 0) in
      ap (λ (j : ℕ). in_phase c m rc r s (pick (leb j 31) (ReadPad (o + 1) 0 n) (SendCrc 0 n))) (sym (add-one o))

  -- the scratchpad from an offset on, and the CRC-16
  streams_pad : (o crc : ℕ) → length s ≡ 32 → Streams (bits_of (drop o s) ++ inverted (crc_of poly16 crc (drop o s))) (in_phase c m rc r s (pad_from o crc 31))
  unfolding crc_of pad_from
  streams_pad o crc l =
      streams_bytes c m rc r s s 31 (λ o crc p. ReadPad o p crc) (SendCrc 0) (crc_byte poly16) (λ crc bs. inverted (crc_of poly16 crc bs)) l
      pad_sends pad_moves pad_leads (λ crc b bs. refl) (streams_crc c m rc r s) 32 o crc (omega arith)

  -- the CRC-16 that the chip has after the last byte
  crc_is : crc_of poly16 crc_before (drop (r.t % 32) s) ≡ scratchpad_crc r s
  unfolding crc_of crc_of_address
  crc_is = refl

  -- from the first bit of TA1 on
  streams_all : r.t < 0x10000 → length s ≡ 32 → Streams (scratchpad_bits r s) (in_phase c m rc r s (ReadRegisters 0))
  streams_all h l =
      let o = r.t % 32 in
      let rest = bits_of (drop o s) ++ inverted (crc_of poly16 crc_before (drop o s)) in
      subst (λ (crc : ℕ). Streams (bits_of (scratchpad_bytes r s) ++ inverted crc) (in_phase c m rc r s (ReadRegisters 0))) crc_is
      (subst (λ (x : List Bool). Streams (x ++ rest) (in_phase c m rc r s (ReadRegisters 0))) (register_bits r.t r.es h)
      (streams_places c m rc r s (λ b. b) (r.t + 65536 * r.es) 23 ReadRegisters (pad_from o crc_before 31) rest
      registers_send registers_move registers_lead (streams_pad o crc_before l) 23 0 refl))

-- THEOREM: a DS28EC20 that has taken AAh, whatever else its state and whatever the values of the slots; its T has 16 bits
pub scratchpad_read : (w : Whole) → Good w → w.chip.kind ≡ 1 → w.chip.registers.t < 0x10000 → w.chip.level ≡ Memory (ReadRegisters 0)
    → Streams (scratchpad_bits w.chip.registers w.pad) w
scratchpad_read w g e h l =
    let c = w.chip in
    streams_from _ _ _ (λ j. of_kind c w.memory (e j) (l j) c.rc c.registers w.pad)
    (streams_all c w.memory c.rc c.registers w.pad h (g.pad ∙ pad-size w e))

module _ (i : ℕ) (L : List Whole) (s : Installed i L) (h : (at i L).chip.registers.t < 0x10000) where
  -- chip i, and its code
  abbrev own : Whole
  own = at i L

  abbrev code : ℕ
  code = own.chip.code

  -- T and E/S after the reset
  abbrev first : Registers
  first = (reset_of own).chip.registers

  -- the chip when the command is in
  abbrev begun : Whole
  begun = in_phase own.chip own.memory true (level_reset own.chip own.chip.level) own.pad (ReadRegisters 0)

  -- the command brings it there, and it is silent over it
  taken : Goes (bits_from 8 0 0xAA) (after_match own) begun
  unfolding memory_function pick
  taken = goes_command own.chip own.memory 0xAA (level_reset own.chip own.chip.level) own.pad (omega arith)

  -- what it sends from there on
  streams : Streams (scratchpad_bits first own.pad) begun
  unfolding reset_of reset_chip
  streams =
      streams_all own.chip own.memory true first own.pad
      (level_either (λ (r : Registers). r.t < 0x10000) own.chip h h own.chip.level) (s.good.pad ∙ pad-size own s.kind)

  -- THEOREM: after a reset, a match of its code and AAh, n read slots are answered so; T and E/S are those that the reset left
  pub scratchpad_answers : (n : ℕ) → answers (reading code (bits_from 8 0 0xAA) n) L
      ≡ reading_answers code (bits_from 8 0 0xAA) (then_ones n (scratchpad_bits first own.pad))
  scratchpad_answers n = session_reads i L s (bits_from 8 0 0xAA) begun (scratchpad_bits first own.pad) taken streams n

  -- THEOREM: and the chip, but for its level, is as the reset left it, and RC is 1
  pub scratchpad_stays : (n : ℕ) → but_level (at i (run (reading code (bits_from 8 0 0xAA) n) L)) ≡ but_level (matched (reset_of own))
  scratchpad_stays n =
      session_stays i L s (bits_from 8 0 0xAA) begun (scratchpad_bits first own.pad) taken streams n ∙ after_match_is own s.kind
