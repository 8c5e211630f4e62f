-- Document 01, "DS28EC20": the commands 0Fh, AAh, 55h and F0h, slot by slot. What a slot does to the memory and the
-- scratchpad is answered as a deed, and what a slot sees of them is handed in as a sight.
use Rattle.std.specs.Prelude.{ℕ, ◌+◌, ◌*◌, ◌/◌, ◌%◌, Bool, true, false, not, [], ◌∷◌, eqb, ltb, leb}
use Rattle.base.specs.Pick.{pick}
use Rattle.base.specs.Bits.{bit_of, both, filled}
use Rattle.crc.specs.Crc.{poly16, crc_byte, crc_of}
use Rattle.scratchpad.specs.Registers.{registers, e_of, pf, with_e, pf_set, with_aa, target_of, rule_of_byte}
use Rattle.scratchpad.specs.declared.Registers.{Registers}
use Rattle.scratchpad.specs.declared.Sight.{Sight}
use Rattle.scratchpad.specs.declared.MemoryAfter.{MemoryAfter}
use Rattle.scratchpad.specs.declared.Deed.{Deed}
use Rattle.scratchpad.specs.declared.Deed.TheVariants.{Nothing, Put, Copy}
use Rattle.scratchpad.specs.declared.Hand.{Hand}
use Rattle.scratchpad.specs.declared.Hand.TheVariants as hand
use Rattle.scratchpad.specs.declared.MemoryPhase.{MemoryPhase}
use Rattle.scratchpad.specs.declared.MemoryPhase.TheVariants.{Ones, WriteAddress, WriteData, SendCrc, ReadRegisters, ReadPad, CopyAddress, CopyEnd, Copied, ReadAddress, ReadMemory}

-- where a slot leaves the part, and what it does to memory and scratchpad
abbrev pub memory_after : Registers → MemoryPhase → Deed → MemoryAfter
memory_after r p d = record { registers = r; phase = p; deed = d }

-- the function command b, once its eight bits are in; "Any other, the sheet's Extended Read Memory (A5h) too: ones until reset (here)."
unfoldable pub memory_function : ℕ → MemoryPhase
memory_function b =
    pick (eqb b 0x0F) (WriteAddress 0 0)
    (pick (eqb b 0xAA) (ReadRegisters 0)
    (pick (eqb b 0x55) (CopyAddress 0 0)
    (pick (eqb b 0xF0) (ReadAddress 0 0)
    Ones)))

-- where the function command b leaves the part at its eighth bit, and what it does there
unfoldable pub memory_begins : Registers → ℕ → MemoryAfter
memory_begins r b = memory_after r (memory_function b) Nothing

-- the CRC-16 of a command and the two bytes of an address, low byte first
unfoldable pub crc_of_address : ℕ → ℕ → ℕ
crc_of_address command address = crc_of poly16 0 (command ∷ address % 256 ∷ address / 256 ∷ [])

-- 0Fh: "When all 16 address bits are in, T is set, E = T mod 32, PF = AA = 0."; the CRC-16 is of the address as the chip took it
unfoldable pub address_in : ℕ → MemoryAfter
address_in bits =
    let t : ℕ = target_of bits in
    memory_after (registers t (t % 32)) (WriteData (t % 32) 0 0 (crc_of_address 0x0F bits)) Nothing

-- 0Fh, a bit of the address
unfoldable pub write_address : Registers → ℕ → ℕ → Bool → MemoryAfter
write_address r count bits v =
    pick (ltb count 15) (memory_after r (WriteAddress (count + 1) (filled 0x8000 bits v)) Nothing)
    (address_in (filled 0x8000 bits v))

-- 0Fh: "After offset 31 the chip sends the CRC-16"
unfoldable pub after_byte : ℕ → ℕ → MemoryPhase
after_byte offset crc = pick (ltb offset 31) (WriteData (offset + 1) 0 0 crc) (SendCrc 0 crc)

-- 0Fh: "Each whole byte passes the rule of a byte into the scratchpad and sets E to its offset"; the CRC-16 is
-- "of command, address and data as it took them, before the rule of a byte"
unfoldable pub byte_in : Registers → ℕ → ℕ → ℕ → Sight → MemoryAfter
byte_in r offset b crc see =
    memory_after (registers r.t (with_e r.es offset)) (after_byte offset (crc_byte poly16 crc b))
    (Put offset (rule_of_byte see.held see.falls see.memory b))

-- 0Fh, a bit of a data byte
unfoldable pub write_data : Registers → ℕ → ℕ → ℕ → ℕ → Bool → Sight → MemoryAfter
write_data r offset count bits crc v see =
    pick (ltb count 7) (memory_after r (WriteData offset (count + 1) (filled 0x80 bits v) crc) Nothing)
    (byte_in r offset (filled 0x80 bits v) crc see)

-- a bit of a CRC-16 was sent; "then ones"
unfoldable pub crc_sent : ℕ → ℕ → MemoryPhase
crc_sent place crc = pick (ltb place 15) (SendCrc (place + 1) crc) Ones

-- AAh: the scratchpad from an offset on comes next, as far as it is sent; then "the CRC-16 of the command and all that, then ones"
unfoldable pub pad_from : ℕ → ℕ → ℕ → MemoryPhase
pad_from offset crc end = pick (leb offset end) (ReadPad offset 0 crc) (SendCrc 0 crc)

-- AAh: the registers were sent, and "the scratchpad from T mod 32 to 31" comes next
unfoldable pub pad_begins : Registers → Sight → MemoryPhase
pad_begins r see = pad_from (r.t % 32) (crc_byte poly16 (crc_of_address 0xAA r.t) r.es) see.end

-- AAh, a bit of "TA1, TA2, E/S" was sent
unfoldable pub register_sent : Registers → ℕ → Sight → MemoryPhase
register_sent r place see = pick (ltb place 23) (ReadRegisters (place + 1)) (pad_begins r see)

-- AAh, a byte of the scratchpad was sent
unfoldable pub pad_byte_sent : ℕ → ℕ → ℕ → MemoryPhase
pad_byte_sent offset crc end = pick (ltb offset end) (ReadPad (offset + 1) 0 crc) (SendCrc 0 crc)

-- AAh, a bit of the scratchpad was sent
unfoldable pub pad_sent : ℕ → ℕ → ℕ → Sight → MemoryPhase
pad_sent offset count crc see =
    pick (ltb count 7) (ReadPad offset (count + 1) crc)
    (pad_byte_sent offset (crc_byte poly16 crc see.pad) see.end)

-- 55h, a bit of the first two bytes
unfoldable pub copy_address : ℕ → ℕ → Bool → MemoryPhase
copy_address count bits v =
    pick (ltb count 15) (CopyAddress (count + 1) (filled 0x8000 bits v))
    (CopyEnd (filled 0x8000 bits v) 0 0)

-- 55h, an address and an E/S as sent: "If they equal TA1, TA2, E/S, and PF = 0, and T's page isn't closed, the copy is carried out"
unfoldable pub carried_out : Registers → ℕ → ℕ → Sight → Bool
carried_out r address es see =
    both (both (eqb address r.t) (eqb es r.es)) (both (not (pf r.es)) (not see.closed))

-- 55h, the three bytes are in: carried out, a copy from T mod 32 to E, "AA = 1; the chip sends 0, 1, 0, 1 until reset. Otherwise ones,
-- and AA stays."
unfoldable pub three_bytes_in : Registers → ℕ → ℕ → Sight → MemoryAfter
three_bytes_in r address es see =
    pick (carried_out r address es see)
    (memory_after (registers r.t (with_aa r.es)) (Copied false) (Copy r.t (e_of r.es)))
    (memory_after r Ones Nothing)

-- 55h, a bit of the third byte
unfoldable pub copy_end : Registers → ℕ → ℕ → ℕ → Bool → Sight → MemoryAfter
copy_end r address count bits v see =
    pick (ltb count 7) (memory_after r (CopyEnd address (count + 1) (filled 0x80 bits v)) Nothing)
    (three_bytes_in r address (filled 0x80 bits v) see)

-- F0h: "bytes up to the last address, then ones"
unfoldable pub read_from : ℕ → ℕ → MemoryPhase
read_from address last = pick (leb address last) (ReadMemory address 0) Ones

-- F0h, a bit of the address
unfoldable pub read_address : ℕ → ℕ → Bool → Sight → MemoryPhase
read_address count bits v see =
    pick (ltb count 15) (ReadAddress (count + 1) (filled 0x8000 bits v))
    (read_from (filled 0x8000 bits v) see.last)

-- F0h, a bit of a byte was sent
unfoldable pub memory_sent : ℕ → ℕ → Sight → MemoryPhase
memory_sent address count see =
    pick (ltb count 7) (ReadMemory address (count + 1))
    (pick (ltb address see.last) (ReadMemory (address + 1) 0) Ones)

-- what a slot of the value v does at each phase; a sending chip moves on whatever the value. In F0h "T, E/S and scratchpad stay": the
-- registers are r, and nothing is done
abbrev pub memory_takes : Registers → Bool → Sight → MemoryPhase → MemoryAfter
memory_takes r v see Ones = memory_after r Ones Nothing
memory_takes r v see (WriteAddress count bits) = write_address r count bits v
memory_takes r v see (WriteData offset count bits crc) = write_data r offset count bits crc v see
memory_takes r v see (SendCrc place crc) = memory_after r (crc_sent place crc) Nothing
memory_takes r v see (ReadRegisters place) = memory_after r (register_sent r place see) Nothing
memory_takes r v see (ReadPad offset count crc) = memory_after r (pad_sent offset count crc see) Nothing
memory_takes r v see (CopyAddress count bits) = memory_after r (copy_address count bits v) Nothing
memory_takes r v see (CopyEnd address count bits) = copy_end r address count bits v see
memory_takes r v see (Copied answer) = memory_after r (Copied (not answer)) Nothing
memory_takes r v see (ReadAddress count bits) = memory_after r (read_address count bits v see) Nothing
memory_takes r v see (ReadMemory address count) = memory_after r (memory_sent address count see) Nothing

-- what a chip sends in a slot at each phase; a CRC-16 goes "inverted, low byte first"
abbrev pub memory_sends : Registers → Sight → MemoryPhase → Bool
memory_sends r see Ones = true
memory_sends r see (WriteAddress count bits) = true
memory_sends r see (WriteData offset count bits crc) = true
memory_sends r see (SendCrc place crc) = not (bit_of crc place)
memory_sends r see (ReadRegisters place) = bit_of (r.t + 65536 * r.es) place
memory_sends r see (ReadPad offset count crc) = bit_of see.pad count
memory_sends r see (CopyAddress count bits) = true
memory_sends r see (CopyEnd address count bits) = true
memory_sends r see (Copied answer) = answer
memory_sends r see (ReadAddress count bits) = true
memory_sends r see (ReadMemory address count) = bit_of see.memory count

-- a reset in a write, where it counts as a cut
unfoldable pub cut_of : Registers → Bool → Registers
cut_of r counts = pick counts (pf_set r) r

-- what a reset does to the registers at each phase. Inside a data byte: "A reset inside a data byte sets PF; its bits are lost, E
-- stays (here)." Inside an address, where the part's map says so (cut), by document 02, M-102: "the flow chart of source document 003
-- notes that it sets PF. From now on it does, at the reset; T, E and AA stay. A cut before the first address bit counts too."
abbrev pub memory_reset : Registers → Bool → MemoryPhase → Registers
memory_reset r cut Ones = r
memory_reset r cut (WriteAddress count bits) = cut_of r cut
memory_reset r cut (WriteData offset count bits crc) = cut_of r (ltb 0 count)
memory_reset r cut (SendCrc place crc) = r
memory_reset r cut (ReadRegisters place) = r
memory_reset r cut (ReadPad offset count crc) = r
memory_reset r cut (CopyAddress count bits) = r
memory_reset r cut (CopyEnd address count bits) = r
memory_reset r cut (Copied answer) = r
memory_reset r cut (ReadAddress count bits) = r
memory_reset r cut (ReadMemory address count) = r

-- "every bit count and place inside its step"; last is the last address that Read Memory reads
abbrev pub memory_in_range : ℕ → MemoryPhase → Bool
memory_in_range last Ones = true
memory_in_range last (WriteAddress count bits) = ltb count 16
memory_in_range last (WriteData offset count bits crc) = both (ltb offset 32) (ltb count 8)
memory_in_range last (SendCrc place crc) = ltb place 16
memory_in_range last (ReadRegisters place) = ltb place 24
memory_in_range last (ReadPad offset count crc) = both (ltb offset 32) (ltb count 8)
memory_in_range last (CopyAddress count bits) = ltb count 16
memory_in_range last (CopyEnd address count bits) = ltb count 8
memory_in_range last (Copied answer) = true
memory_in_range last (ReadAddress count bits) = ltb count 16
memory_in_range last (ReadMemory address count) = both (leb address last) (ltb count 8)

-- "E/S bit 6 zero"; and so it stays, since "Bit 6 (BS in the chart) is never set by a rule here"
unfoldable pub registers_in_range : Registers → Bool
registers_in_range r = not (bit_of r.es 6)

-- the address of an offset in T's page
unfoldable pub in_page : ℕ → ℕ → ℕ
in_page t offset = t / 32 * 32 + offset

-- what a slot goes by at a data byte: at its last bit, the memory byte that it is judged by
unfoldable pub byte_at_hand : ℕ → ℕ → ℕ → Hand
byte_at_hand t offset count = pick (ltb count 7) hand.Nothing (hand.Byte (in_page t offset))

-- what a slot goes by at the third byte of Copy: at its last bit, T's page
unfoldable pub page_at_hand : ℕ → ℕ → Hand
page_at_hand t count = pick (ltb count 7) hand.Nothing (hand.Page (in_page t 0))

-- what a slot goes by, beside the registers: at four phases by bytes of memory or scratchpad, at each other one by nothing
abbrev pub hand_of : ℕ → MemoryPhase → Hand
hand_of t (WriteData offset count bits crc) = byte_at_hand t offset count
hand_of t (CopyEnd address count bits) = page_at_hand t count
hand_of t (ReadPad offset count crc) = hand.Pad offset
hand_of t (ReadMemory address count) = hand.Memory address
hand_of t Ones = hand.Nothing
hand_of t (WriteAddress count bits) = hand.Nothing
hand_of t (SendCrc place crc) = hand.Nothing
hand_of t (ReadRegisters place) = hand.Nothing
hand_of t (CopyAddress count bits) = hand.Nothing
hand_of t (Copied answer) = hand.Nothing
hand_of t (ReadAddress count bits) = hand.Nothing
