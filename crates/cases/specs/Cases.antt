-- Document 01, "Bench cases": the starred cases, the case of document 02's M-102, and a case for each slip that no starred one shows,
-- stated together. Each is the run of events that a host puts on the line that a card sets up.
use Rattle.std.specs.Prelude.{ℕ, true, false, List, [], ◌∷◌, ◌++◌, ◌≡◌, replicate}
use Rattle.crc.specs.Crc.{poly8, poly16, crc_of}
use Rattle.chip.specs.Chip.{Whole}
use Rattle.line.specs.Event.{bit}
use Rattle.line.specs.declared.Event.{Event}
use Rattle.scratchpad.specs.Registers.{registers}
use Rattle.scratchpad.specs.declared.MemoryPhase.TheVariants.{SendCrc}
use Rattle.line.specs.Attached.{Attached}
use Rattle.search.specs.Search.{search_of, complete, refused}
use Rattle.histories.specs.Histories.{at, run, line_wire}
use Rattle.histories.specs.Sent.{byte_slots}
use Rattle.line.specs.Events.{reset_event, power_on_event, outside_event}
use Rattle.search.specs.Host.{listed, play, search_host}
use Rattle.cases.specs.Bench.{line_of_card, table_of_card, record12, session, bytes_read, bits_read, with_byte, at_phase}

-- one DS28EC20, and one DS2413
abbrev pub memory_line : List Whole
memory_line = line_of_card (record12 1 0x43)

abbrev pub switch_line : List Whole
switch_line = line_of_card (record12 2 0x3A)

-- a DS28EC20 whose first bytes are not FFh, as its scratchpad is after power on
abbrev pub fresh_line : List Whole
fresh_line = with_byte 0x0000 0x12 (with_byte 0x0001 0x34 memory_line)

-- Write Scratchpad of 12h 34h at 0006h
abbrev pub write1234 : List Event
write1234 = session (0x0F ∷ 0x06 ∷ 0x00 ∷ 0x12 ∷ 0x34 ∷ [])

-- TA1, TA2 and E/S, by Read Scratchpad
abbrev pub registers_of : List Whole → List ℕ
registers_of L = bytes_read (session (0xAA ∷ [])) 3 L

-- so many bytes from 0006h, by Read Memory
abbrev pub memory_of : ℕ → List Whole → List ℕ
memory_of n L = bytes_read (session (0xF0 ∷ 0x06 ∷ 0x00 ∷ [])) n L

-- Copy with three bytes
abbrev pub copy_of : ℕ → ℕ → ℕ → List Event
copy_of ta1 ta2 es = session (0x55 ∷ ta1 ∷ ta2 ∷ es ∷ [])

-- Write Scratchpad with 8 bits of its address: those of 20h, so that half an address in T would show
abbrev pub eight_bits : List Event
eight_bits = session (0x0F ∷ 0x20 ∷ [])

-- the same, and the reset that cuts it
abbrev pub short_address : List Event
short_address = eight_bits ++ (reset_event ∷ [])

-- case 5's write, the short address, and Copy with 06 00 27
abbrev pub short_copy : List Event
short_copy = write1234 ++ (short_address ++ copy_of 0x06 0x00 0x27)

-- a DS28EC20 that is about to send C0C1h as its CRC-16
abbrev pub crc_line : List Whole
crc_line = at_phase (SendCrc 0 0xC0C1) memory_line

-- 0A00h = 55h, as case 6 has it, and 0A1Eh = AAh besides
abbrev pub protected_line : List Whole
protected_line = with_byte 0x0A00 0x55 memory_line

abbrev pub locked_line : List Whole
locked_line = with_byte 0x0A1E 0xAA protected_line

-- block 0 in EPROM mode, with F0h at 0006h
abbrev pub eprom_line : List Whole
eprom_line = with_byte 0x0A00 0xAA (with_byte 0x0006 0xF0 memory_line)

-- Match ROM of the DS28EC20
abbrev pub match_memory : List Event
match_memory = reset_event ∷ byte_slots (0x55 ∷ 0x43 ∷ 0 ∷ 0 ∷ 0 ∷ 0 ∷ 0 ∷ 0 ∷ 0 ∷ [])

-- 12h in the scratchpad from a write to block 0, then block 1 protected: 0A01h = 55h
abbrev pub stale_line : List Whole
stale_line = with_byte 0x0A01 0x55 (run (session (0x0F ∷ 0x00 ∷ 0x00 ∷ 0x12 ∷ [])) memory_line)

abbrev pub stale_copy : List Event
stale_copy = session (0x0F ∷ 0x20 ∷ 0x01 ∷ []) ++ copy_of 0x20 0x01 0x00

-- 77h at 0004h to 0009h, so that case 5's write is a short one over a scratchpad that is not FFh
abbrev pub write77 : List Event
write77 = session (0x0F ∷ 0x04 ∷ 0x00 ∷ replicate 6 0x77)

abbrev pub short_write : List Event
short_write = write77 ++ write1234

-- 55h, a mark, for each register byte: 0A00h to 0A1Fh
abbrev pub marked_copy : List Event
marked_copy = session (0x0F ∷ 0x00 ∷ 0x0A ∷ replicate 32 0x55) ++ copy_of 0x00 0x0A 0x1F

-- a status by PIO Access Read
abbrev pub status_on : List Event → List Whole → List ℕ
status_on es L = bytes_read (es ++ session (0xF5 ∷ [])) 1 L

-- "The four first bytes of 002 (bit 0 first: 00110101, 10101010, 11110101, 00010001), other bits 0"
abbrev pub four_line : List Whole
four_line = line_of_card (record12 1 0xAC ++ (record12 1 0x55 ++ (record12 1 0xAF ++ record12 1 0x88)))

abbrev pub four_table : Attached
four_table = table_of_card (record12 1 0xAC ++ (record12 1 0x55 ++ (record12 1 0xAF ++ record12 1 0x88)))

-- two DS2413, of which the first was matched and sent FEh, 01h
abbrev pub two_line : List Whole
two_line = line_of_card (record12 2 0x01 ++ record12 2 0x02)

abbrev pub switch_one : List Event
switch_one = reset_event ∷ byte_slots (0x55 ∷ 0x01 ∷ 0 ∷ 0 ∷ 0 ∷ 0 ∷ 0 ∷ 0 ∷ 0 ∷ 0x5A ∷ 0xFE ∷ 0x01 ∷ [])

pub record Cases : Type 0 where
  -- 1: "CRC-8 of 01h is 5Eh. CRC-16 of 01h is C0C1h, sent 3Eh 3Fh."
  pub crc_8 : crc_of poly8 0 (0x01 ∷ []) ≡ 0x5E
  pub crc_16 : crc_of poly16 0 (0x01 ∷ []) ≡ 0xC0C1
  pub crc-sent : bytes_read [] 2 crc_line ≡ 0x3E ∷ 0x3F ∷ []
  -- 2: "are listed 88h, ACh, 55h, AFh."
  pub four_listed : (play line_wire (search_host 16) four_line).result ≡ listed (0x88 ∷ 0xAC ∷ 0x55 ∷ 0xAF ∷ []) true
  pub four_resets : (play line_wire (search_host 16) four_line).resets ≡ 4
  pub four_slots : (play line_wire (search_host 16) four_line).slots ≡ 800
  -- 3: "No chips: 0 codes, 0 slots. Two places for case 2: refusal 4, 88h and ACh, 400 slots."
  pub none_listed : (play line_wire (search_host 16) (line_of_card [])).result ≡ listed [] true
  pub none_slots : (play line_wire (search_host 16) (line_of_card [])).slots ≡ 0
  pub two_listed : (play line_wire (search_host 2) four_line).result ≡ listed (0x88 ∷ 0xAC ∷ []) false
  pub two_slots : (play line_wire (search_host 2) four_line).slots ≡ 400
  -- 2 and 3 by the public search, over a table, its buffers and a list of 16 places, and of two
  pub four_found : (search_of (replicate 16 0) four_table).list ≡ 0x88 ∷ 0xAC ∷ 0x55 ∷ 0xAF ∷ replicate 12 0
  pub four_answer : (search_of (replicate 16 0) four_table).answer ≡ complete
  pub four_counted : (search_of (replicate 16 0) four_table).slots ≡ 800
  pub two_found : (search_of (replicate 2 0) four_table).list ≡ 0x88 ∷ 0xAC ∷ []
  pub two_refused : (search_of (replicate 2 0) four_table).answer ≡ refused 4
  pub two_counted : (search_of (replicate 2 0) four_table).slots ≡ 400
  -- 4: "After power on, copy with 00 00 20: nothing copied."
  pub fresh_copy : bytes_read (copy_of 0x00 0x00 0x20) 2 fresh_line ≡ 0xFF ∷ 0xFF ∷ []
  pub fresh_memory : (at 0 (run (copy_of 0x00 0x00 0x20) fresh_line)).memory ≡ (at 0 fresh_line).memory
  -- 5: "Write 12h 34h at 0006h: E/S 07h. Copy 06 00 07 writes both; then 0, 1; E/S 87h."
  pub write_registers : registers_of (run write1234 memory_line) ≡ 0x06 ∷ 0x00 ∷ 0x07 ∷ []
  pub copy_answers : bits_read (write1234 ++ copy_of 0x06 0x00 0x07) 4 memory_line ≡ bit false ∷ bit true ∷ bit false ∷ bit true ∷ []
  pub copy_memory : memory_of 3 (run (write1234 ++ copy_of 0x06 0x00 0x07) memory_line) ≡ 0x12 ∷ 0x34 ∷ 0xFF ∷ []
  pub copy_registers : registers_of (run (write1234 ++ copy_of 0x06 0x00 0x07) memory_line) ≡ 0x06 ∷ 0x00 ∷ 0x87 ∷ []
  -- 5: "Copy 06 00 06 instead: ones."
  pub wrong_answers : bytes_read (write1234 ++ copy_of 0x06 0x00 0x06) 2 memory_line ≡ 0xFF ∷ 0xFF ∷ []
  pub wrong_memory : memory_of 3 (run (write1234 ++ copy_of 0x06 0x00 0x06) memory_line) ≡ 0xFF ∷ 0xFF ∷ 0xFF ∷ []
  pub wrong_registers : registers_of (run (write1234 ++ copy_of 0x06 0x00 0x06) memory_line) ≡ 0x06 ∷ 0x00 ∷ 0x07 ∷ []
  -- M-102: "case 5's write, then 0Fh and 8 bits, reset: E/S 27h, and a copy with 06 00 27 is not carried out."
  pub short_begun : (at 0 (run (write1234 ++ eight_bits) memory_line)).chip.registers ≡ registers 0x0006 0x07
  pub short_reset : (at 0 (run (write1234 ++ short_address) memory_line)).chip.registers ≡ registers 0x0006 0x27
  pub short_registers : registers_of (run (write1234 ++ short_address) memory_line) ≡ 0x06 ∷ 0x00 ∷ 0x27 ∷ []
  pub short_answers : bytes_read short_copy 2 memory_line ≡ 0xFF ∷ 0xFF ∷ []
  pub short_memory : (at 0 (run short_copy memory_line)).memory ≡ (at 0 memory_line).memory
  pub short_kept : registers_of (run short_copy memory_line) ≡ 0x06 ∷ 0x00 ∷ 0x27 ∷ []
  -- M-102: a power on in place of the reset, "Power on: T 0000h, E/S 20h"
  pub short_power_on : (at 0 (run (write1234 ++ (eight_bits ++ (power_on_event ∷ []))) memory_line)).chip.registers ≡ registers 0x0000 0x20
  -- M-102: "T, E and AA stay", after a copy that was carried out
  pub short_after_copy : registers_of (run (write1234 ++ (copy_of 0x06 0x00 0x07 ++ short_address)) memory_line) ≡ 0x06 ∷ 0x00 ∷ 0xA7 ∷ []
  -- "Reset alone leaves RC": Match, a reset, and Resume finds the same chip at the function level
  pub resumed : bytes_read (match_memory ++ (reset_event ∷ byte_slots (0xA5 ∷ 0xAA ∷ []))) 3 memory_line ≡ 0x00 ∷ 0x00 ∷ 0x20 ∷ []
  -- 9, into a held block: "Address only, 0120h", then a copy with 20 01 00 of an old scratchpad byte leaves the memory byte
  pub stale_held : (at 0 (run stale_copy stale_line)).memory ≡ (at 0 stale_line).memory
  pub stale_answers : bits_read stale_copy 4 stale_line ≡ bit false ∷ bit true ∷ bit false ∷ bit true ∷ []
  -- "each offset from T mod 32 to E": a short write over an old scratchpad, copied, leaves every other byte, whatever the scratchpad holds there
  pub over_old_pad : bytes_read (short_write ++ session (0xAA ∷ [])) 7 memory_line ≡ 0x06 ∷ 0x00 ∷ 0x07 ∷ 0x12 ∷ 0x34 ∷ 0x77 ∷ 0x77 ∷ []
  pub past_e_stays : (at 0 (run (short_write ++ copy_of 0x06 0x00 0x07) memory_line)).memory ≡ (at 0 (with_byte 0x0006 0x12 (with_byte 0x0007 0x34 memory_line))).memory
  -- "every byte judged by the memory before the copy": one that sets 0A1Fh sets all other register bytes with it, and closes the page to the next
  pub marks_answers : bits_read marked_copy 4 memory_line ≡ bit false ∷ bit true ∷ bit false ∷ bit true ∷ []
  pub marks_memory : (at 0 (run marked_copy memory_line)).memory ≡ replicate 0x0A00 0xFF ++ (replicate 32 0x55 ++ replicate 32 0xFF)
  pub marks_closed : bytes_read (marked_copy ++ copy_of 0x00 0x0A 0x9F) 2 memory_line ≡ 0xFF ∷ 0xFF ∷ []
  -- 6: "0A00h = 55h, memory FFh at 0006h: case 5 leaves FFh and sets AA."
  pub held_memory : memory_of 3 (run (write1234 ++ copy_of 0x06 0x00 0x07) protected_line) ≡ 0xFF ∷ 0xFF ∷ 0xFF ∷ []
  pub held_registers : registers_of (run (write1234 ++ copy_of 0x06 0x00 0x07) protected_line) ≡ 0x06 ∷ 0x00 ∷ 0x87 ∷ []
  -- 6: "With 0A1Eh = AAh too: no copy, E/S 07h."
  pub locked_answers : bytes_read (write1234 ++ copy_of 0x06 0x00 0x07) 2 locked_line ≡ 0xFF ∷ 0xFF ∷ []
  pub locked_registers : registers_of (run (write1234 ++ copy_of 0x06 0x00 0x07) locked_line) ≡ 0x06 ∷ 0x00 ∷ 0x07 ∷ []
  -- 7: "Block in EPROM mode, memory F0h, sent 3Ch: 30h."
  pub eprom_memory : memory_of 1 (run (session (0x0F ∷ 0x06 ∷ 0x00 ∷ 0x3C ∷ []) ++ copy_of 0x06 0x00 0x06) eprom_line) ≡ 0x30 ∷ []
  -- 8: "DS2413, all open: 0Fh. Write FEh, 01h: AAh, 3Ch."
  pub open_status : status_on [] switch_line ≡ 0x0F ∷ []
  pub switched : bytes_read (session (0x5A ∷ 0xFE ∷ 0x01 ∷ [])) 2 switch_line ≡ 0xAA ∷ 0x3C ∷ []
  -- 8: "Latches open, A held low outside: 1Eh. Two chips at 0Fh and 3Ch read together: 0Ch."
  pub held_low : status_on (outside_event 0 2 ∷ []) switch_line ≡ 0x1E ∷ []
  pub together : status_on switch_one two_line ≡ 0x0C ∷ []
