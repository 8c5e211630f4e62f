-- The theorem is about something: two histories of one line after which chip 0 stands differently, and the same after the write.
use Rattle.std.specs.Prelude.{ℕ, true, List, [], ◌∷◌, ◌++◌, ◌≡◌, refl, replicate}
use Rattle.std.proofs.Common.{arith}
use Rattle.std.proofs.lemmas.List.{length-replicate}
use Rattle.base.specs.Pick.{pick}
use Rattle.base.specs.Bits.{bit_of, both, filled}
use Rattle.rom.specs.Rom.{command_of, command_bit}
use Rattle.scratchpad.specs.Registers.{registers, target_of}
use Rattle.scratchpad.specs.Scratchpad.{memory_begins, memory_function, byte_at_hand, page_at_hand, address_in, write_address}
use Rattle.ds2413.specs.Switch.{switch_begins, switch_function, switch_in_range}
use Rattle.memory.specs.Part.{map_of}
use Rattle.chip.specs.Kinds.{known_kind, image_size, pad_size, part_of, has_memory, has_scratchpad, has_registers, has_switch, takes_outside, knows_of}
use Rattle.chip.specs.Chip.{Whole, whole, memory_look, memory_sight, rom_slot, function_in, function_slot, memory_slot, switch_slot, takes_of, sends_of, reset_chip, reset_of, power_on_chip, power_on_of, outside_chip, outside_of, set_up_chip}
use Rattle.line.specs.Event.{asked_by, plan_event, outside_fits}
use Rattle.line.specs.declared.Event.{Event}
use Rattle.line.specs.Events.{event_with, reset_event, power_on_event, outside_event}
use Rattle.histories.specs.Below.{all-below}
use Rattle.histories.specs.Histories.{at, after_of, run, answers, came}
use Rattle.line.specs.Keeps.{InRange, Good}
use Rattle.histories.specs.Sent.{bits_from, slots}
use Rattle.recovery.specs.Sessions.{opening, Addressed, write, Page}
use Rattle.recovery.specs.CarriedOut.{carries_out, copies_none, copies-none}
use Rattle.recovery.proofs.Installed.{Installed}
use Rattle.recovery.proofs.Matched.{addressed_slots}
use Rattle.recovery.proofs.Recovery.{Recovered}
use Rattle.recovery.proofs.Demand3.{demand_3}

-- a DS28EC20 of code 5 and a DS2413 of code 6, as set up, with a memory all FFh
abbrev line : List Whole
line = whole (set_up_chip 5 1) (replicate 2624 0xFF) (replicate 32 0xFF) ∷ whole (set_up_chip 6 2) [] [] ∷ []

-- chip 0 is in range
pub fresh_range : InRange (set_up_chip 5 1)
unfolding set_up_chip known_kind switch_in_range both pick
fresh_range = record { known = refl; clear = refl; pins = refl; place = refl }

-- its memory and its scratchpad have their sizes
fresh : Good (at 0 line)
unfolding set_up_chip image_size pad_size pick
fresh = record { range = fresh_range; memory = length-replicate {A = ℕ} 2624 0xFF; pad = length-replicate {A = ℕ} 32 0xFF }

-- the codes differ
line_installed : Installed 0 line
unfolding set_up_chip both pick
line_installed = record { attached = omega arith; differ = (((λ e. omega arith), tt), (tt, tt)); codes = all-below _ _ refl; kind = refl; good = fresh }

-- power on, an event that is refused, and outside levels of chip 1
abbrev quiet : List Event
quiet = power_on_event ∷ event_with 5 0 0 ∷ outside_event 1 2 ∷ []

-- a reset, CCh, 0Fh and the address 0120h
abbrev noise : List Event
noise = reset_event ∷ slots (bits_from 8 0 0xCC ++ (bits_from 8 0 0x0F ++ bits_from 16 0 0x0120))

-- T and E/S of chip 0 after the first and after the second, and that it carries out no copy in either
pub record Apart : Type 0 where
  pub quiet_registers : (at 0 (run quiet line)).chip.registers ≡ registers 0x0000 0x20
  pub noise_registers : (at 0 (run noise line)).chip.registers ≡ registers 0x0120 0x00
  pub quiet_copies_none : copies_none 0 quiet line ≡ true
  pub noise_copies_none : copies_none 0 noise line ≡ true

-- computed
pub apart : Apart
unfolding carries_out set_up_chip after_of plan_event outside_fits asked_by takes_of sends_of reset_of reset_chip power_on_of power_on_chip outside_of outside_chip rom_slot command_bit command_of function_slot function_in memory_function switch_function switch_slot memory_slot write_address address_in target_of filled bit_of both pick memory_look memory_sight memory_begins switch_begins byte_at_hand page_at_hand part_of map_of has_memory has_scratchpad has_registers has_switch takes_outside knows_of
apart = record { quiet_registers = refl; noise_registers = refl; quiet_copies_none = refl; noise_copies_none = refl }

-- 32 bytes A5h for 0120h
page : Page 0x0120 (replicate 32 0xA5)
unfolding both pick
page = record { address = omega arith; offset = refl; full = length-replicate {A = ℕ} 32 0xA5; small = all-below _ _ refl }

-- so after the write of them at 0120h chip 0 stands the same
pub recovered : Recovered 0 5 (write 5 0x0120 (replicate 32 0xA5)) (run quiet line) (run noise line)
unfolding set_up_chip
recovered =
    demand_3 0 line line_installed [] quiet noise (copies-none 0 quiet line apart.quiet_copies_none) (copies-none 0 noise line apart.noise_copies_none)
    0x0120 (replicate 32 0xA5) page

-- a session that matches the code and reads the scratchpad
abbrev reading : List Event
reading = reset_event ∷ slots (opening 5 ++ (bits_from 8 0 0xAA ++ replicate 296 true))

-- it opens by matching the code
reading_addressed : (L : List Whole) → Addressed 5 [] (came reading L)
unfolding plan_event outside_fits asked_by pick
reading_addressed L = (tt, addressed_slots 5 (opening 5) (bits_from 8 0 0xAA ++ replicate 296 true) _)

-- and what it reads is the same
pub read_alike : answers reading (run (write 5 0x0120 (replicate 32 0xA5)) (run quiet line)) ≡ answers reading (run (write 5 0x0120 (replicate 32 0xA5)) (run noise line))
read_alike = recovered.answers-on reading (reading_addressed _)
