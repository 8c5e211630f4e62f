-- The theorems of M-103 are not empty: the worked recording of the README, computed. After that a statement like `written_cut`, with the first bits of
-- a run over again in its second record, proved false.
use Rattle.std.specs.Prelude.{ℕ, ◌-◌, ◌≤◌, Bool, true, false, List, [], ◌∷◌, ◌++◌, ◌≡◌, refl, length, take, get_or}
use Rattle.std.proofs.Common.{arith, true≢false, ap}
use Rattle.base.specs.Bits.{bit_of, both, filled}
use Rattle.base.specs.Pick.{pick}
use Rattle.rom.specs.Rom.{command_of, command_bit}
use Rattle.ds2413.specs.Switch.{pin_of, status_of, switch_function, switch_begins, status_sent, switch_in_range}
use Rattle.scratchpad.specs.Scratchpad.{registers_in_range}
use Rattle.chip.specs.Kinds.{known_kind, image_size, pad_size, has_memory, has_switch, takes_outside}
use Rattle.chip.specs.Range.{in_range}
use Rattle.chip.specs.Chip.{rom_slot, function_in, function_slot, switch_slot, takes_of, sends_of, reset_chip, reset_of, outside_chip, outside_of, set_up_chip}
use Rattle.line.specs.Layout.{images_asked, pads_asked}
use Rattle.line.specs.Tables.{joined}
use Rattle.line.specs.Slots.{bits_in}
use Rattle.line.specs.Event.{table_in_range, sizes_fit, outside_fits, verdict_of, asked_by, plan_event, plan_of, event_of}
use Rattle.line.specs.Attached.{says_of, leaves_of}
use Rattle.records.specs.Records.{head_at}
use Rattle.card.specs.Card.{whole_entry, entry_at}
use Rattle.recording.specs.Reading.{is_event, length_asked, chip_record, unused_clear, slots_record, event_in, event_record, whole_record, at_end, found_at, starts_event}
use Rattle.recording.specs.Cards.{cards_from, cards_of}
use Rattle.recording.specs.Playing.{refusal, Played, slots_step, play_from, play_all, playback}
use Rattle.played.specs.Written.{slots_bytes}
use Rattle.played.specs.Handed.{start, hand_piece}
use Rattle.played.specs.Cut.{bytes_added, place_moved}

-- one switch; a reset; CCh, F5h and a read of eight slots; its pin A pulled low; the same read again; and levels for a chip that is not there
abbrev worked : List ℕ
worked =
    0x0A ∷ 0x00 ∷ 0x02 ∷ 0x00 ∷ 0x3A ∷ 0x00 ∷ 0x00 ∷ 0x00 ∷ 0x00 ∷ 0x00 ∷ 0x00 ∷ 0x00
    ∷ 0x02 ∷ 0x00 ∷ 0x11 ∷ 0x00
    ∷ 0x07 ∷ 0x00 ∷ 0x10 ∷ 0x00 ∷ 0x18 ∷ 0x00 ∷ 0xCC ∷ 0xF5 ∷ 0xFF
    ∷ 0x04 ∷ 0x00 ∷ 0x13 ∷ 0x00 ∷ 0x00 ∷ 0x02
    ∷ 0x02 ∷ 0x00 ∷ 0x11 ∷ 0x00
    ∷ 0x07 ∷ 0x00 ∷ 0x10 ∷ 0x00 ∷ 0x18 ∷ 0x00 ∷ 0xCC ∷ 0xF5 ∷ 0xFF
    ∷ 0x04 ∷ 0x00 ∷ 0x13 ∷ 0x00 ∷ 0x01 ∷ 0x00
    ∷ []

-- what playing it comes to
pub record Worked : Type 0 where
  -- a chip is present, and its status is 0Fh; the levels are set; it is present, and its status is 1Eh, pin A low
  pub answers : (playback worked).answers ≡ false ∷ bits_in (0xCC ∷ 0xF5 ∷ 0x0F ∷ []) ++ (true ∷ false ∷ bits_in (0xCC ∷ 0xF5 ∷ 0x1E ∷ []))
  -- "event 4 names an absent chip": the last record is refused
  pub ends : (playback worked).ends ≡ refusal 7
  pub at : (playback worked).at ≡ 44

pub worked_case : Worked
unfolding bit_of both filled pick command_of command_bit pin_of status_of switch_function switch_begins status_sent switch_in_range registers_in_range known_kind image_size pad_size has_memory has_switch takes_outside in_range rom_slot function_in function_slot switch_slot takes_of sends_of reset_chip reset_of outside_chip outside_of set_up_chip images_asked pads_asked joined table_in_range sizes_fit outside_fits verdict_of asked_by plan_event plan_of event_of says_of leaves_of head_at whole_entry entry_at is_event length_asked chip_record unused_clear slots_record event_in event_record whole_record found_at starts_event cards_from cards_of slots_step play_from play_all playback
worked_case = record { answers = refl; ends = refl; at = refl }

-- the second record of a run, as the must-fail edit has it: what is left is false ------------------------

-- `written_cut` with the run's first bits over again, in place of its last ones
abbrev FromBit0 : Type 0
FromBit0 =
    (before later : List ℕ) (hs : List Bool) (k : ℕ) → k ≤ length hs → length hs ≤ 65535 → (hand_piece true before start).held ≡ []
    → playback (before ++ (slots_bytes (take k hs) ++ (slots_bytes (take (length hs - k) hs) ++ later)))
    ≡ place_moved (length before) (bytes_added k hs) (playback (before ++ (slots_bytes hs ++ later)))

-- without chips a slot answers the host's bit: 1 and 1 again are not 1 and 0
pub from_bit_0 : FromBit0 → ⊥
unfolding both pick images_asked pads_asked table_in_range sizes_fit verdict_of head_at is_event length_asked unused_clear slots_record event_record whole_record at_end found_at starts_event cards_from cards_of slots_step play_from play_all playback hand_piece
from_bit_0 claim = true≢false (ap (λ (p : Played). get_or p.answers 1 true) (claim [] [] (true ∷ false ∷ []) 1 (omega arith) (omega arith) refl))
