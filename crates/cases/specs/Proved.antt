-- The cases hold: each comes out by computing the run.
use Rattle.std.specs.Prelude.{refl, replicate}
use Rattle.std.proofs.Common.{ap, lit≤}
use Rattle.base.specs.Bits.{bit_of, same, both, filled}
use Rattle.base.specs.Pick.{pick}
use Rattle.card.specs.Card.{cut_entry, whole_entry, entry_at, read_from, set_up_of}
use Rattle.chip.specs.Chip.{rom_slot, function_in, function_slot, memory_look, memory_sight, memory_slot, switch_slot, takes_of, sends_of, reset_chip, reset_of, power_on_chip, power_on_pad, power_on_of, outside_chip, outside_of, set_up_chip}
use Rattle.chip.specs.Kinds.{known_kind, image_size, pad_size, part_of, has_memory, has_scratchpad, has_registers, has_switch, takes_outside, knows_of}
use Rattle.crc.specs.Crc.{crc_bit, crc_byte, crc_of}
use Rattle.ds2413.specs.Switch.{pin_of, status_of, switch_function, status_sent, pair_in, pair_bit, confirmed, shown, switch_begins, switch_in_range}
use Rattle.memory.specs.Part.{map_of}
use Rattle.memory.specs.Memory.{rule_at, span_of, copied}
use Rattle.scratchpad.specs.Map.{rule_by}
use Rattle.scratchpad.specs.Scratchpad.{byte_at_hand, page_at_hand, pad_from, memory_begins, memory_function, crc_of_address, address_in, write_address, after_byte, byte_in, write_data, crc_sent, pad_begins, register_sent, pad_byte_sent, pad_sent, copy_address, carried_out, three_bytes_in, copy_end, read_address, memory_sent, cut_of, in_page, read_from as readMemoryFrom, registers_in_range}
use Rattle.ds28ec20.specs.Map.{ds28ec20, lock_address, pad_end, is_data, control_address, is_control_or_lock, is_read_only, held, only_falls, closed_to_copying}
use Rattle.line.specs.Layout.{capped}
use Rattle.line.specs.Event.{plan_event, asked_by, outside_fits, table_in_range, sizes_fit}
use Rattle.records.specs.Records.{head_at}
use Rattle.rom.specs.Rom.{command_of, command_bit, read_bit, match_bit, search_bit, search_sends}
use Rattle.histories.specs.Histories.{answer_of, after_of}
use Rattle.scratchpad.specs.Registers.{pf, with_e, with_pf, with_aa, target_of, mark, rule_of_byte}
use Rattle.search.specs.Host.{bind, play, pass, write, up_to, passes}
use Rattle.chip.specs.Range.{in_range}
use Rattle.search.specs.Search.{Search}
use Rattle.line.specs.Attached.{Stands}
use Rattle.histories.specs.Joined.{search_joined}
use Rattle.cases.specs.Cases.{Cases, four_table}

pub cases : Cases
unfolding bit_of same both filled pick cut_entry whole_entry entry_at read_from set_up_of rom_slot function_in function_slot memory_look memory_sight memory_slot map_of rule_by byte_at_hand page_at_hand pad_from memory_begins part_of has_memory has_scratchpad has_registers has_switch takes_outside knows_of switch_begins ds28ec20 lock_address pad_end switch_slot takes_of sends_of reset_chip reset_of power_on_chip power_on_pad power_on_of outside_chip outside_of set_up_chip known_kind image_size pad_size crc_bit crc_byte crc_of pin_of status_of switch_function status_sent pair_in pair_bit confirmed shown rule_at span_of copied is_data control_address is_control_or_lock is_read_only mark held only_falls closed_to_copying capped plan_event outside_fits asked_by head_at command_of command_bit read_bit match_bit search_bit search_sends answer_of after_of pf with_e with_pf with_aa target_of rule_of_byte memory_function crc_of_address address_in write_address after_byte byte_in write_data crc_sent pad_begins register_sent pad_byte_sent pad_sent copy_address carried_out three_bytes_in copy_end read_address memory_sent cut_of in_page bind play pass write up_to passes readMemoryFrom in_range registers_in_range switch_in_range table_in_range sizes_fit
cases =
    record {
      crc_8 = refl;
      crc_16 = refl;
      crc-sent = refl;
      four_listed = refl;
      four_resets = refl;
      four_slots = refl;
      none_listed = refl;
      none_slots = refl;
      two_listed = refl;
      two_slots = refl;
      four_found = ap (λ (s : Search). s.list) (search_joined (replicate 16 0) four_table four_stands);
      four_answer = ap (λ (s : Search). s.answer) (search_joined (replicate 16 0) four_table four_stands);
      four_counted = ap (λ (s : Search). s.slots) (search_joined (replicate 16 0) four_table four_stands);
      two_found = ap (λ (s : Search). s.list) (search_joined (replicate 2 0) four_table four_stands);
      two_refused = ap (λ (s : Search). s.answer) (search_joined (replicate 2 0) four_table four_stands);
      two_counted = ap (λ (s : Search). s.slots) (search_joined (replicate 2 0) four_table four_stands);
      fresh_copy = refl;
      fresh_memory = refl;
      write_registers = refl;
      copy_answers = refl;
      copy_memory = refl;
      copy_registers = refl;
      wrong_answers = refl;
      wrong_memory = refl;
      wrong_registers = refl;
      short_begun = refl;
      short_reset = refl;
      short_registers = refl;
      short_answers = refl;
      short_memory = refl;
      short_kept = refl;
      short_power_on = refl;
      short_after_copy = refl;
      resumed = refl;
      stale_held = refl;
      stale_answers = refl;
      over_old_pad = refl;
      past_e_stays = refl;
      marks_answers = refl;
      marks_memory = refl;
      marks_closed = refl;
      held_memory = refl;
      held_registers = refl;
      locked_answers = refl;
      locked_registers = refl;
      eprom_memory = refl;
      open_status = refl;
      switched = refl;
      held_low = refl;
      together = refl;
    }
  where
    four_stands : Stands four_table
    four_stands = record { range = refl; sizes = refl; places = lit≤ tt }
