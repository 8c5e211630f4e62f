-- Two outcomes that a contract permits are the same: of rom, scratchpad, ds28ec20, memory and ds2413 the functions whose contract gives the answer, or the one thing that
-- is changed, by an equation. Written by tools/ties.
use Rattle.std.specs.Prelude.{refl}
use Rattle.std.proofs.Common.{◌∙◌, sym}
use Rattle.rom.specs.contracts as rom
use Rattle.scratchpad.specs.contracts as scratchpad
use Rattle.ds28ec20.specs.contracts as ds28ec20
use Rattle.memory.specs.contracts as memory
use Rattle.ds2413.specs.contracts as ds2413
use Rattle.rom.proofs as rom_proofs
use Rattle.scratchpad.proofs as scratchpad_proofs
use Rattle.ds28ec20.proofs as ds28ec20_proofs
use Rattle.memory.proofs as memory_proofs
use Rattle.ds2413.proofs as ds2413_proofs
use Rattle.coincide.specs.Settled.{Settled}

-- rom

pub rom_command : Settled rom.command.ended rom_proofs.command.Reads.Learnt
rom_command κs a x y v w p q = (p ∙ sym q, refl)

pub rom_command_bit : Settled rom.command_bit.ended rom_proofs.command_bit.Reads.Learnt
rom_command_bit κs a x y v w p q = (p ∙ sym q, refl)

pub rom_read_bit : Settled rom.read_bit.ended rom_proofs.read_bit.Reads.Learnt
rom_read_bit κs a x y v w p q = (p ∙ sym q, refl)

pub rom_match_bit : Settled rom.match_bit.ended rom_proofs.match_bit.Reads.Learnt
rom_match_bit κs a x y v w p q = (p ∙ sym q, refl)

pub rom_search_bit : Settled rom.search_bit.ended rom_proofs.search_bit.Reads.Learnt
rom_search_bit κs a x y v w p q = (p ∙ sym q, refl)

pub rom_takes : Settled rom.takes.ended rom_proofs.takes.Reads.Learnt
rom_takes κs a x y v w p q = (p ∙ sym q, refl)

pub rom_search_sends : Settled rom.search_sends.ended rom_proofs.search_sends.Reads.Learnt
rom_search_sends κs a x y v w p q = (p ∙ sym q, refl)

pub rom_sends : Settled rom.sends.ended rom_proofs.sends.Reads.Learnt
rom_sends κs a x y v w p q = (p ∙ sym q, refl)

pub rom_in_range : Settled rom.in_range.ended rom_proofs.in_range.Reads.Learnt
rom_in_range κs a x y v w p q = (p ∙ sym q, refl)

-- scratchpad

pub scratchpad_power_on : Settled scratchpad.power_on.ended scratchpad_proofs.power_on.Reads.Learnt
scratchpad_power_on κs a x y v w p q = (p ∙ sym q, refl)

pub scratchpad_is_mark : Settled scratchpad.is_mark.ended scratchpad_proofs.is_mark.Reads.Learnt
scratchpad_is_mark κs a x y v w p q = (p ∙ sym q, refl)

pub scratchpad_rule_of_byte : Settled scratchpad.rule_of_byte.ended scratchpad_proofs.rule_of_byte.Reads.Learnt
scratchpad_rule_of_byte κs a x y v w p q = (p ∙ sym q, refl)

pub scratchpad_function : Settled scratchpad.function.ended scratchpad_proofs.function.Reads.Learnt
scratchpad_function κs a x y v w p q = (p ∙ sym q, refl)

pub scratchpad_goes_on : Settled scratchpad.goes_on.ended scratchpad_proofs.goes_on.Reads.Learnt
scratchpad_goes_on κs a x y v w p q = (p ∙ sym q, refl)

pub scratchpad_begins : Settled scratchpad.begins.ended scratchpad_proofs.begins.Reads.Learnt
scratchpad_begins κs a x y v w p q = (p ∙ sym q, refl)

pub scratchpad_takes : Settled scratchpad.takes.ended scratchpad_proofs.takes.Reads.Learnt
scratchpad_takes κs a x y v w p q = (p ∙ sym q, refl)

pub scratchpad_sends : Settled scratchpad.sends.ended scratchpad_proofs.sends.Reads.Learnt
scratchpad_sends κs a x y v w p q = (p ∙ sym q, refl)

pub scratchpad_reset : Settled scratchpad.reset.ended scratchpad_proofs.reset.Reads.Learnt
scratchpad_reset κs a x y v w p q = (p ∙ sym q, refl)

pub scratchpad_in_range : Settled scratchpad.in_range.ended scratchpad_proofs.in_range.Reads.Learnt
scratchpad_in_range κs a x y v w p q = (p ∙ sym q, refl)

pub scratchpad_registers_in_range : Settled scratchpad.registers_in_range.ended scratchpad_proofs.registers_in_range.Reads.Learnt
scratchpad_registers_in_range κs a x y v w p q = (p ∙ sym q, refl)

pub scratchpad_in_page : Settled scratchpad.in_page.ended scratchpad_proofs.in_page.Reads.Learnt
scratchpad_in_page κs a x y v w p q = (p ∙ sym q, refl)

pub scratchpad_byte_at_hand : Settled scratchpad.byte_at_hand.ended scratchpad_proofs.byte_at_hand.Reads.Learnt
scratchpad_byte_at_hand κs a x y v w p q = (p ∙ sym q, refl)

pub scratchpad_page_at_hand : Settled scratchpad.page_at_hand.ended scratchpad_proofs.page_at_hand.Reads.Learnt
scratchpad_page_at_hand κs a x y v w p q = (p ∙ sym q, refl)

pub scratchpad_at_hand : Settled scratchpad.at_hand.ended scratchpad_proofs.at_hand.Reads.Learnt
scratchpad_at_hand κs a x y v w p q = (p ∙ sym q, refl)

-- ds28ec20

pub ds28ec20_is_data : Settled ds28ec20.is_data.ended ds28ec20_proofs.is_data.Reads.Learnt
ds28ec20_is_data κs a x y v w p q = (p ∙ sym q, refl)

pub ds28ec20_control_address : Settled ds28ec20.control_address.ended ds28ec20_proofs.control_address.Reads.Learnt
ds28ec20_control_address κs a x y v w p q = (p ∙ sym q, refl)

pub ds28ec20_lock_address : Settled ds28ec20.lock_address.ended ds28ec20_proofs.lock_address.Reads.Learnt
ds28ec20_lock_address κs a x y v w p q = (p ∙ sym q, refl)

pub ds28ec20_is_control_or_lock : Settled ds28ec20.is_control_or_lock.ended ds28ec20_proofs.is_control_or_lock.Reads.Learnt
ds28ec20_is_control_or_lock κs a x y v w p q = (p ∙ sym q, refl)

pub ds28ec20_is_read_only : Settled ds28ec20.is_read_only.ended ds28ec20_proofs.is_read_only.Reads.Learnt
ds28ec20_is_read_only κs a x y v w p q = (p ∙ sym q, refl)

pub ds28ec20_is_held : Settled ds28ec20.is_held.ended ds28ec20_proofs.is_held.Reads.Learnt
ds28ec20_is_held κs a x y v w p q = (p ∙ sym q, refl)

pub ds28ec20_only_falls : Settled ds28ec20.only_falls.ended ds28ec20_proofs.only_falls.Reads.Learnt
ds28ec20_only_falls κs a x y v w p q = (p ∙ sym q, refl)

pub ds28ec20_is_closed : Settled ds28ec20.is_closed.ended ds28ec20_proofs.is_closed.Reads.Learnt
ds28ec20_is_closed κs a x y v w p q = (p ∙ sym q, refl)

pub ds28ec20_pad_end : Settled ds28ec20.pad_end.ended ds28ec20_proofs.pad_end.Reads.Learnt
ds28ec20_pad_end κs a x y v w p q = (p ∙ sym q, refl)

-- memory

pub memory_last_address : Settled memory.last_address.ended memory_proofs.last_address.Reads.Learnt
memory_last_address κs a x y v w p q = (p ∙ sym q, refl)

pub memory_control_address : Settled memory.control_address.ended memory_proofs.control_address.Reads.Learnt
memory_control_address κs a x y v w p q = (p ∙ sym q, refl)

pub memory_lock_address : Settled memory.lock_address.ended memory_proofs.lock_address.Reads.Learnt
memory_lock_address κs a x y v w p q = (p ∙ sym q, refl)

pub memory_is_held : Settled memory.is_held.ended memory_proofs.is_held.Reads.Learnt
memory_is_held κs a x y v w p q = (p ∙ sym q, refl)

pub memory_only_falls : Settled memory.only_falls.ended memory_proofs.only_falls.Reads.Learnt
memory_only_falls κs a x y v w p q = (p ∙ sym q, refl)

pub memory_is_closed : Settled memory.is_closed.ended memory_proofs.is_closed.Reads.Learnt
memory_is_closed κs a x y v w p q = (p ∙ sym q, refl)

pub memory_pad_end : Settled memory.pad_end.ended memory_proofs.pad_end.Reads.Learnt
memory_pad_end κs a x y v w p q = (p ∙ sym q, refl)

pub memory_cut_sets_pf : Settled memory.cut_sets_pf.ended memory_proofs.cut_sets_pf.Reads.Learnt
memory_cut_sets_pf κs a x y v w p q = (p ∙ sym q, refl)

pub memory_rule : Settled memory.rule.ended memory_proofs.rule.Reads.Learnt
memory_rule κs a x y v w p q = (p ∙ sym q, refl)

pub memory_two : Settled memory.two.ended memory_proofs.two.Reads.Learnt
memory_two κs a x y v w p q = (p ∙ sym q, refl)

pub memory_looks : Settled memory.looks.ended memory_proofs.looks.Reads.Learnt
memory_looks κs a x y v w p q = (p ∙ sym q, refl)

pub memory_sees : Settled memory.sees.ended memory_proofs.sees.Reads.Learnt
memory_sees κs a x y v w p q = (p ∙ sym q, refl)

pub memory_sight : Settled memory.sight.ended memory_proofs.sight.Reads.Learnt
memory_sight κs a x y v w p q = (p ∙ sym q, refl)

pub memory_span : Settled memory.span.ended memory_proofs.span.Reads.Learnt
memory_span κs a x y v w p q = (p ∙ sym q, refl)

pub memory_flat_pair_at : Settled memory.flat.pair_at.ended memory_proofs.flat.pair_at.Reads.Learnt
memory_flat_pair_at κs a x y v w p q = (p ∙ sym q, refl)

pub memory_flat_one_at : Settled memory.flat.one_at.ended memory_proofs.flat.one_at.Reads.Learnt
memory_flat_one_at κs a x y v w p q = (p ∙ sym q, refl)

pub memory_flat_fetch : Settled memory.flat.fetch.ended memory_proofs.flat.fetch.Reads.Learnt
memory_flat_fetch κs a x y v w p q = (p ∙ sym q, refl)

pub memory_flat_rule_at : Settled memory.flat.rule_at.ended memory_proofs.flat.rule_at.Reads.Learnt
memory_flat_rule_at κs a x y v w p q = (p ∙ sym q, refl)

pub memory_flat_copy_bytes : Settled memory.flat.copy_bytes.ended memory_proofs.flat.copy_bytes.Reads.Learnt
memory_flat_copy_bytes κs a x y v w p q = (refl, λ i. (tt, ((p ∙ sym q) i, w.1.1)))

pub memory_flat_copy : Settled memory.flat.copy.ended memory_proofs.flat.copy.Reads.Learnt
memory_flat_copy κs a x y v w p q = (refl, λ i. (tt, ((p ∙ sym q) i, w.1.1)))

-- ds2413

pub ds2413_power_on : Settled ds2413.power_on.ended ds2413_proofs.power_on.Reads.Learnt
ds2413_power_on κs a x y v w p q = (p ∙ sym q, refl)

pub ds2413_set_up : Settled ds2413.set_up.ended ds2413_proofs.set_up.Reads.Learnt
ds2413_set_up κs a x y v w p q = (p ∙ sym q, refl)

pub ds2413_set_outside : Settled ds2413.set_outside.ended ds2413_proofs.set_outside.Reads.Learnt
ds2413_set_outside κs a x y v w p q = (p ∙ sym q, refl)

pub ds2413_pin : Settled ds2413.pin.ended ds2413_proofs.pin.Reads.Learnt
ds2413_pin κs a x y v w p q = (p ∙ sym q, refl)

pub ds2413_status : Settled ds2413.status.ended ds2413_proofs.status.Reads.Learnt
ds2413_status κs a x y v w p q = (p ∙ sym q, refl)

pub ds2413_function : Settled ds2413.function.ended ds2413_proofs.function.Reads.Learnt
ds2413_function κs a x y v w p q = (p ∙ sym q, refl)

pub ds2413_begins : Settled ds2413.begins.ended ds2413_proofs.begins.Reads.Learnt
ds2413_begins κs a x y v w p q = (p ∙ sym q, refl)

pub ds2413_status_sent : Settled ds2413.status_sent.ended ds2413_proofs.status_sent.Reads.Learnt
ds2413_status_sent κs a x y v w p q = (p ∙ sym q, refl)

pub ds2413_pair_in : Settled ds2413.pair_in.ended ds2413_proofs.pair_in.Reads.Learnt
ds2413_pair_in κs a x y v w p q = (p ∙ sym q, refl)

pub ds2413_pair_bit : Settled ds2413.pair_bit.ended ds2413_proofs.pair_bit.Reads.Learnt
ds2413_pair_bit κs a x y v w p q = (p ∙ sym q, refl)

pub ds2413_confirm_sent : Settled ds2413.confirm_sent.ended ds2413_proofs.confirm_sent.Reads.Learnt
ds2413_confirm_sent κs a x y v w p q = (p ∙ sym q, refl)

pub ds2413_show_sent : Settled ds2413.show_sent.ended ds2413_proofs.show_sent.Reads.Learnt
ds2413_show_sent κs a x y v w p q = (p ∙ sym q, refl)

pub ds2413_goes_on : Settled ds2413.goes_on.ended ds2413_proofs.goes_on.Reads.Learnt
ds2413_goes_on κs a x y v w p q = (p ∙ sym q, refl)

pub ds2413_takes : Settled ds2413.takes.ended ds2413_proofs.takes.Reads.Learnt
ds2413_takes κs a x y v w p q = (p ∙ sym q, refl)

pub ds2413_sends : Settled ds2413.sends.ended ds2413_proofs.sends.Reads.Learnt
ds2413_sends κs a x y v w p q = (p ∙ sym q, refl)

pub ds2413_phase_in_range : Settled ds2413.phase_in_range.ended ds2413_proofs.phase_in_range.Reads.Learnt
ds2413_phase_in_range κs a x y v w p q = (p ∙ sym q, refl)

pub ds2413_in_range : Settled ds2413.in_range.ended ds2413_proofs.in_range.Reads.Learnt
ds2413_in_range κs a x y v w p q = (p ∙ sym q, refl)
