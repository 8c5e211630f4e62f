-- Two outcomes that a contract permits are the same: of chip and line the functions whose contract gives the answer, or the one thing that
-- is changed, by an equation. Written by tools/ties.
use Rattle.std.specs.Prelude.{refl}
use Rattle.std.proofs.Common.{◌∙◌, sym}
use Rattle.chip.specs.contracts as chip
use Rattle.line.specs.contracts as line
use Rattle.chip.proofs as chip_proofs
use Rattle.line.proofs as line_proofs
use Rattle.coincide.specs.Settled.{Settled}

-- chip

pub chip_looks : Settled chip.looks.ended chip_proofs.looks.Reads.Learnt
chip_looks κs a x y v w p q = (p ∙ sym q, refl)

pub chip_takes_by : Settled chip.takes_by.ended chip_proofs.takes_by.Reads.Learnt
chip_takes_by κs a x y v w p q = (p ∙ sym q, refl)

pub chip_sends_by : Settled chip.sends_by.ended chip_proofs.sends_by.Reads.Learnt
chip_sends_by κs a x y v w p q = (p ∙ sym q, refl)

pub chip_sends : Settled chip.sends.ended chip_proofs.sends.Reads.Learnt
chip_sends κs a x y v w p q = (p ∙ sym q, refl)

pub chip_registers_after_reset : Settled chip.registers_after_reset.ended chip_proofs.registers_after_reset.Reads.Learnt
chip_registers_after_reset κs a x y v w p q = (p ∙ sym q, refl)

pub chip_reset : Settled chip.reset.ended chip_proofs.reset.Reads.Learnt
chip_reset κs a x y v w p q = (p ∙ sym q, refl)

pub chip_set_outside : Settled chip.set_outside.ended chip_proofs.set_outside.Reads.Learnt
chip_set_outside κs a x y v w p q = (p ∙ sym q, refl)

pub chip_set_up : Settled chip.set_up.ended chip_proofs.set_up.Reads.Learnt
chip_set_up κs a x y v w p q = (p ∙ sym q, refl)

pub chip_kinds_is_known : Settled chip.kinds.is_known.ended chip_proofs.kinds.is_known.Reads.Learnt
chip_kinds_is_known κs a x y v w p q = (p ∙ sym q, refl)

pub chip_kinds_is_ds28ec20 : Settled chip.kinds.is_ds28ec20.ended chip_proofs.kinds.is_ds28ec20.Reads.Learnt
chip_kinds_is_ds28ec20 κs a x y v w p q = (p ∙ sym q, refl)

pub chip_kinds_has_memory : Settled chip.kinds.has_memory.ended chip_proofs.kinds.has_memory.Reads.Learnt
chip_kinds_has_memory κs a x y v w p q = (p ∙ sym q, refl)

pub chip_kinds_has_scratchpad : Settled chip.kinds.has_scratchpad.ended chip_proofs.kinds.has_scratchpad.Reads.Learnt
chip_kinds_has_scratchpad κs a x y v w p q = (p ∙ sym q, refl)

pub chip_kinds_has_registers : Settled chip.kinds.has_registers.ended chip_proofs.kinds.has_registers.Reads.Learnt
chip_kinds_has_registers κs a x y v w p q = (p ∙ sym q, refl)

pub chip_kinds_has_switch : Settled chip.kinds.has_switch.ended chip_proofs.kinds.has_switch.Reads.Learnt
chip_kinds_has_switch κs a x y v w p q = (p ∙ sym q, refl)

pub chip_kinds_takes_outside : Settled chip.kinds.takes_outside.ended chip_proofs.kinds.takes_outside.Reads.Learnt
chip_kinds_takes_outside κs a x y v w p q = (p ∙ sym q, refl)

pub chip_kinds_part_of : Settled chip.kinds.part_of.ended chip_proofs.kinds.part_of.Reads.Learnt
chip_kinds_part_of κs a x y v w p q = (p ∙ sym q, refl)

pub chip_kinds_knows_of : Settled chip.kinds.knows_of.ended chip_proofs.kinds.knows_of.Reads.Learnt
chip_kinds_knows_of κs a x y v w p q = (p ∙ sym q, refl)

pub chip_kinds_image_size : Settled chip.kinds.image_size.ended chip_proofs.kinds.image_size.Reads.Learnt
chip_kinds_image_size κs a x y v w p q = (p.0 ∙ sym q.0, refl)

pub chip_kinds_pad_size : Settled chip.kinds.pad_size.ended chip_proofs.kinds.pad_size.Reads.Learnt
chip_kinds_pad_size κs a x y v w p q = (p.0 ∙ sym q.0, refl)

pub chip_range_level_in_range : Settled chip.range.level_in_range.ended chip_proofs.range.level_in_range.Reads.Learnt
chip_range_level_in_range κs a x y v w p q = (p ∙ sym q, refl)

pub chip_range_is_in_range : Settled chip.range.is_in_range.ended chip_proofs.range.is_in_range.Reads.Learnt
chip_range_is_in_range κs a x y v w p q = (p ∙ sym q, refl)

-- line

pub line_number_of : Settled line.number_of.ended line_proofs.number_of.Reads.Learnt
line_number_of κs a x y v w p q = (p ∙ sym q, refl)

pub line_used_places : Settled line.used_places.ended line_proofs.used_places.Reads.Learnt
line_used_places κs a x y v w p q = (p.0 ∙ sym q.0, refl)

pub line_bytes_asked : Settled line.bytes_asked.ended line_proofs.bytes_asked.Reads.Learnt
line_bytes_asked κs a x y v w p q = (p ∙ sym q, refl)

pub line_slot_bit : Settled line.slot_bit.ended line_proofs.slot_bit.Reads.Learnt
line_slot_bit κs a x y v w p q = (p ∙ sym q, refl)

pub line_put_slot_bit : Settled line.put_slot_bit.ended line_proofs.put_slot_bit.Reads.Learnt
line_put_slot_bit κs a x y v w p q = (refl, λ i. ((p ∙ sym q) i, w.1))

pub line_how_stands : Settled line.how_stands.ended line_proofs.how_stands.Reads.Learnt
line_how_stands κs a x y v w p q = (p ∙ sym q, refl)

pub line_events_numbered : Settled line.events.numbered.ended line_proofs.events.numbered.Reads.Learnt
line_events_numbered κs a x y v w p q = (p ∙ sym q, refl)

pub line_events_slot : Settled line.events.slot.ended line_proofs.events.slot.Reads.Learnt
line_events_slot κs a x y v w p q = (p ∙ sym q, refl)

pub line_events_reset : Settled line.events.reset.ended line_proofs.events.reset.Reads.Learnt
line_events_reset κs a x y v w p q = (p ∙ sym q, refl)

pub line_events_power_on : Settled line.events.power_on.ended line_proofs.events.power_on.Reads.Learnt
line_events_power_on κs a x y v w p q = (p ∙ sym q, refl)

pub line_events_outside : Settled line.events.outside.ended line_proofs.events.outside.Reads.Learnt
line_events_outside κs a x y v w p q = (p ∙ sym q, refl)

pub line_images_asked : Settled line.images_asked.ended line_proofs.images_asked.Reads.Learnt
line_images_asked κs a x y v w p q = (p.0 ∙ sym q.0, refl)

pub line_pads_asked : Settled line.pads_asked.ended line_proofs.pads_asked.Reads.Learnt
line_pads_asked κs a x y v w p q = (p.0 ∙ sym q.0, refl)

pub line_carrier_first_spot : Settled line.carrier.first_spot.ended line_proofs.carrier.first_spot.Reads.Learnt
line_carrier_first_spot κs a x y v w p q = (p ∙ sym q, refl)

pub line_carrier_spot_after : Settled line.carrier.spot_after.ended line_proofs.carrier.spot_after.Reads.Learnt
line_carrier_spot_after κs a x y v w p q = (p ∙ sym q, refl)

pub line_carrier_first_survey : Settled line.carrier.first_survey.ended line_proofs.carrier.first_survey.Reads.Learnt
line_carrier_first_survey κs a x y v w p q = (p ∙ sym q, refl)

pub line_carrier_kind_seen : Settled line.carrier.kind_seen.ended line_proofs.carrier.kind_seen.Reads.Learnt
line_carrier_kind_seen κs a x y v w p q = (p ∙ sym q, refl)

pub line_carrier_survey_chip : Settled line.carrier.survey_chip.ended line_proofs.carrier.survey_chip.Reads.Learnt
line_carrier_survey_chip κs a x y v w p q = (p ∙ sym q, refl)

pub line_carrier_verdict_by : Settled line.carrier.verdict_by.ended line_proofs.carrier.verdict_by.Reads.Learnt
line_carrier_verdict_by κs a x y v w p q = (p ∙ sym q, refl)

pub line_carrier_run_fits : Settled line.carrier.run_fits.ended line_proofs.carrier.run_fits.Reads.Learnt
line_carrier_run_fits κs a x y v w p q = (p ∙ sym q, refl)

pub line_carrier_run_verdict_by : Settled line.carrier.run_verdict_by.ended line_proofs.carrier.run_verdict_by.Reads.Learnt
line_carrier_run_verdict_by κs a x y v w p q = (p ∙ sym q, refl)

pub line_carrier_outside_fits : Settled line.carrier.outside_fits.ended line_proofs.carrier.outside_fits.Reads.Learnt
line_carrier_outside_fits κs a x y v w p q = (p ∙ sym q, refl)

pub line_carrier_plan_event : Settled line.carrier.plan_event.ended line_proofs.carrier.plan_event.Reads.Learnt
line_carrier_plan_event κs a x y v w p q = (p ∙ sym q, refl)

pub line_carrier_plan_by : Settled line.carrier.plan_by.ended line_proofs.carrier.plan_by.Reads.Learnt
line_carrier_plan_by κs a x y v w p q = (p ∙ sym q, refl)

pub line_carrier_plan_of : Settled line.carrier.plan_of.ended line_proofs.carrier.plan_of.Reads.Learnt
line_carrier_plan_of κs a x y v w p q = (p ∙ sym q, refl)

pub line_carrier_happens : Settled line.carrier.happens.ended line_proofs.carrier.happens.Reads.Learnt
line_carrier_happens κs a x y v w p q = (p ∙ sym q, refl)

pub line_carrier_host_bit : Settled line.carrier.host_bit.ended line_proofs.carrier.host_bit.Reads.Learnt
line_carrier_host_bit κs a x y v w p q = (p ∙ sym q, refl)

pub line_carrier_first_bus : Settled line.carrier.first_bus.ended line_proofs.carrier.first_bus.Reads.Learnt
line_carrier_first_bus κs a x y v w p q = (p ∙ sym q, refl)

pub line_carrier_puts_at : Settled line.carrier.puts_at.ended line_proofs.carrier.puts_at.Reads.Learnt
line_carrier_puts_at κs a x y v w p q = (p ∙ sym q, refl)

pub line_carrier_bus_with : Settled line.carrier.bus_with.ended line_proofs.carrier.bus_with.Reads.Learnt
line_carrier_bus_with κs a x y v w p q = (p ∙ sym q, refl)

pub line_carrier_outside_if : Settled line.carrier.outside_if.ended line_proofs.carrier.outside_if.Reads.Learnt
line_carrier_outside_if κs a x y v w p q = (p ∙ sym q, refl)

pub line_carrier_answer_of : Settled line.carrier.answer_of.ended line_proofs.carrier.answer_of.Reads.Learnt
line_carrier_answer_of κs a x y v w p q = (p ∙ sym q, refl)

pub line_carrier_next_count : Settled line.carrier.next_count.ended line_proofs.carrier.next_count.Reads.Learnt
line_carrier_next_count κs a x y v w p q = (p ∙ sym q, refl)

pub line_carrier_with_bit : Settled line.carrier.with_bit.ended line_proofs.carrier.with_bit.Reads.Learnt
line_carrier_with_bit κs a x y v w p q = (p ∙ sym q, refl)

pub line_bit_at : Settled line.bit_at.ended line_proofs.bit_at.Reads.Learnt
line_bit_at κs a x y v w p q = (p ∙ sym q, refl)

pub line_tables_blank : Settled line.tables.blank.ended line_proofs.tables.blank.Reads.Learnt
line_tables_blank κs a x y v w p q = (p ∙ sym q, refl)

pub line_tables_with_chip : Settled line.tables.with_chip.ended line_proofs.tables.with_chip.Reads.Learnt
line_tables_with_chip κs a x y v w p q = (p ∙ sym q, refl)

pub line_tables_chip_for : Settled line.tables.chip_for.ended line_proofs.tables.chip_for.Reads.Learnt
line_tables_chip_for κs a x y v w p q = (p ∙ sym q, refl)
