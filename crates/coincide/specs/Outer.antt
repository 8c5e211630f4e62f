-- Two outcomes that a contract permits are the same: of card, recording, search, rounds, lent, packed, toemsakun and terminal the functions whose contract gives the answer, or the one thing that
-- is changed, by an equation. Written by tools/ties.
use Rattle.std.specs.Prelude.{refl}
use Rattle.std.proofs.Common.{◌∙◌, sym}
use Rattle.card.specs.contracts as card
use Rattle.recording.specs.contracts as recording
use Rattle.search.specs.contracts as search
use Rattle.rounds.specs.contracts as rounds
use Rattle.lent.specs.contracts as lent
use Rattle.packed.specs.contracts as packed
use Rattle.toemsakun.specs.contracts as toemsakun
use Rattle.terminal.specs.contracts as terminal
use Rattle.card.proofs as card_proofs
use Rattle.recording.proofs as recording_proofs
use Rattle.search.proofs as search_proofs
use Rattle.rounds.proofs as rounds_proofs
use Rattle.lent.proofs as lent_proofs
use Rattle.packed.proofs as packed_proofs
use Rattle.toemsakun.proofs as toemsakun_proofs
use Rattle.terminal.proofs as terminal_proofs
use Rattle.coincide.specs.Settled.{Settled, Fixed, two_facts}

-- card

pub card_U8FromFault_from : Settled card.U8FromFault.from.ended card_proofs.U8FromFault.from.Reads.Learnt
card_U8FromFault_from κs a x y v w p q = (p ∙ sym q, refl)

pub card_is_known : Settled card.is_known.ended card_proofs.is_known.Reads.Learnt
card_is_known κs a x y v w p q = (p ∙ sym q, refl)

pub card_entry_at : Settled card.entry_at.ended card_proofs.entry_at.Reads.Learnt
card_entry_at κs a x y v w p q = (p ∙ sym q, refl)

-- recording

pub recording_FaultFromCardFault_from : Settled recording.FaultFromCardFault.from.ended recording_proofs.FaultFromCardFault.from.Reads.Learnt
recording_FaultFromCardFault_from κs a x y v w p q = (p ∙ sym q, refl)

pub recording_FaultFromRefusal_from : Settled recording.FaultFromRefusal.from.ended recording_proofs.FaultFromRefusal.from.Reads.Learnt
recording_FaultFromRefusal_from κs a x y v w p q = (p ∙ sym q, refl)

pub recording_number_of : Settled recording.number_of.ended recording_proofs.number_of.Reads.Learnt
recording_number_of κs a x y v w p q = (p ∙ sym q, refl)

pub recording_read_cards : Settled recording.read_cards.ended recording_proofs.read_cards.Reads.Learnt
recording_read_cards κs a x y v w p q = (p ∙ sym q, refl)

pub recording_record_at : Settled recording.record_at.ended recording_proofs.record_at.Reads.Learnt
recording_record_at κs a x y v w p q = (p ∙ sym q, refl)

-- search

pub search_FaultFromRefusal_from : Settled search.FaultFromRefusal.from.ended search_proofs.FaultFromRefusal.from.Reads.Learnt
search_FaultFromRefusal_from κs a x y v w p q = (p ∙ sym q, refl)

pub search_number_of : Settled search.number_of.ended search_proofs.number_of.Reads.Learnt
search_number_of κs a x y v w p q = (p ∙ sym q, refl)

-- rounds

pub rounds_pages_asked : Settled rounds.pages_asked.ended rounds_proofs.pages_asked.Reads.Learnt
rounds_pages_asked κs a x y v w p q = (p.0 ∙ sym q.0, refl)

-- lent

pub lent_record_sends : Fixed lent.record.sends.ended (λ M 𝓤 𝓛. lent.record.sends.clauses 𝓛)
lent_record_sends M 𝓤 𝓛 mem run κs a g x y v w = two_facts 𝓤 _ _ _ (λ p q. (p ∙ sym q, refl))

pub lent_record_reset : Fixed lent.record.reset.ended (λ M 𝓤 𝓛. lent.record.reset.clauses 𝓛)
lent_record_reset M 𝓤 𝓛 mem run κs a g x y v w = two_facts 𝓤 _ _ _ (λ p q. (refl, λ i. ((p ∙ sym q) i, w.1)))

pub lent_record_set_outside : Fixed lent.record.set_outside.ended (λ M 𝓤 𝓛. lent.record.set_outside.clauses 𝓛)
lent_record_set_outside M 𝓤 𝓛 mem run κs a g x y v w = two_facts 𝓤 _ _ _ (λ p q. (refl, λ i. ((p ∙ sym q) i, w.1)))

-- packed

pub packed_kind_of : Settled packed.kind_of.ended packed_proofs.kind_of.Reads.Learnt
packed_kind_of κs a x y v w p q = (p ∙ sym q, refl)

pub packed_waits : Settled packed.waits.ended packed_proofs.waits.Reads.Learnt
packed_waits κs a x y v w p q = (p ∙ sym q, refl)

pub packed_stands : Settled packed.stands.ended packed_proofs.stands.Reads.Learnt
packed_stands κs a x y v w p q = (p ∙ sym q, refl)

pub packed_level_StepFromRomStep_from : Settled packed.level.StepFromRomStep.from.ended packed_proofs.level.StepFromRomStep.from.Reads.Learnt
packed_level_StepFromRomStep_from κs a x y v w p q = (p ∙ sym q, refl)

pub packed_level_StepFromMemoryPhase_from : Settled packed.level.StepFromMemoryPhase.from.ended packed_proofs.level.StepFromMemoryPhase.from.Reads.Learnt
packed_level_StepFromMemoryPhase_from κs a x y v w p q = (p ∙ sym q, refl)

pub packed_level_StepFromSwitchPhase_from : Settled packed.level.StepFromSwitchPhase.from.ended packed_proofs.level.StepFromSwitchPhase.from.Reads.Learnt
packed_level_StepFromSwitchPhase_from κs a x y v w p q = (p ∙ sym q, refl)

pub packed_level_StepFromLevel_from : Settled packed.level.StepFromLevel.from.ended packed_proofs.level.StepFromLevel.from.Reads.Learnt
packed_level_StepFromLevel_from κs a x y v w p q = (p ∙ sym q, refl)

pub packed_level_RomStepFromStep_from : Settled packed.level.RomStepFromStep.from.ended packed_proofs.level.RomStepFromStep.from.Reads.Learnt
packed_level_RomStepFromStep_from κs a x y v w p q = (p ∙ sym q, refl)

pub packed_level_MemoryPhaseFromStep_from : Settled packed.level.MemoryPhaseFromStep.from.ended packed_proofs.level.MemoryPhaseFromStep.from.Reads.Learnt
packed_level_MemoryPhaseFromStep_from κs a x y v w p q = (p ∙ sym q, refl)

pub packed_level_SwitchPhaseFromStep_from : Settled packed.level.SwitchPhaseFromStep.from.ended packed_proofs.level.SwitchPhaseFromStep.from.Reads.Learnt
packed_level_SwitchPhaseFromStep_from κs a x y v w p q = (p ∙ sym q, refl)

pub packed_level_LevelFromStep_from : Settled packed.level.LevelFromStep.from.ended packed_proofs.level.LevelFromStep.from.Reads.Learnt
packed_level_LevelFromStep_from κs a x y v w p q = (p ∙ sym q, refl)

pub packed_pack : Settled packed.pack.ended packed_proofs.pack.Reads.Learnt
packed_pack κs a x y v w p q = (p ∙ sym q, refl)

pub packed_unpack : Settled packed.unpack.ended packed_proofs.unpack.Reads.Learnt
packed_unpack κs a x y v w p q = (p ∙ sym q, refl)

pub packed_is_packed : Settled packed.is_packed.ended packed_proofs.is_packed.Reads.Learnt
packed_is_packed κs a x y v w p q = (p ∙ sym q, refl)

pub packed_put_record : Settled packed.put_record.ended packed_proofs.put_record.Reads.Learnt
packed_put_record κs a x y v w p q = (refl, λ i. ((p ∙ sym q) i, w.1))

pub packed_sends : Settled packed.sends.ended packed_proofs.sends.Reads.Learnt
packed_sends κs a x y v w p q = (p ∙ sym q, refl)

pub packed_table_of : Settled packed.table_of.ended packed_proofs.table_of.Reads.Learnt
packed_table_of κs a x y v w p q = (p ∙ sym q, refl)

pub packed_put_table : Settled packed.put_table.ended packed_proofs.put_table.Reads.Learnt
packed_put_table κs a x y v w p q = (refl, λ i. ((p ∙ sym q) i, w.1))

-- toemsakun

pub toemsakun_tk_table_size : Settled toemsakun.tk_table_size.ended toemsakun_proofs.tk_table_size.Reads.Learnt
toemsakun_tk_table_size κs a x y v w p q = (p ∙ sym q, refl)

pub toemsakun_tk_images_size : Settled toemsakun.tk_images_size.ended toemsakun_proofs.tk_images_size.Reads.Learnt
toemsakun_tk_images_size κs a x y v w p q = (p.0 ∙ sym q.0, refl)

pub toemsakun_tk_pads_size : Settled toemsakun.tk_pads_size.ended toemsakun_proofs.tk_pads_size.Reads.Learnt
toemsakun_tk_pads_size κs a x y v w p q = (p.0 ∙ sym q.0, refl)

-- terminal

pub terminal_say : Settled terminal.say.ended terminal_proofs.say.Reads.Learnt
terminal_say κs a x y v w p q = (refl, refl)

pub terminal_say_number : Settled terminal.say_number.ended terminal_proofs.say_number.Reads.Learnt
terminal_say_number κs a x y v w p q = (refl, refl)

pub terminal_say_refused : Settled terminal.say_refused.ended terminal_proofs.say_refused.Reads.Learnt
terminal_say_refused κs a x y v w p q = (refl, refl)

pub terminal_refused_card : Settled terminal.refused_card.ended terminal_proofs.refused_card.Reads.Learnt
terminal_refused_card κs a x y v w p q = (p ∙ sym q, refl)

pub terminal_word : Settled terminal.word.ended terminal_proofs.word.Reads.Learnt
terminal_word κs a x y v w p q = (p ∙ sym q, refl)

pub terminal_say_word : Settled terminal.say_word.ended terminal_proofs.say_word.Reads.Learnt
terminal_say_word κs a x y v w p q = (refl, refl)

pub terminal_code_digits : Settled terminal.code_digits.ended terminal_proofs.code_digits.Reads.Learnt
terminal_code_digits κs a x y v w p q = (p ∙ sym q, refl)

pub terminal_write_code : Settled terminal.write_code.ended terminal_proofs.write_code.Reads.Learnt
terminal_write_code κs a x y v w p q = (refl, refl)

pub terminal_write_codes : Settled terminal.write_codes.ended terminal_proofs.write_codes.Reads.Learnt
terminal_write_codes κs a x y v w p q = (refl, refl)

pub terminal_image_room : Settled terminal.image_room.ended terminal_proofs.image_room.Reads.Learnt
terminal_image_room κs a x y v w p q = (p.0 ∙ sym q.0, refl)

pub terminal_pad_room : Settled terminal.pad_room.ended terminal_proofs.pad_room.Reads.Learnt
terminal_pad_room κs a x y v w p q = (p.0 ∙ sym q.0, refl)
