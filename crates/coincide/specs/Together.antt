-- The functions that hand back or change several things at once, which one equation of their contract gives: two outcomes that the contract
-- permits are the same. With them the functions whose answer is an enum, which a contract names by its number and values.
use Rattle.std.specs.Prelude.{refl}
use Rattle.std.proofs.Common.{◌∙◌, ap, sym}
use Rattle.card.specs.Card.{SetUp}
use Rattle.line.specs.Event.{Outcome}
use Rattle.line.specs.Slots.{RunOutcome}
use Rattle.recording.specs.Playing.{Handed}
use Rattle.search.specs.Search.{Search}
use Rattle.rounds.specs.Round.{Round}
use Rattle.memory.specs.contracts as memory
use Rattle.chip.specs.contracts as chip
use Rattle.line.specs.contracts as line
use Rattle.card.specs.contracts as card
use Rattle.setpoints.specs.contracts as setpoints
use Rattle.intelhex.specs.contracts as intelhex
use Rattle.recording.specs.contracts as recording
use Rattle.search.specs.contracts as search
use Rattle.rounds.specs.contracts as rounds
use Rattle.packed.specs.contracts as packed
use Rattle.toemsakun.specs.contracts as toemsakun
use Rattle.console.specs.contracts as console
use Rattle.memory.proofs as memory_proofs
use Rattle.chip.proofs as chip_proofs
use Rattle.line.proofs as line_proofs
use Rattle.card.proofs as card_proofs
use Rattle.setpoints.proofs as setpoints_proofs
use Rattle.intelhex.proofs as intelhex_proofs
use Rattle.recording.proofs as recording_proofs
use Rattle.search.proofs as search_proofs
use Rattle.rounds.proofs as rounds_proofs
use Rattle.packed.proofs as packed_proofs
use Rattle.toemsakun.proofs as toemsakun_proofs
use Rattle.console.proofs as console_proofs
use Rattle.coincide.specs.Answered.{answered_once, slotted_once}
use Rattle.coincide.specs.Carded.{carded_once}
use Rattle.coincide.specs.Searched.{searched_once}
use Rattle.coincide.specs.Recorded.{ends_once}
use Rattle.coincide.specs.Settled.{Settled}

-- memory and scratchpad
pub memory_flat_carry_out : Settled memory.flat.carry_out.ended memory_proofs.flat.carry_out.Reads.Learnt
memory_flat_carry_out κs a x y v w p q = let r = p ∙ sym q in (refl, λ i. (tt, (tt, ((r i).memory, ((r i).pad, tt)))))

-- record, memory and scratchpad
pub chip_takes : Settled chip.takes.ended chip_proofs.takes.Reads.Learnt
chip_takes κs a x y v w p q = let r = p ∙ sym q in (λ i. (r i).chip, λ i. (tt, (tt, ((r i).memory, ((r i).pad, tt)))))

-- record and scratchpad
pub chip_power_on : Settled chip.power_on.ended chip_proofs.power_on.Reads.Learnt
chip_power_on κs a x y v w p q = (p.0 ∙ sym q.0, λ i. (tt, ((p.1 ∙ sym q.1) i, tt)))

-- record, images and scratchpads
pub line_act_at : Settled line.act_at.ended line_proofs.act_at.Reads.Learnt
line_act_at κs a x y v w p q = let r = p ∙ sym q in (λ i. (r i).chip, λ i. (tt, (tt, (tt, (tt, ((r i).memory, ((r i).pad, tt)))))))

pub line_carrier_does_at : Settled line.carrier.does_at.ended line_proofs.carrier.does_at.Reads.Learnt
line_carrier_does_at κs a x y v w p q = let r = p ∙ sym q in (λ i. (r i).chip, λ i. (tt, (tt, (tt, (tt, ((r i).memory, ((r i).pad, tt)))))))

-- record, the next spot, images and scratchpads
pub line_carrier_turn : Settled line.carrier.turn.ended line_proofs.carrier.turn.Reads.Learnt
line_carrier_turn κs a x y v w p q =
    let r = p ∙ sym q in (λ i. record { chip = (r i).chip; spot = (r i).spot }, λ i. (tt, (tt, (tt, (tt, ((r i).images, ((r i).pads, tt)))))))

-- answer, table, images and scratchpads
pub line_take_event : Settled line.take_event.ended line_proofs.take_event.Reads.Learnt
line_take_event κs a x y v w p q =
    let r = p ∙ sym q in
    let s = answered_once x.answer y.answer (ap (λ (o : Outcome). o.answer) r) in (
      λ i. record { answer = s i; table = record { n = (r i).count; chips = (r i).lent.chips } },
      λ i. (tt, (tt, ((r i).lent.images, ((r i).lent.pads, tt)))),
    )

-- answer and table; answers, images and scratchpads
pub line_take_slots : Settled line.take_slots.ended line_proofs.take_slots.Reads.Learnt
line_take_slots κs a x y v w p q =
    let r = p ∙ sym q in
    let s = slotted_once x.answer y.answer (ap (λ (o : RunOutcome). o.answer) r) in (
      λ i. record { answer = s i; table = record { n = (r i).count; chips = (r i).lent.chips } },
      λ i. (tt, (tt, (tt, ((r i).answers, ((r i).lent.images, ((r i).lent.pads, tt)))))),
    )

-- answer and table
pub card_set_up : Settled card.set_up.ended card_proofs.set_up.Reads.Learnt
card_set_up κs a x y v w p q =
    let r = p ∙ sym q in
    let s = carded_once x.answer y.answer (ap (λ (o : SetUp). o.answer) r) in
    (λ i. record { answer = s i; table = record { n = (r i).count; chips = (r i).table } }, refl)

-- answer and page
pub setpoints_write : Settled setpoints.write.ended setpoints_proofs.write.Reads.Learnt
setpoints_write κs a x y v w p q = let r = p ∙ sym q in (λ i. (r i).answer, λ i. (tt, ((r i).page, w.1.1)))

-- answer and text; answer and image; where it ended, and the image
pub intelhex_write_text : Settled intelhex.write_text.ended intelhex_proofs.write_text.Reads.Learnt
intelhex_write_text κs a x y v w p q = let r = p ∙ sym q in (λ i. (r i).answer, λ i. (tt, ((r i).text, tt)))

pub intelhex_read_text : Settled intelhex.read_text.ended intelhex_proofs.read_text.Reads.Learnt
intelhex_read_text κs a x y v w p q = let r = p ∙ sym q in (λ i. (r i).answer, λ i. (tt, ((r i).image, tt)))

pub intelhex_read_lines : Settled intelhex.read_lines.ended intelhex_proofs.read_lines.Reads.Learnt
intelhex_read_lines κs a x y v w p q =
    let r = p ∙ sym q in (λ i. record { ending = (r i).ending; at = (r i).at; lines = (r i).lines; over = (r i).over }, λ i. (tt, (tt, (tt, ((r i).image, tt)))))

-- ending, offset, number of answers and table; text, images and scratchpads
pub recording_play : Settled recording.play.ended recording_proofs.play.Reads.Learnt
recording_play κs a x y v w p q =
    let r = p ∙ sym q in
    let s = ends_once x.ending y.ending (ap (λ (o : Handed). o.ends) r) in (
      λ i. record { ending = s i; at = (r i).at; answers = (r i).number; table = record { n = (r i).line.count; chips = (r i).line.lent.chips } },
      λ i. (tt, (tt, (tt, ((r i).text, ((r i).line.lent.images, ((r i).line.lent.pads, tt)))))),
    )

-- what is heard; table, images and scratchpads
pub search_slot : Settled search.slot.ended search_proofs.slot.Reads.Learnt
search_slot κs a x y v w p q =
    let r = p.1 ∙ sym q.1 in
    (p.0 ∙ sym q.0, λ i. (record { n = (r i).count; chips = (r i).lent.chips }, (tt, ((r i).lent.images, ((r i).lent.pads, tt)))))

pub search_reset : Settled search.reset.ended search_proofs.reset.Reads.Learnt
search_reset κs a x y v w p q =
    let r = p.1 ∙ sym q.1 in
    (p.0 ∙ sym q.0, λ i. (record { n = (r i).count; chips = (r i).lent.chips }, ((r i).lent.images, ((r i).lent.pads, tt))))

-- table, images and scratchpads
pub search_write_byte : Settled search.write_byte.ended search_proofs.write_byte.Reads.Learnt
search_write_byte κs a x y v w p q =
    let r = p ∙ sym q in
    (refl, λ i. (record { n = (r i).line.count; chips = (r i).line.lent.chips }, (tt, ((r i).line.lent.images, ((r i).line.lent.pads, tt)))))

-- answer, number of codes, resets, slots and table; list, images and scratchpads
pub search_search_line : Settled search.search_line.ended search_proofs.search_line.Reads.Learnt
search_search_line κs a x y v w p q =
    let r = p ∙ sym q in
    let s = searched_once x.answer y.answer (ap (λ (o : Search). o.answer) r) in (
      λ i. record {
        answer = s i;
        listed = (r i).number;
        resets = record { 0 = (r i).resets };
        slots = record { 0 = (r i).slots };
        table = record { n = (r i).line.count; chips = (r i).line.lent.chips };
      },
      λ i. (tt, ((r i).list, ((r i).line.lent.images, ((r i).line.lent.pads, tt)))),
    )

-- the same with the page buffer
pub rounds_make_round : Settled rounds.make_round.ended rounds_proofs.make_round.Reads.Learnt
rounds_make_round κs a x y v w p q =
    let r = p ∙ sym q in
    let s = searched_once x.answer y.answer (ap (λ (o : Round). o.found.answer) r) in (
      λ i. record {
        answer = s i;
        listed = (r i).found.number;
        resets = record { 0 = (r i).found.resets };
        slots = record { 0 = (r i).found.slots };
        table = record { n = (r i).found.line.count; chips = (r i).found.line.lent.chips };
      },
      λ i. (tt, ((r i).found.list, ((r i).pages, ((r i).found.line.lent.images, ((r i).found.line.lent.pads, tt))))),
    )

-- record, images and scratchpads
pub packed_takes : Settled packed.takes.ended packed_proofs.takes.Reads.Learnt
packed_takes κs a x y v w p q = let r = p ∙ sym q in (refl, λ i. ((r i).bytes, (tt, (tt, ((r i).images, ((r i).pads, tt))))))

-- answer, table and offset
pub toemsakun_tk_card : Settled toemsakun.tk_card.ended toemsakun_proofs.tk_card.Reads.Learnt
toemsakun_tk_card κs a x y v w p q = let r = p ∙ sym q in (λ i. (r i).answer, λ i. (tt, ((r i).table, ((r i).offset, tt))))

-- answer, table, images and scratchpads
pub toemsakun_tk_event : Settled toemsakun.tk_event.ended toemsakun_proofs.tk_event.Reads.Learnt
toemsakun_tk_event κs a x y v w p q =
    let r = p ∙ sym q in (λ i. (r i).answer, λ i. ((r i).table, (tt, (tt, (tt, ((r i).images, ((r i).pads, tt)))))))

-- answer, table, answers, images and scratchpads
pub toemsakun_tk_slots : Settled toemsakun.tk_slots.ended toemsakun_proofs.tk_slots.Reads.Learnt
toemsakun_tk_slots κs a x y v w p q =
    let r = p ∙ sym q in (λ i. (r i).answer, λ i. ((r i).table, (tt, ((r i).answers, (tt, ((r i).images, ((r i).pads, tt)))))))

-- answer, table, list, images, scratchpads and counts
pub toemsakun_tk_search : Settled toemsakun.tk_search.ended toemsakun_proofs.tk_search.Reads.Learnt
toemsakun_tk_search κs a x y v w p q =
    let r = p ∙ sym q in (λ i. (r i).answer, λ i. ((r i).table, ((r i).list, ((r i).images, ((r i).pads, ((r i).resets, ((r i).slots, tt)))))))

-- what is at hand, and its buffer
pub console_input_taken : Settled console.input.taken.ended console_proofs.input.taken.Reads.Learnt
console_input_taken κs a x y v w p q = let r = p ∙ sym q in (λ i. (r i).hand, λ i. (tt, (tt, ((r i).buffer, tt))))
