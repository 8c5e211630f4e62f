-- The functions to which a chip or a slice of chips is lent: two outcomes that the contract permits are the same.
use Rattle.std.specs.Prelude.{refl}
use Rattle.std.proofs.Common.{◌∙◌, ap, sym}
use Rattle.line.specs.Event.{Outcome}
use Rattle.search.specs.Search.{Search}
use Rattle.line.specs.contracts as line
use Rattle.lent.specs.contracts as lent
use Rattle.coincide.specs.Answered.{answered_once}
use Rattle.coincide.specs.Carded.{carded_once}
use Rattle.coincide.specs.Searched.{searched_once}
use Rattle.coincide.specs.Settled.{Fixed, two_facts}

-- record, memory and scratchpad
pub lent_record_takes : Fixed lent.record.takes.ended (λ M 𝓤 𝓛. lent.record.takes.clauses 𝓛)
lent_record_takes M 𝓤 𝓛 mem run κs a g x y v w =
    two_facts 𝓤 _ _ _ (λ p q. let r = p ∙ sym q in (refl, λ i. ((r i).chip, (tt, ((r i).memory, ((r i).pad, tt))))))

-- record and scratchpad
pub lent_record_power_on : Fixed lent.record.power_on.ended (λ M 𝓤 𝓛. lent.record.power_on.clauses 𝓛)
lent_record_power_on M 𝓤 𝓛 mem run κs a g x y v w =
    two_facts 𝓤 _ _ _ (λ p q. (refl, λ i. ((p.0 ∙ sym q.0) i, ((p.1 ∙ sym q.1) i, tt))))

-- answer, chips, images and scratchpads
pub lent_take_event : Fixed lent.take_event.ended (λ M 𝓤 𝓛. lent.take_event.clauses 𝓛)
lent_take_event M 𝓤 𝓛 mem run κs a g x y v w =
    two_facts 𝓤 _ _ _ (λ p q.
    let r = p ∙ sym q in
    (answered_once x y (ap (λ (o : Outcome). o.answer) r), λ i. ((r i).lent.chips, (tt, ((r i).lent.images, ((r i).lent.pads, tt))))))

-- the same of the event in `line`
pub line_take_lent_event : Fixed line.take_lent_event.ended (λ M 𝓤 𝓛. line.take_lent_event.clauses 𝓛)
line_take_lent_event M 𝓤 𝓛 mem run κs a g x y v w =
    two_facts 𝓤 _ _ _ (λ p q.
    let r = p ∙ sym q in
    (answered_once x y (ap (λ (o : Outcome). o.answer) r), λ i. ((r i).lent.chips, (tt, ((r i).lent.images, ((r i).lent.pads, tt))))))

-- answer and chips
pub lent_set_up : Fixed lent.set_up.ended (λ M 𝓤 𝓛. lent.set_up.clauses 𝓛)
lent_set_up M 𝓤 𝓛 mem run κs a g x y v w =
    two_facts 𝓤 _ _ _ (λ p q. (carded_once x y (p.0 ∙ sym q.0), λ i. (tt, ((p.1 ∙ sym q.1) i, tt))))

-- answer, number of codes, resets and slots; chips, list, images and scratchpads
pub lent_search_line : Fixed lent.search_line.ended (λ M 𝓤 𝓛. lent.search_line.clauses 𝓛)
lent_search_line M 𝓤 𝓛 mem run κs a g x y v w =
    two_facts 𝓤 _ _ _ (λ p q.
    let r = p ∙ sym q in
    let s = searched_once x.answer y.answer (ap (λ (o : Search). o.answer) r) in (
      λ i. record { answer = s i; listed = (r i).number; resets = record { 0 = (r i).resets }; slots = record { 0 = (r i).slots } },
      λ i. ((r i).line.lent.chips, ((r i).list, ((r i).line.lent.images, ((r i).line.lent.pads, tt)))),
    ))
