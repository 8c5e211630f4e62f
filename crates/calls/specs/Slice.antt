-- The lent form: a slice of chips behind `&mut`. A call is one of `lent::take_event` or of `lent::search_line`, with an outcome that its own
-- contract permits. Such a contract is a promise over memory; what a caller learns of it is each fact that it comes to.
use Rattle.std.specs.Prelude.{ℕ, List, ◌≡◌, length, Result, Bool}
use Rattle.line.specs.declared.Refusal.{Refusal}
use Rattle.std.proofs.Common.{◌∙◌, ap}
use seplogic.Ra.Ura.{Ura}
use base.Logic.{SProp, ent, id⊢}
use contract.Monad.{Fun, fact}
use contract.Lifetimes.{Lfts}
use Rattle.std.specs.Borrow.{MutBor}
use denote.Triple.Clauses.{at_exit}
use types.Logic.{Logic}
use prog.Memory.{Memory}
use prog.Routine.{Routine}
use Rattle.chip.specs.declared.Chip.{Chip}
use Rattle.line.specs.Layout.{Lent}
use Rattle.line.specs.Event.{Answered, answered, Outcome, outcome, event_of}
use Rattle.line.specs.declared.Event.{Event}
use Rattle.lent.specs.contracts.take_event as take-event
use Rattle.lent.specs.contracts.search_line as search-line
use Rattle.lent.specs.declared.Told.{Told as Returned}
use Rattle.line.specs.Attached.{attached, left_by, says_of, leaves_of}
use Rattle.search.specs.Search.{searched, Search, outcome as found, search_of}
use Rattle.agreement.specs.Slice.{of_lent}
use Rattle.calls.specs.Told.{Told, told, ToldSlots, told_slots, NoCall}
use Rattle.calls.specs.Form.{Meets, Form}

-- what a promise speaks over: memory, and the routines that run in it
pub record World : Type 2 where
  pub M : Type 1
  pub 𝓤 : Ura M
  pub 𝓛 : Logic 𝓤
  pub memory : Memory → SProp 𝓤
  pub routines : Routine → Fun 𝓤

-- each fact that a promise comes to
abbrev pub Learnt : (W : World) → SProp W.𝓤 → Type 1
Learnt W promise = (φ : Type 0) → ent W.𝓤 promise (fact W.𝓤 φ) → φ

-- `lent::take_event`: the slice and the buffers lie anywhere, and the contract permits what is handed back and what they hold then
pub record PermitsEvent (e : Event) (x : Lent) (a : Answered) (y : Lent) : Type 2 where
  pub world : World
  pub κs : Lfts 3
  pub chips : MutBor (List Chip)
  pub images : MutBor (List ℕ)
  pub pads : MutBor (List ℕ)
  pub from_chips : chips.now ≡ x.chips
  pub from_images : images.now ≡ x.images
  pub from_pads : pads.now ≡ x.pads
  pub ghost : (take-event.clauses world.𝓛 world.memory world.routines κs (chips, (e, (images, (pads, tt))))).ghost
  pub answer : Result Bool Refusal
  pub permits : Learnt world
      ((take-event.clauses world.𝓛 world.memory world.routines κs (chips, (e, (images, (pads, tt))))).ensures ghost answer
      (at_exit take-event.ended κs (chips, (e, (images, (pads, tt)))) (y.chips, (tt, (y.images, (y.pads, tt))))))
  pub tells : a ≡ answered answer

pub event_is : (e : Event) (x : Lent) (a : Answered) (y : Lent) → PermitsEvent e x a y → Meets a (says_of e (of_lent x)) (of_lent y) (leaves_of e (of_lent x)) Unit
unfolding says_of leaves_of
event_is e x a y p =
    let o : outcome (answered p.answer) (length y.chips) y ≡ event_of (length x.chips) x.chips e x.images x.pads
    = p.permits _ (id⊢ p.world.𝓤 _) ∙ λ i. event_of (length (p.from_chips i)) (p.from_chips i) e (p.from_images i) (p.from_pads i) in
    record { tells = p.tells ∙ ap (λ (z : Outcome). z.answer) o; leaves = ap left_by o; is-table = tt }

-- `lent::search_line`, likewise
pub record PermitsSearch (list : List ℕ) (x : Lent) (a : Told) (y : Lent) : Type 2 where
  pub world : World
  pub κs : Lfts 4
  pub chips : MutBor (List Chip)
  pub places : MutBor (List ℕ)
  pub images : MutBor (List ℕ)
  pub pads : MutBor (List ℕ)
  pub from_chips : chips.now ≡ x.chips
  pub from_places : places.now ≡ list
  pub from_images : images.now ≡ x.images
  pub from_pads : pads.now ≡ x.pads
  pub ghost : (search-line.clauses world.𝓛 world.memory world.routines κs (chips, (places, (images, (pads, tt))))).ghost
  pub returned : Returned
  pub permits : Learnt world
      ((search-line.clauses world.𝓛 world.memory world.routines κs (chips, (places, (images, (pads, tt))))).ensures ghost returned
      (at_exit search-line.ended κs (chips, (places, (images, (pads, tt)))) (y.chips, (a.list, (y.images, (y.pads, tt))))))
  pub answer : a.answer ≡ searched returned.answer
  pub number : a.number ≡ returned.listed
  pub resets : a.resets ≡ returned.resets.0
  pub slots : a.slots ≡ returned.slots.0

pub search_is : (list : List ℕ) (x : Lent) (a : Told) (y : Lent) → PermitsSearch list x a y → Meets a (told (search_of list (of_lent x))) (of_lent y) (search_of list (of_lent x)).line Unit
search_is list x a y p =
    let o : found a.answer a.number a.list a.resets a.slots (of_lent y) ≡ search_of list (of_lent x)
    = (λ i. found (p.answer i) (p.number i) a.list (p.resets i) (p.slots i) (of_lent y))
    ∙ p.permits _ (id⊢ p.world.𝓤 _)
    ∙ λ i. search_of (p.from_places i) (attached (length (p.from_chips i)) (p.from_chips i) (p.from_images i) (p.from_pads i)) in
    record { tells = ap told o; leaves = ap (λ (z : Search). z.line) o; is-table = tt }

-- the lent form has no function for a run of slots: nothing is permitted as such a call, so that there is none among calls on a slice
abbrev pub slice : Form
slice = record {
  Loan = Lent;
  IsTable = λ x. Unit;
  table = of_lent;
  Answer = Answered;
  answer = λ a. a;
  Listing = Told;
  listing = told;
  Slots = ToldSlots;
  slots = told_slots;
  PermitsEvent = PermitsEvent;
  PermitsSearch = PermitsSearch;
  PermitsSlots = λ n bits out x a y. NoCall;
  event_is = λ e x a y i p. event_is e x a y p;
  search_is = λ list x a y i p. search_is list x a y p;
  slots_is = λ n bits out x a y i p. absurd p.none;
}
