-- The plain form: a table by value. A call is one of `line::take_event`, of `search::search_line` or of `line::take_slots`, with an outcome that its
-- own contract permits.
use Rattle.std.specs.Prelude.{ℕ, Bool, true, false, List, ◌≡◌, refl, Result, Ok, Err}
use Rattle.line.specs.declared.Refusal.{Refusal}
use Rattle.std.proofs.Common.{◌∙◌, ap, sym}
use contract.Lifetimes.{Lfts}
use Rattle.std.specs.Borrow.{Bor, MutBor}
use denote.Triple.Clauses.{at_exit}
use Rattle.base.specs.Lent.{lent_as, lent_to_change}
use Rattle.base.specs.Pick.{pick}
use Rattle.chip.specs.declared.Chip.{Chip}
use Rattle.line.specs.Event.{Answered, answered, Outcome, outcome, plan_of, done_of, event_of}
use Rattle.line.specs.Slots.{slotted, run_outcome, run_verdict, run_by, slots_of}
use Rattle.line.specs.declared.Event.{Event}
use Rattle.line.specs.declared.Plan.{Plan}
use Rattle.line.specs.declared.Plan.TheVariants as plan
use Rattle.line.specs.declared.Table.{Table}
use Rattle.line.specs.contracts.take_event as take-event
use Rattle.line.proofs.take_event.Reads as take-event-reads
use Rattle.line.specs.contracts.take_slots as take-slots
use Rattle.line.proofs.take_slots.Reads as take-slots-reads
use Rattle.search.specs.contracts.search_line as search-line
use Rattle.search.proofs.search_line.Reads as search-line-reads
use Rattle.line.specs.Attached.{Attached, attached, left_by, says_of, leaves_of, verdict_at}
use Rattle.search.specs.Search.{searched, Search, outcome as found, complete_or4, search_by, search_of}
use Rattle.search.specs.declared.Fault.{Fault}
use Rattle.search.specs.declared.Fault.TheVariants as fault
use Rattle.search.specs.declared.Found.{Found}
use Rattle.histories.specs.Slots.{slots_on, left_by_run}
use Rattle.calls.specs.Told.{Told, told, ToldSlots, told_slots}
use Rattle.calls.specs.Form.{Meets, Form}

-- a caller's table, by value
abbrev table_of : Attached → Table
table_of l = record { n = l.count; chips = l.lent.chips }

-- `line::take_event`: the buffers lie anywhere, and the contract permits what is handed back and what the buffers hold then
pub record PermitsEvent (e : Event) (l : Attached) (a : Answered) (k : Attached) : Type 2 where
  pub κs : Lfts 2
  pub images : MutBor (List ℕ)
  pub pads : MutBor (List ℕ)
  pub from_images : images.now ≡ l.lent.images
  pub from_pads : pads.now ≡ l.lent.pads
  pub answer : Result Bool Refusal
  pub permits : take-event-reads.Learnt κs (table_of l, (e, (images, (pads, tt)))) (record { answer = answer; table = table_of k })
      (at_exit take-event.ended κs (table_of l, (e, (images, (pads, tt)))) (tt, (tt, (k.lent.images, (k.lent.pads, tt)))))
  pub tells : a ≡ answered answer

pub event_is : (e : Event) (l : Attached) (a : Answered) (k : Attached) → PermitsEvent e l a k → Meets a (says_of e l) k (leaves_of e l) Unit
unfolding says_of leaves_of
event_is e l a k p =
    let o : outcome (answered p.answer) k.count k.lent ≡ event_of l.count l.lent.chips e l.lent.images l.lent.pads
    = p.permits ∙ λ i. event_of l.count l.lent.chips e (p.from_images i) (p.from_pads i) in
    record { tells = p.tells ∙ ap (λ (x : Outcome). x.answer) o; leaves = ap left_by o; is-table = tt }

-- `search::search_line`, likewise
pub record PermitsSearch (list : List ℕ) (l : Attached) (a : Told) (k : Attached) : Type 2 where
  pub κs : Lfts 3
  pub places : MutBor (List ℕ)
  pub images : MutBor (List ℕ)
  pub pads : MutBor (List ℕ)
  pub from_places : places.now ≡ list
  pub from_images : images.now ≡ l.lent.images
  pub from_pads : pads.now ≡ l.lent.pads
  pub returned : Found
  pub permits : search-line-reads.Learnt κs (table_of l, (places, (images, (pads, tt)))) returned
      (at_exit search-line.ended κs (table_of l, (places, (images, (pads, tt)))) (tt, (a.list, (k.lent.images, (k.lent.pads, tt)))))
  pub table : table_of k ≡ returned.table
  pub answer : a.answer ≡ searched returned.answer
  pub number : a.number ≡ returned.listed
  pub resets : a.resets ≡ returned.resets.0
  pub slots : a.slots ≡ returned.slots.0

pub search_is : (list : List ℕ) (l : Attached) (a : Told) (k : Attached) → PermitsSearch list l a k → Meets a (told (search_of list l)) k (search_of list l).line Unit
search_is list l a k p =
    let o : found a.answer a.number a.list a.resets a.slots k ≡ search_of list l
    = (λ i. found (p.answer i) (p.number i) a.list (p.resets i) (p.slots i) (attached (p.table i).n (p.table i).chips k.lent.images k.lent.pads))
    ∙ p.permits
    ∙ λ i. search_of (p.from_places i) (attached l.count l.lent.chips (p.from_images i) (p.from_pads i)) in
    record { tells = ap told o; leaves = ap (λ (x : Search). x.line) o; is-table = tt }

-- `line::take_slots`, likewise
pub record PermitsSlots (n : ℕ) (bits out : List ℕ) (l : Attached) (a : ToldSlots) (k : Attached) : Type 2 where
  pub κs : Lfts 4
  pub host : Bor (List ℕ)
  pub answers : MutBor (List ℕ)
  pub images : MutBor (List ℕ)
  pub pads : MutBor (List ℕ)
  pub from_host : host.now ≡ bits
  pub from_answers : answers.now ≡ out
  pub from_images : images.now ≡ l.lent.images
  pub from_pads : pads.now ≡ l.lent.pads
  pub answer : Result ℕ Refusal
  pub permits : take-slots-reads.Learnt κs (table_of l, (host, (n, (answers, (images, (pads, tt)))))) (record { answer = answer; table = table_of k })
      (at_exit take-slots.ended κs (table_of l, (host, (n, (answers, (images, (pads, tt)))))) (tt, (tt, (tt, (a.answers, (k.lent.images, (k.lent.pads, tt)))))))
  pub tells : a.answer ≡ slotted answer

pub slots_is : (n : ℕ) (bits out : List ℕ) (l : Attached) (a : ToldSlots) (k : Attached) → PermitsSlots n bits out l a k
    → Meets a (told_slots (slots_on n bits out l)) k (left_by_run (slots_on n bits out l)) Unit
slots_is n bits out l a k p =
    let o : run_outcome a.answer a.answers k.count k.lent ≡ slots_on n bits out l
    = (λ i. run_outcome (p.tells i) a.answers k.count k.lent) ∙ p.permits
    ∙ λ i. slots_of l.count l.lent.chips n (p.from_host i) (p.from_answers i) (p.from_images i) (p.from_pads i) in
    record { tells = ap told_slots o; leaves = ap left_by_run o; is-table = tt }

abbrev pub plain : Form
plain = record {
  Loan = Attached;
  IsTable = λ l. Unit;
  table = λ l. l;
  Answer = Answered;
  answer = λ a. a;
  Listing = Told;
  listing = told;
  Slots = ToldSlots;
  slots = told_slots;
  PermitsEvent = PermitsEvent;
  PermitsSearch = PermitsSearch;
  PermitsSlots = PermitsSlots;
  event_is = λ e l a k i p. event_is e l a k p;
  search_is = λ list l a k i p. search_is list l a k p;
  slots_is = λ n bits out l a k i p. slots_is n bits out l a k p;
}

-- the answer that an event comes to, and those of a search and of a run
answer-for : (p : Result Plan Refusal) (n : ℕ) (cs : List Chip) (ms ss : List ℕ) → (a : Result Bool Refusal) × (answered a ≡ (done_of p n cs ms ss).answer)
answer-for (Err r) n cs ms ss = (Err r, refl)
answer-for (Ok (plan.Slot b)) n cs ms ss = (Ok _, refl)
answer-for (Ok plan.Reset) n cs ms ss = (Ok _, refl)
answer-for (Ok plan.PowerOn) n cs ms ss = (Ok true, refl)
answer-for (Ok (plan.Outside i x)) n cs ms ss = (Ok true, refl)

complete_for : (b : Bool) → (a : Result (Unit {0}) Fault) × (searched a ≡ complete_or4 b)
unfolding pick
complete_for true = (Ok tt, refl)
complete_for false = (Err fault.TooFewPlaces, refl)

search_for : (v : Result (Unit {0}) Refusal) (list : List ℕ) (l : Attached) → (a : Result (Unit {0}) Fault) × (searched a ≡ (search_by v list l).answer)
search_for (Ok tt) list l = complete_for _
search_for (Err r) list l = (Err (fault.Refused r), refl)

slots_for : (v : Result (Unit {0}) Refusal) (n : ℕ) (cs : List Chip) (m : ℕ) (bits out ms ss : List ℕ) → (a : Result ℕ Refusal) × (slotted a ≡ (run_by v n cs m bits out ms ss).answer)
slots_for (Ok tt) n cs m bits out ms ss = (Ok _, refl)
slots_for (Err r) n cs m bits out ms ss = (Err r, refl)

-- THEOREM: every call has an outcome that its contract permits, whatever is lent and however long it lives
pub some_event : Lfts 2 → (e : Event) (l : Attached) → PermitsEvent e l (says_of e l) (leaves_of e l)
unfolding says_of leaves_of event_of
some_event κs e l =
    let o = event_of l.count l.lent.chips e l.lent.images l.lent.pads in
    let q = answer-for (plan_of l.count l.lent.chips e l.lent.images l.lent.pads) l.count l.lent.chips l.lent.images l.lent.pads in
    record {
      κs = κs;
      images = lent_to_change l.lent.images;
      pads = lent_to_change l.lent.pads;
      from_images = refl;
      from_pads = refl;
      answer = q.0;
      permits = λ j. outcome (q.1 j) o.count o.lent;
      tells = sym q.1;
    }

pub some_search : Lfts 3 → (list : List ℕ) (l : Attached) → PermitsSearch list l (told (search_of list l)) (search_of list l).line
unfolding search_of
some_search κs list l =
    let o = search_of list l in
    let q = search_for (verdict_at l) list l in
    record {
      κs = κs;
      places = lent_to_change list;
      images = lent_to_change l.lent.images;
      pads = lent_to_change l.lent.pads;
      from_places = refl;
      from_images = refl;
      from_pads = refl;
      returned = record { answer = q.0; listed = o.number; resets = record { 0 = o.resets }; slots = record { 0 = o.slots }; table = table_of o.line };
      permits = λ j. found (q.1 j) o.number o.list o.resets o.slots o.line;
      table = refl;
      answer = sym q.1;
      number = refl;
      resets = refl;
      slots = refl;
    }

pub some_slots : Lfts 4 → (n : ℕ) (bits out : List ℕ) (l : Attached) → PermitsSlots n bits out l (told_slots (slots_on n bits out l)) (left_by_run (slots_on n bits out l))
unfolding slots_of
some_slots κs n bits out l =
    let o = slots_on n bits out l in
    let q = slots_for (run_verdict l.count l.lent.chips n bits out l.lent.images l.lent.pads) l.count l.lent.chips n bits out l.lent.images l.lent.pads in
    record {
      κs = κs;
      host = lent_as bits;
      answers = lent_to_change out;
      images = lent_to_change l.lent.images;
      pads = lent_to_change l.lent.pads;
      from_host = refl;
      from_answers = refl;
      from_images = refl;
      from_pads = refl;
      answer = q.0;
      permits = λ j. run_outcome (q.1 j) o.answers o.count o.lent;
      tells = sym q.1;
    }
