-- The library for C: a table as bytes. A call is one of `tk_event`, of `tk_search` or of `tk_slots`, with an outcome that its own contract permits.
use Rattle.std.specs.Prelude.{ℕ, true, List, [], ◌≡◌, refl, ℤ}
use Rattle.std.proofs.Common.{◌∙◌, ap}
use contract.Lifetimes.{Lfts}
use Rattle.std.specs.Borrow.{Bor, MutBor}
use denote.Triple.Clauses.{at_exit}
use Rattle.base.specs.Lent.{lent_as, lent_to_change}
use Rattle.base.specs.Pick.{pick_true}
use Rattle.line.specs.Slots.{RunOutcome}
use Rattle.line.specs.declared.Event.{Event}
use Rattle.line.specs.Attached.{says_of, leaves_of, line_from}
use Rattle.search.specs.Search.{Search, search_of}
use Rattle.packed.specs.Packed.{is_table}
use Rattle.toemsakun.specs.Library.{answer_number, EventLeft, event_left, event_bytes, slots_number, SlotsLeft, slots_left, slots_bytes, search_number, SearchLeft, search_left, search_bytes}
use Rattle.toemsakun.specs.contracts.tk_event as tk-event
use Rattle.toemsakun.proofs.tk_event.Reads as tk-event-reads
use Rattle.toemsakun.specs.contracts.tk_search as tk-search
use Rattle.toemsakun.proofs.tk_search.Reads as tk-search-reads
use Rattle.toemsakun.specs.contracts.tk_slots as tk-slots
use Rattle.toemsakun.proofs.tk_slots.Reads as tk-slots-reads
use Rattle.histories.specs.Slots.{slots_on, left_by_run}
use Rattle.histories.specs.Calls.{event_call, search_call, slots_call}
use Rattle.histories.specs.Below.{Codes}
use Rattle.histories.specs.Histories.{codes_of}
use Rattle.agreement.specs.Slice.{of_lent, codes_lent}
use Rattle.agreement.specs.InC.{LentBytes, unpacked_lent, search_in, slots_in, leaves_bytes, leaves-bytes, searched_after}
use Rattle.agreement.specs.AfterTroubleC.{StandsAsBytes, bytes_fit}
use Rattle.calls.specs.Form.{Meets, Form, Well}

-- what `tk_search` tells: how many codes it lists, or minus a refusal number; the list; and the counts
pub record ToldInC : Type 0 where
  pub answer : ℤ
  pub list : List ℕ
  pub resets : ℕ
  pub slots : ℕ

abbrev pub told : Search → ToldInC
told s = record { answer = search_number s.number s.answer; list = s.list; resets = s.resets; slots = s.slots }

-- `tk_event`: table and buffers lie anywhere, and the contract permits what is handed back and what they hold then
pub record PermitsEvent (e : Event) (x : LentBytes) (a : ℤ) (y : LentBytes) : Type 2 where
  pub κs : Lfts 3
  pub table : MutBor (List ℕ)
  pub images : MutBor (List ℕ)
  pub pads : MutBor (List ℕ)
  pub from_table : table.now ≡ x.table
  pub from_images : images.now ≡ x.images
  pub from_pads : pads.now ≡ x.pads
  pub permits : tk-event-reads.Learnt κs (table, (e.number, (e.chip, (e.outside, (images, (pads, tt)))))) a
      (at_exit tk-event.ended κs (table, (e.number, (e.chip, (e.outside, (images, (pads, tt)))))) (y.table, (tt, (tt, (tt, (y.images, (y.pads, tt)))))))

-- what it comes to, for all bytes
pub event-bytes : (e : Event) (x : LentBytes) (a : ℤ) (y : LentBytes) → PermitsEvent e x a y → event_left a y.table y.images y.pads ≡ event_bytes x.table e x.images x.pads
event-bytes e x a y p = p.permits ∙ λ i. event_bytes (p.from_table i) e (p.from_images i) (p.from_pads i)

pub event_is : (e : Event) (x : LentBytes) (a : ℤ) (y : LentBytes) → is_table x.table ≡ true → PermitsEvent e x a y
    → Meets a (answer_number (says_of e (of_lent (unpacked_lent x)))) (of_lent (unpacked_lent y)) (leaves_of e (of_lent (unpacked_lent x))) (is_table y.table ≡ true)
unfolding says_of event_bytes
event_is e x a y q p =
    let o = event-bytes e x a y p in
    let l = leaves-bytes (event_call e) x q in
    let k : y ≡ leaves_bytes (event_call e) x = ap (λ (z : EventLeft). record { table = z.table; images = z.images; pads = z.pads }) o in
    record {
      tells = ap (λ (z : EventLeft). z.answer) (o ∙ pick_true (is_table x.table) _ _ q);
      leaves = ap (λ (b : LentBytes). of_lent (unpacked_lent b)) k ∙ l.0;
      is-table = ap (λ (b : LentBytes). is_table b.table) k ∙ l.1;
    }

-- `tk_search`, likewise; what stood in the counts does not matter
pub record PermitsSearch (list : List ℕ) (x : LentBytes) (a : ToldInC) (y : LentBytes) : Type 2 where
  pub κs : Lfts 6
  pub table : MutBor (List ℕ)
  pub places : MutBor (List ℕ)
  pub images : MutBor (List ℕ)
  pub pads : MutBor (List ℕ)
  pub resets : MutBor ℕ
  pub slots : MutBor ℕ
  pub from_table : table.now ≡ x.table
  pub from_places : places.now ≡ list
  pub from_images : images.now ≡ x.images
  pub from_pads : pads.now ≡ x.pads
  pub permits : tk-search-reads.Learnt κs (table, (places, (images, (pads, (resets, (slots, tt)))))) a.answer
      (at_exit tk-search.ended κs (table, (places, (images, (pads, (resets, (slots, tt)))))) (y.table, (a.list, (y.images, (y.pads, (a.resets, (a.slots, tt)))))))

pub search-bytes : (list : List ℕ) (x : LentBytes) (a : ToldInC) (y : LentBytes) → PermitsSearch list x a y
    → search_left a.answer a.list y.table y.images y.pads a.resets a.slots ≡ search_bytes x.table list x.images x.pads
search-bytes list x a y p = p.permits ∙ λ i. search_bytes (p.from_table i) (p.from_places i) (p.from_images i) (p.from_pads i)

pub search_is : (list : List ℕ) (x : LentBytes) (a : ToldInC) (y : LentBytes) → is_table x.table ≡ true → PermitsSearch list x a y
    → Meets a (told (search_of list (of_lent (unpacked_lent x)))) (of_lent (unpacked_lent y)) (search_of list (of_lent (unpacked_lent x))).line (is_table y.table ≡ true)
search_is list x a y q p =
    let o = search-bytes list x a y p in
    let l = leaves-bytes (search_call list) x q in
    let k : y ≡ leaves_bytes (search_call list) x = ap (λ (z : SearchLeft). record { table = z.table; images = z.images; pads = z.pads }) o in
    record {
      tells = ap (λ (z : SearchLeft). record { answer = z.answer; list = z.list; resets = z.resets; slots = z.slots }) (o ∙ searched_after [] list x q);
      leaves = ap (λ (b : LentBytes). of_lent (unpacked_lent b)) k ∙ l.0;
      is-table = ap (λ (b : LentBytes). is_table b.table) k ∙ l.1;
    }

-- what `tk_slots` tells: how many slots it put on the line, or minus a refusal number; and the answers
pub record ToldSlotsInC : Type 0 where
  pub answer : ℤ
  pub answers : List ℕ

abbrev pub told_slots : RunOutcome → ToldSlotsInC
told_slots o = record { answer = slots_number o.answer; answers = o.answers }

-- `tk_slots`, likewise
pub record PermitsSlots (n : ℕ) (bits out : List ℕ) (x : LentBytes) (a : ToldSlotsInC) (y : LentBytes) : Type 2 where
  pub κs : Lfts 5
  pub table : MutBor (List ℕ)
  pub host : Bor (List ℕ)
  pub answers : MutBor (List ℕ)
  pub images : MutBor (List ℕ)
  pub pads : MutBor (List ℕ)
  pub from_table : table.now ≡ x.table
  pub from_host : host.now ≡ bits
  pub from_answers : answers.now ≡ out
  pub from_images : images.now ≡ x.images
  pub from_pads : pads.now ≡ x.pads
  pub permits : tk-slots-reads.Learnt κs (table, (host, (answers, (n, (images, (pads, tt)))))) a.answer
      (at_exit tk-slots.ended κs (table, (host, (answers, (n, (images, (pads, tt)))))) (y.table, (tt, (a.answers, (tt, (y.images, (y.pads, tt)))))))

pub slots-bytes : (n : ℕ) (bits out : List ℕ) (x : LentBytes) (a : ToldSlotsInC) (y : LentBytes) → PermitsSlots n bits out x a y
    → slots_left a.answer a.answers y.table y.images y.pads ≡ slots_in n bits out x
slots-bytes n bits out x a y p = p.permits ∙ λ i. slots_bytes (p.from_table i) (p.from_host i) (p.from_answers i) n (p.from_images i) (p.from_pads i)

pub slots_is : (n : ℕ) (bits out : List ℕ) (x : LentBytes) (a : ToldSlotsInC) (y : LentBytes) → is_table x.table ≡ true → PermitsSlots n bits out x a y
    → Meets a (told_slots (slots_on n bits out (of_lent (unpacked_lent x)))) (of_lent (unpacked_lent y)) (left_by_run (slots_on n bits out (of_lent (unpacked_lent x)))) (is_table y.table ≡ true)
unfolding slots_bytes
slots_is n bits out x a y q p =
    let o = slots-bytes n bits out x a y p in
    let l = leaves-bytes (slots_call n bits out) x q in
    let k : y ≡ leaves_bytes (slots_call n bits out) x = ap (λ (z : SlotsLeft). record { table = z.table; images = z.images; pads = z.pads }) o in
    record {
      tells = ap (λ (z : SlotsLeft). record { answer = z.answer; answers = z.answers }) (o ∙ pick_true (is_table x.table) _ _ q);
      leaves = ap (λ (b : LentBytes). of_lent (unpacked_lent b)) k ∙ l.0;
      is-table = ap (λ (b : LentBytes). is_table b.table) k ∙ l.1;
    }

abbrev pub in_c : Form
in_c = record {
  Loan = LentBytes;
  IsTable = λ x. is_table x.table ≡ true;
  table = λ x. of_lent (unpacked_lent x);
  Answer = ℤ;
  answer = answer_number;
  Listing = ToldInC;
  listing = told;
  Slots = ToldSlotsInC;
  slots = told_slots;
  PermitsEvent = PermitsEvent;
  PermitsSearch = PermitsSearch;
  PermitsSlots = PermitsSlots;
  event_is = event_is;
  search_is = search_is;
  slots_is = slots_is;
}

-- numbers below 256, as every `uint8_t` is, that neither 8 nor 5 refuses are such a table; its codes have 64 bits. That these are the bytes to
-- which `tk_search` answers neither -8 nor -5 is `given_neither_c`, in the crate `agreement`
pub bytes_well : (x : LentBytes) → StandsAsBytes x → Well in_c x
bytes_well x s = record { is-table = s.table; stands = s.stands }

pub bytes_codes : (x : LentBytes) → StandsAsBytes x → Codes (codes_of (line_from (of_lent (unpacked_lent x))))
bytes_codes x s = rw (codes_lent (unpacked_lent x)) (bytes_fit x s)

-- THEOREM: every call has an outcome that its contract permits, whatever is lent and however long it lives
pub some_event : Lfts 3 → (e : Event) (x : LentBytes) → PermitsEvent e x (event_bytes x.table e x.images x.pads).answer (leaves_bytes (event_call e) x)
some_event κs e x =
    record { κs = κs; table = lent_to_change x.table; images = lent_to_change x.images; pads = lent_to_change x.pads; from_table = refl; from_images = refl; from_pads = refl; permits = refl }

pub some_search : Lfts 6 → (list : List ℕ) (x : LentBytes) → let o = search_in list x in
    PermitsSearch list x (record { answer = o.answer; list = o.list; resets = o.resets; slots = o.slots }) (leaves_bytes (search_call list) x)
some_search κs list x =
    record {
      κs = κs;
      table = lent_to_change x.table;
      places = lent_to_change list;
      images = lent_to_change x.images;
      pads = lent_to_change x.pads;
      resets = lent_to_change 0;
      slots = lent_to_change 0;
      from_table = refl;
      from_places = refl;
      from_images = refl;
      from_pads = refl;
      permits = refl;
    }

pub some_slots : Lfts 5 → (n : ℕ) (bits out : List ℕ) (x : LentBytes) → let o = slots_in n bits out x in
    PermitsSlots n bits out x (record { answer = o.answer; answers = o.answers }) (leaves_bytes (slots_call n bits out) x)
some_slots κs n bits out x =
    record {
      κs = κs;
      table = lent_to_change x.table;
      host = lent_as bits;
      answers = lent_to_change out;
      images = lent_to_change x.images;
      pads = lent_to_change x.pads;
      from_table = refl;
      from_host = refl;
      from_answers = refl;
      from_images = refl;
      from_pads = refl;
      permits = refl;
    }
