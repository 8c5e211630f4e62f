-- Calls of `rounds::make_round` and `rounds::pages_asked`: whoever makes one is told what its contract says, and so what the theorems say.
use Rattle.std.specs.Prelude.{ℕ, ◌≤◌, Bool, true, false, List, [], ◌∷◌, ◌≡◌, refl, length, take, Result, Ok, Err}
use Rattle.line.specs.declared.Refusal.{Refusal}
use Rattle.std.proofs.Common.{sym, ◌∙◌, subst}
use contract.Lifetimes.{Lfts}
use Rattle.std.specs.Borrow.{MutBor}
use denote.Triple.Clauses.{at_exit}
use Rattle.base.specs.Lent.{lent_to_change}
use Rattle.base.specs.Pick.{pick}
use Rattle.line.specs.Attached.{Attached, attached, Stands, line_from}
use Rattle.line.specs.declared.Table.{Table}
use Rattle.search.specs.Search.{searched, complete_or4, outcome}
use Rattle.search.specs.declared.Fault.{Fault}
use Rattle.search.specs.declared.Fault.TheVariants as fault
use Rattle.search.specs.declared.Found.{Found}
use Rattle.rounds.specs.Borne.{only_borne, page_size, pages_most, pages_asked}
use Rattle.rounds.specs.Host.{round_host}
use Rattle.rounds.specs.Round.{Round, round, borne_on, round_verdict, round_by, round_of}
use Rattle.rounds.specs.contracts as rounds
use Rattle.rounds.proofs as rounds_proofs
use Rattle.histories.specs.Below.{Codes, Bytes}
use Rattle.histories.specs.Histories.{codes_of, stores_of}
use Rattle.histories.specs.Calls.{events_of}
use Rattle.histories.specs.SearchEvents.{RunOfEvents}
use Rattle.listing.proofs.Public.{order_of}
use Rattle.morning.specs.Page.{bearers_of, page_of, pages_of}
use Rattle.morning.specs.Counts.{codes_count, Sized, Counts, round_counts}
use Rattle.morning.specs.RoundEvents.{round_is_run}
use Rattle.morning.specs.Reads.{round_keeps, round_reads, round_reads_own}

-- a caller's table, by value
abbrev table_of : Attached → Table
table_of l = record { n = l.count; chips = l.lent.chips }

-- a call of `rounds::make_round` on a table: list, page buffer, images and scratchpads lie anywhere, and the contract permits what is handed back
-- and what they hold then
pub record MakeRound (list pages : List ℕ) (l : Attached) (r : Round) : Type 2 where
  pub κs : Lfts 4
  pub places : MutBor (List ℕ)
  pub buffer : MutBor (List ℕ)
  pub images : MutBor (List ℕ)
  pub pads : MutBor (List ℕ)
  pub from_places : places.now ≡ list
  pub from_buffer : buffer.now ≡ pages
  pub from_images : images.now ≡ l.lent.images
  pub from_pads : pads.now ≡ l.lent.pads
  pub back : Found
  pub permits : let k = r.found.line.lent in
      rounds_proofs.make_round.Reads.Learnt κs (table_of l, (places, (buffer, (images, (pads, tt))))) back
      (at_exit rounds.make_round.ended κs (table_of l, (places, (buffer, (images, (pads, tt))))) (tt, (r.found.list, (r.pages, (k.images, (k.pads, tt))))))
  pub answer : r.found.answer ≡ searched back.answer
  pub number : r.found.number ≡ back.listed
  pub resets : r.found.resets ≡ back.resets.0
  pub slots : r.found.slots ≡ back.slots.0
  pub table : table_of r.found.line ≡ back.table

-- it comes to what the definition says
pub round-by : (list pages : List ℕ) (l : Attached) (r : Round) → MakeRound list pages l r → r ≡ round_of list pages l
round-by list pages l r c =
    let k = r.found.line.lent in
    (λ j. round (outcome (c.answer j) (c.number j) r.found.list (c.resets j) (c.slots j) (attached (c.table j).n (c.table j).chips k.images k.pads)) r.pages)
    ∙ c.permits
    ∙ λ j. round_of (c.from_places j) (c.from_buffer j) (attached l.count l.lent.chips (c.from_images j) (c.from_pads j))

-- what a round tells of a table that neither 8 nor 5 refuses, with a page buffer of its size
pub record Told (list pages : List ℕ) (l : Attached) (r : Round) : Type 0 where
  pub counts : Counts list pages l r
  pub run : RunOfEvents r.found (events_of (round_host (length list) (borne_on l)) l) l
  pub keeps : stores_of (line_from r.found.line) ≡ stores_of (line_from l)
  pub reads : codes_count l ≤ length list → r.pages ≡ pages_of (only_borne (borne_on l) (order_of l)) (line_from l)
  pub own : Bytes l.lent.images → (code : ℕ) (m : List ℕ) → bearers_of code (line_from l) ≡ m ∷ [] → page_of code (line_from l) ≡ take page_size m

-- THEOREM: every call that the contract permits tells so
pub round_told : (list pages : List ℕ) (l : Attached) (r : Round) → MakeRound list pages l r → Stands l → Codes (codes_of (line_from l)) → Sized pages l → Told list pages l r
round_told list pages l r c s fits size =
    subst (Told list pages l) (sym (round-by list pages l r c))
    (record {
      counts = round_counts list pages l s fits size;
      run = round_is_run list pages l s size;
      keeps = round_keeps list pages l s fits size;
      reads = round_reads list pages l s fits size;
      own = round_reads_own l s fits;
    })

-- ---- there are such calls

complete_for : (b : Bool) → (a : Result (Unit {0}) Fault) × (searched a ≡ complete_or4 b)
unfolding pick
complete_for true = (Ok tt, refl)
complete_for false = (Err fault.TooFewPlaces, refl)

answer-for : (v : Result (Unit {0}) Refusal) (list pages : List ℕ) (l : Attached) → (a : Result (Unit {0}) Fault) × (searched a ≡ (round_by v list pages l).found.answer)
answer-for (Ok tt) list pages l = complete_for _
answer-for (Err r) list pages l = (Err (fault.Refused r), refl)

-- THEOREM: every call has an outcome that its contract permits, whatever is lent and however long it lives
pub some_round : Lfts 4 → (list pages : List ℕ) (l : Attached) → MakeRound list pages l (round_of list pages l)
unfolding round_of
some_round κs list pages l =
    let o = (round_of list pages l).found in
    let q = answer-for (round_verdict pages l) list pages l in
    record {
      κs = κs;
      places = lent_to_change list;
      buffer = lent_to_change pages;
      images = lent_to_change l.lent.images;
      pads = lent_to_change l.lent.pads;
      from_places = refl;
      from_buffer = refl;
      from_images = refl;
      from_pads = refl;
      back = record { answer = q.0; listed = o.number; resets = record { 0 = o.resets }; slots = record { 0 = o.slots }; table = table_of o.line };
      permits = λ j. round (outcome (q.1 j) o.number o.list o.resets o.slots o.line) (round_of list pages l).pages;
      answer = sym q.1;
      number = refl;
      resets = refl;
      slots = refl;
      table = refl;
    }

-- a call of `rounds::pages_asked`: "A function answers the size of page buffer that a table asks, at most 512."
pub pages_told : (κs : Lfts 0) (t : Table) (size : ℕ) → rounds_proofs.pages_asked.Reads.Learnt κs (t, tt) size (at_exit rounds.pages_asked.ended κs (t, tt) (tt, tt))
    → (size ≡ pages_asked t.n t.chips) × (size ≤ pages_most)
pages_told κs t size p = p
