-- M-108, "How long is a morning round?". Ruled: slots are 200 n + 352 m, at most 8,832 with 16 chips; resets are n (1 if n is 0) and m
-- more, counted apart; under refusal 4 both counts are the search's.
use Rattle.std.specs.Prelude.{ℕ, max, ◌+◌, ◌*◌, ◌<◌, ◌≤◌, true, List, [], ◌++◌, ◌≡◌, refl, leb, length, take, drop, Result, Ok}
use Rattle.line.specs.declared.Refusal.{Refusal}
use Rattle.std.proofs.Common.{arith, append-nil, sym, ◌∙◌, drop_of_length-le, take_all, length-take-le}
use Rattle.std.proofs.Math.Path.{ap}
use Rattle.std.proofs.Math.Seq.{take-append_seam}
use Rattle.std.proofs.lemmas.List.Edits.{sets}
use borrow.Author.Tests.{le-leb, lt-leb, eq-eqb}
use Rattle.base.specs.Pick.{pick_true, pick_false}
use Rattle.base.specs.Once.{once_each, distinct_in, once_in, in_once}
use Rattle.base.specs.Exactly.{Iff}
use Rattle.line.specs.Attached.{Attached, Stands, line_from}
use Rattle.line.specs.Event.{table_in_range}
use Rattle.line.specs.Refusals.{well_judged, in_range_few}
use Rattle.search.specs.Host.{play, search_host}
use Rattle.search.specs.Search.{complete, refused, wire, Search, outcome, from_played, search_of}
use Rattle.rounds.specs.Borne.{only_borne, page_size, pages_asked}
use Rattle.rounds.specs.Host.{read_pages, round_host}
use Rattle.rounds.specs.Round.{Round, round, borne_on, round_verdict, from_round, round_by, round_of}
use Rattle.rounds.specs.Rounds.{search_well, round_stops, round_reads_on}
use Rattle.histories.specs.Below.{Codes}
use Rattle.histories.specs.Histories.{codes_of}
use Rattle.listing.specs.Order.{SameMembers}
use Rattle.listing.proofs.Count.{once_distinct, no_more, order_distinct}
use Rattle.listing.proofs.Public.{order_of, search_finds}
use Rattle.morning.specs.Bearing.{borne_listed, borne_few, codes_few}

-- ruled: n is the number of distinct codes
abbrev pub codes_count : Attached → ℕ
codes_count l = distinct_in (codes_of (line_from l))

-- ruled: m of them are borne by a DS28EC20 (which, says borne-exactly)
abbrev pub borne_count : Attached → ℕ
borne_count l = distinct_in (borne_on l)

-- a page buffer has the size that the table asks
abbrev pub Sized : List ℕ → Attached → Type 0
Sized pages l = length pages ≡ pages_asked l.count l.lent.chips

-- THEOREM: a page buffer is of 32 m bytes, m being that of the whole table (ruled): 32 m is what a table asks that 8 does not refuse
pub pages_asked_are : (l : Attached) → table_in_range l.count l.lent.chips ≡ true → pages_asked l.count l.lent.chips ≡ page_size * borne_count l
unfolding pages_asked
pages_asked_are l h = pick_true (leb l.count 16) _ 0 (le-leb l.count 16 (in_range_few l.count l.lent.chips h))

-- so a page buffer has its size exactly where it has 32 m bytes
pub sized_exactly : (pages : List ℕ) (l : Attached) → table_in_range l.count l.lent.chips ≡ true → Iff (Sized pages l) (length pages ≡ page_size * borne_count l)
sized_exactly pages l h = let e = pages_asked_are l h in ((λ k. k ∙ e), (λ k. k ∙ sym e))

-- lists with the same members have as many distinct ones
same_distinct : (xs ys : List ℕ) → SameMembers xs ys → distinct_in xs ≡ distinct_in ys
same_distinct xs ys m =
    let a = no_more (once_each xs) (once_each ys) (once_distinct xs) (λ x i. in_once x ys ((m x).0 (once_in x xs i))) in
    let b = no_more (once_each ys) (once_each xs) (once_distinct ys) (λ x i. in_once x xs ((m x).1 (once_in x ys i))) in
    omega arith

-- THEOREM: n and m go by the set of codes (ruled): tables with the same codes, and the same ones of them borne, however often and in whatever order, have
-- the same n and m
pub counts_by_codes : (l k : Attached) → SameMembers (codes_of (line_from l)) (codes_of (line_from k)) → SameMembers (borne_on l) (borne_on k)
    → (codes_count l ≡ codes_count k) × (borne_count l ≡ borne_count k)
counts_by_codes l k c b = (same_distinct (codes_of (line_from l)) (codes_of (line_from k)) c, same_distinct (borne_on l) (borne_on k) b)

-- what a round answers, lists and counts where its list has a place for each code
pub record Complete (places : List ℕ) (l : Attached) (s : Search) : Type 0 where
  pub answer : s.answer ≡ complete
  pub number : s.number ≡ codes_count l
  pub list : s.list ≡ order_of l ++ drop (codes_count l) places
  pub slots : s.slots ≡ 200 * codes_count l + 352 * borne_count l
  pub resets : s.resets ≡ max 1 (codes_count l) + borne_count l
  pub most : s.slots ≤ 8832
  pub codes : codes_count l ≤ 16
  pub borne : borne_count l ≤ codes_count l

-- and where it has fewer (ruled): the list filled to its end, no page read, the buffer as found, and all else is the search's
pub record TooFew (places buffer : List ℕ) (l : Attached) (r : Round) : Type 0 where
  pub searched : r ≡ round (search_of places l) buffer
  pub answer : r.found.answer ≡ refused 4
  pub number : r.found.number ≡ length places
  pub list : r.found.list ≡ take (length places) (order_of l)
  pub slots : r.found.slots ≡ 200 * length places
  pub resets : r.found.resets ≡ max 1 (length places)
  pub pages : r.pages ≡ buffer

-- a round by its counts: where the list has a place for each code, and where it has not
pub record Counts (list pages : List ℕ) (l : Attached) (r : Round) : Type 0 where
  pub enough : codes_count l ≤ length list → Complete list l r.found
  pub short : length list < codes_count l → TooFew list pages l r

module _ (list pages : List ℕ) (l : Attached) (s : Stands l) (size : Sized pages l) where
  -- a round on a table that stands well, with a page buffer of its size, puts its events on the line
  pub round_well : round_of list pages l ≡ from_round list pages (play wire (round_host (length list) (borne_on l)) l)
  unfolding round_of round_verdict
  round_well =
      let v : round_verdict pages l ≡ Ok tt = simp (s.range, s.sizes, eq-eqb (length pages) (pages_asked l.count l.lent.chips) size, pick_true) in
      ap (λ (q : Result (Unit {0}) Refusal). round_by q list pages l) v

  -- and so does its search
  searches : search_of list l ≡ from_played list (play wire (search_host (length list)) l)
  searches = search_well list l (search_of list l) (sym (well_judged l.count l.lent.chips l.lent.images l.lent.pads s.range s.sizes)) refl

  -- what the search comes to
  abbrev q : Search
  q = search_of list l

  -- under 4 the round is its search
  stops : q.answer ≡ refused 4 → round_of list pages l ≡ round q pages
  stops f = round_well ∙ sym (round_stops list l q.answer q.number q.list q.resets q.slots q.line searches pages (borne_on l) 4 f)

  -- the codes whose pages are read
  abbrev to_read : List ℕ
  to_read = only_borne (borne_on l) (take q.number q.list)

  -- what the round comes to with a page for each of them
  abbrev after : Search
  after =
      outcome q.answer q.number q.list (q.resets + length to_read) (q.slots + 352 * length to_read) (play wire (read_pages to_read []) q.line).line

  -- where the list is complete
  goes-on : q.answer ≡ complete → (round_of list pages l).found ≡ after
  goes-on f =
      ap (λ (r : Round). r.found) (round_well
      ∙ sym (round_reads_on list l q.answer q.number q.list q.resets q.slots q.line searches pages (borne_on l)
      (sets pages 0 (play wire (read_pages to_read []) q.line).result) (play wire (read_pages to_read []) q.line).line (length to_read) (refl, refl) refl f))

  module _ (fits : Codes (codes_of (line_from l))) where
    -- as many codes are listed as there are distinct ones
    n_is : length (order_of l) ≡ codes_count l
    n_is = order_distinct (codes_of (line_from l)) fits

    -- a place for each code
    with-places : codes_count l ≤ length list → Complete list l (round_of list pages l).found
    with-places h =
        let found = search_finds list l s fits in
        let whole : take (length list) (order_of l) ≡ order_of l = take_all (length list) (order_of l) (let e = n_is in omega arith) in
        let answer : q.answer ≡ complete = found.answer ∙ pick_true (leb (length (order_of l)) (length list)) complete (refused 4) (le-leb (length (order_of l)) (length list) (let e = n_is in omega arith)) in
        let number : q.number ≡ codes_count l = found.number ∙ ap length whole ∙ n_is in
        let lists : q.list ≡ order_of l ++ drop (codes_count l) list = found.list ∙ (λ j. whole j ++ drop ((ap length whole ∙ n_is) j) list) in
        let first : take q.number q.list ≡ order_of l
        = (λ j. take ((found.number ∙ ap length whole) j) (lists j)) ∙ take-append_seam (order_of l) (drop (codes_count l) list) in
        let m : length to_read ≡ borne_count l = ap (λ (cs : List ℕ). length (only_borne (borne_on l) cs)) first ∙ borne_listed l fits in
        let g = goes-on answer in
        let slots : (round_of list pages l).found.slots ≡ 200 * codes_count l + 352 * borne_count l
        = ap (λ (x : Search). x.slots) g ∙ (λ j. (found.slots ∙ ap (λ (k : ℕ). 200 * k) (ap length whole ∙ n_is)) j + 352 * m j) in
        let codes = codes_few l s in
        let borne = borne_few l in
        record {
          answer = ap (λ (x : Search). x.answer) g ∙ answer;
          number = ap (λ (x : Search). x.number) g ∙ number;
          list = ap (λ (x : Search). x.list) g ∙ lists;
          slots = slots;
          resets = ap (λ (x : Search). x.resets) g ∙ (λ j. (found.resets ∙ ap (λ (k : ℕ). max 1 k) (ap length whole ∙ n_is)) j + m j);
          most = omega arith;
          codes = codes;
          borne = borne;
        }

    -- fewer places
    without_places : length list < codes_count l → TooFew list pages l (round_of list pages l)
    without_places h =
        let found = search_finds list l s fits in
        let cut : length (take (length list) (order_of l)) ≡ length list = length-take-le (length list) (order_of l) (let e = n_is in omega arith) in
        let answer : q.answer ≡ refused 4 = found.answer ∙ pick_false (leb (length (order_of l)) (length list)) complete (refused 4) (lt-leb (length (order_of l)) (length list) (let e = n_is in omega arith)) in
        let none : drop (length (take (length list) (order_of l))) list ≡ [] = drop_of_length-le list {i = length (take (length list) (order_of l))} (omega arith) in
        let g = stops answer in
        record {
          searched = g;
          answer = ap (λ (r : Round). r.found.answer) g ∙ answer;
          number = ap (λ (r : Round). r.found.number) g ∙ found.number ∙ cut;
          list = ap (λ (r : Round). r.found.list) g ∙ found.list ∙ ap (λ (xs : List ℕ). take (length list) (order_of l) ++ xs) none ∙ append-nil (take (length list) (order_of l));
          slots = ap (λ (r : Round). r.found.slots) g ∙ found.slots ∙ ap (λ (k : ℕ). 200 * k) cut;
          resets = ap (λ (r : Round). r.found.resets) g ∙ found.resets ∙ ap (λ (k : ℕ). max 1 k) cut;
          pages = ap (λ (r : Round). r.pages) g;
        }

-- THEOREM: on a table that neither 8 nor 5 refuses, with a page buffer of its size, the round takes 200 n + 352 m slots, and n resets (1 if n
-- is 0) and m more; under 4 both counts are the search's
pub round_counts : (list pages : List ℕ) (l : Attached) → Stands l → Codes (codes_of (line_from l)) → Sized pages l → Counts list pages l (round_of list pages l)
round_counts list pages l s fits size = record { enough = with-places list pages l s size fits; short = without_places list pages l s size fits }
