-- Laws: how a round is judged, and what its search and its pages come to together.
use Rattle.std.specs.Prelude.{ℕ, ◌+◌, ◌*◌, ◌≤◌, Bool, true, false, ◌≡◌, refl, eqb, length, take, drop, Result, Ok, Err}
use Rattle.std.proofs.Common.{arith, add-zero, true≢false, ◌∙◌, length-append}
use mathlib.Core.List.{List, []}
use Rattle.std.proofs.Math.Path.{sym, ap}
use Rattle.std.proofs.Math.Seq.{sets, take-append_seam}
use Rattle.base.specs.Pick.{pick, pick_true, pick_false}
use Rattle.chip.specs.declared.Chip.{Chip}
use Rattle.line.specs.Attached.{Attached, attached}
use Rattle.line.specs.Event.{table_in_range, sizes_fit, verdict_of}
use Rattle.line.specs.declared.Refusal.{Refusal}
use Rattle.line.specs.declared.Refusal.TheVariants.{OutOfRange, WrongSize}
use Rattle.search.specs.Host.{Host, done, Played, played, more, play, Listed, search_host}
use Rattle.search.specs.Counts.{play_bind}
use Rattle.search.specs.Search.{Searched, complete, refused, complete_or4, wire, Search, outcome, from_played, search_by, search_of}
use Rattle.rounds.specs.Borne.{only_borne, pages_asked}
use Rattle.rounds.specs.Host.{Rounded, rounded, read_pages, then_pages, round_host}
use Rattle.rounds.specs.Round.{Round, round, round_verdict, from_round, round_by, round_of}
use Rattle.rounds.specs.Reading.{PutAt}
use Rattle.rounds.specs.Spends.{pages_spend, search_spends}

-- ---- the verdict

-- two verdicts that are not the same
abbrev is_well : Result (Unit {0}) Refusal → Bool
is_well (Ok tt) = true
is_well (Err r) = false

-- by three tests, in order
abbrev judged_by : Bool → Bool → Bool → Result (Unit {0}) Refusal
judged_by range sizes pages = pick range (pick sizes (pick pages (Ok tt) (Err WrongSize)) (Err WrongSize)) (Err OutOfRange)

-- by two
abbrev stood_by : Bool → Bool → Result (Unit {0}) Refusal
stood_by range sizes = pick range (pick sizes (Ok tt) (Err WrongSize)) (Err OutOfRange)

well_then : (range sizes pages : Bool) → Ok tt ≡ stood_by range sizes → judged_by range sizes pages ≡ pick pages (Ok tt) (Err WrongSize)
unfolding pick
well_then true true pages e = refl
well_then true false pages e = absurd (true≢false (ap is_well e))
well_then false sizes pages e = absurd (true≢false (ap is_well e))

refused_too : (range sizes pages : Bool) (r : Refusal) → Err r ≡ stood_by range sizes → Err r ≡ judged_by range sizes pages
unfolding pick
refused_too true true pages r e = absurd (true≢false (sym (ap is_well e)))
refused_too true false pages r e = e
refused_too false sizes pages r e = e

module _ (n : ℕ) (cs : List Chip) (ms ss pages : List ℕ) (asked : ℕ) (ea : asked ≡ pages_asked n cs) where
  abbrev fits : Bool
  fits = eqb (length pages) (pages_asked n cs)

  pub stands_well : Ok tt ≡ verdict_of n cs ms ss → eqb (length pages) asked ≡ true → Ok tt ≡ round_verdict pages (attached n cs ms ss)
  unfolding round_verdict verdict_of
  stands_well e f = sym (well_then (table_in_range n cs) (sizes_fit n cs ms ss) fits e ∙ pick_true fits _ _ (ap (eqb (length pages)) (sym ea) ∙ f))

  pub stands_wrong : Ok tt ≡ verdict_of n cs ms ss → eqb (length pages) asked ≡ false → Err WrongSize ≡ round_verdict pages (attached n cs ms ss)
  unfolding round_verdict verdict_of
  stands_wrong e f = sym (well_then (table_in_range n cs) (sizes_fit n cs ms ss) fits e ∙ pick_false fits _ _ (ap (eqb (length pages)) (sym ea) ∙ f))

pub stands_refused : (n : ℕ) (cs : List Chip) (ms ss pages : List ℕ) (q : Result (Unit {0}) Refusal) (r : Refusal) → q ≡ verdict_of n cs ms ss → q ≡ Err r
    → Err r ≡ round_verdict pages (attached n cs ms ss)
unfolding round_verdict verdict_of
stands_refused n cs ms ss pages q r h e = refused_too (table_in_range n cs) (sizes_fit n cs ms ss) (eqb (length pages) (pages_asked n cs)) r (sym e ∙ h)

-- a round that is judged well stood well before its page buffer was looked at
round_stood : (range sizes pages : Bool) → Ok tt ≡ judged_by range sizes pages → Ok tt ≡ stood_by range sizes
unfolding pick
round_stood true true pages e = refl
round_stood true false pages e = e
round_stood false sizes pages e = e

pub well_stood : (n : ℕ) (cs : List Chip) (ms ss pages : List ℕ) → Ok tt ≡ round_verdict pages (attached n cs ms ss) → Ok tt ≡ verdict_of n cs ms ss
unfolding round_verdict verdict_of
well_stood n cs ms ss pages e = round_stood (table_in_range n cs) (sizes_fit n cs ms ss) (eqb (length pages) (pages_asked n cs)) e

-- a round, taken at what the table was judged to
pub round_at : (l : Attached) (list pages : List ℕ) (q p : Result (Unit {0}) Refusal) (r : Round) → q ≡ round_verdict pages l → q ≡ p → r ≡ round_by p list pages l → r ≡ round_of list pages l
unfolding round_of
round_at l list pages q p r h e k = k ∙ ap (λ (v : Result (Unit {0}) Refusal). round_by v list pages l) (sym e ∙ h)

-- ---- the search and the pages

-- a search on a table that stands well puts its events on the line
pub search_well : (list : List ℕ) (l : Attached) (s : Search) → Ok tt ≡ verdict_of l.count l.lent.chips l.lent.images l.lent.pads
    → s ≡ search_of list l → s ≡ from_played list (play wire (search_host (length list)) l)
unfolding search_of
search_well list l s e k = k ∙ ap (λ (v : Result (Unit {0}) Refusal). search_by v list l) (sym e)

-- what it answers says whether its list is complete
complete_at : (b : Bool) → complete ≡ complete_or4 b → b ≡ true
unfolding pick
complete_at true e = refl
complete_at false e = cc

few_at : (b : Bool) (n : ℕ) → refused n ≡ complete_or4 b → b ≡ false
unfolding pick
few_at true n e = cc
few_at false n e = refl

module _ (list : List ℕ) (l : Attached) (answer : Searched) (listed : ℕ) (after : List ℕ) (resets slots : ℕ) (l₁ : Attached)
    (e : outcome answer listed after resets slots l₁ ≡ from_played list (play wire (search_host (length list)) l)) where
  -- what the search came to
  abbrev p : Played Listed Attached
  p = play wire (search_host (length list)) l

  abbrev codes : List ℕ
  codes = p.result.codes

  -- the codes listed are the first of the list
  codes_are : take listed after ≡ codes
  codes_are =
      (λ j. take (e j).number (e j).list) ∙ take-append_seam codes (drop (length codes) list)

  pub listed_few : listed ≤ 16
  listed_few = let k = ap (λ (s : Search). s.number) e in let m = (search_spends (length list)).comes wire l in omega arith

  pub listed_room : listed ≤ length after
  listed_room = let k = ap (λ (s : Search). s.number) e in let m = ap (λ (s : Search). length s.list) e ∙ length-append codes (drop (length codes) list) in omega arith

  pub resets_few : resets ≤ 17
  resets_few = let k = ap (λ (s : Search). s.resets) e in let m = (search_spends (length list)).resets wire l in omega arith

  pub slots_few : slots ≤ 3200
  slots_few = let k = ap (λ (s : Search). s.slots) e in let m = (search_spends (length list)).slots wire l in omega arith

  -- what the search answers
  answer_is : answer ≡ complete_or4 p.result.complete
  answer_is = ap (λ (s : Search). s.answer) e

  module _ (pages borne : List ℕ) where
    -- the round, by how the search ended
    went : play wire (round_host (length list) borne) l ≡ more p.resets p.slots (play wire (then_pages borne p.result) p.line)
    went = play_bind wire (search_host (length list)) (then_pages borne) l

    -- 4: no page is read
    pub round_stops : (n : ℕ) → answer ≡ refused n
        → round (outcome answer listed after resets slots l₁) pages ≡ from_round list pages (play wire (round_host (length list) borne) l)
    unfolding play
    round_stops n f =
        let h : play wire (round_host (length list) borne) l ≡ played (rounded p.result []) p.line p.resets p.slots
        = went ∙ ap (λ (k : Host Rounded). more p.resets p.slots (play wire k p.line)) (pick_false p.result.complete _ _ (few_at p.result.complete n (sym f ∙ answer_is)))
        ∙ (λ j. played (rounded p.result []) p.line (add-zero p.resets j) (add-zero p.slots j)) in
        ap (λ (s : Search). round s pages) e ∙ ap (from_round list pages) (sym h)

    -- the list is complete: the pages of the codes that are borne are read
    module _ (pages₂ : List ℕ) (l₂ : Attached) (count : ℕ) (put : PutAt 0 pages pages₂ l₂ (play wire (read_pages (only_borne borne (take listed after)) []) l₁))
        (counted : count ≡ length (only_borne borne (take listed after))) where
      abbrev q : Played (List ℕ) Attached
      q = play wire (read_pages (only_borne borne codes) []) p.line

      q_is : play wire (read_pages (only_borne borne (take listed after)) []) l₁ ≡ q
      q_is = λ j. play wire (read_pages (only_borne borne (codes_are j)) []) (e j).line

      count_is : count ≡ length (only_borne borne codes)
      count_is = counted ∙ ap (λ (cs : List ℕ). length (only_borne borne cs)) codes_are

      pub round_reads_on : answer ≡ complete
          → round (outcome answer listed after (resets + count) (slots + 352 * count) l₂) pages₂ ≡ from_round list pages (play wire (round_host (length list) borne) l)
      unfolding play
      round_reads_on f =
          let s = pages_spend (only_borne borne codes) [] in
          let h : play wire (round_host (length list) borne) l ≡ played (rounded p.result q.result) q.line (p.resets + count) (p.slots + 352 * count)
          = went ∙ ap (λ (k : Host Rounded). more p.resets p.slots (play wire k p.line)) (pick_true p.result.complete _ _ (complete_at p.result.complete (sym f ∙ answer_is)))
          ∙ ap (more p.resets p.slots) (play_bind wire (read_pages (only_borne borne codes) []) (λ (bytes : List ℕ). done (rounded p.result bytes)) p.line)
          ∙ (λ j. played (rounded p.result q.result) q.line
          (p.resets + (add-zero q.resets ∙ s.resets wire p.line ∙ sym count_is) j)
          (p.slots + (add-zero q.slots ∙ s.slots wire p.line ∙ ap (λ (k : ℕ). 352 * k) (sym count_is)) j)) in
          (λ j. round (outcome (e j).answer (e j).number (e j).list ((e j).resets + count) ((e j).slots + 352 * count)
          ((put.1 ∙ ap (λ (x : Played (List ℕ) Attached). x.line) q_is) j))
          ((put.0 ∙ ap (λ (x : Played (List ℕ) Attached). sets pages 0 x.result) q_is) j))
          ∙ ap (from_round list pages) (sym h)
