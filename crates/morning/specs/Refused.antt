-- M-108, ruled: refusals 8; 5 for images or scratchpads; 5 for a page buffer not of 32 m bytes, m being that of the whole table; these
-- without an event, counts 0, list and pages as found. Then 4: list filled to its end, no page read, the buffer as found. Each exactly when,
-- for every input, and what it leaves.
use Rattle.std.specs.Prelude.{ℕ, ◌<◌, ◌≤◌, Bool, true, false, List, ◌⊎◌, ◌≡◌, refl, eqb, leb, length, Result}
use Rattle.line.specs.declared.Refusal.{Refusal}
use Rattle.std.proofs.Common.{arith, true≢false, inl, inr, sym, ◌∙◌, leb-true, leb-false, eqb-true}
use Rattle.std.proofs.Math.Path.{ap}
use Rattle.base.specs.Pick.{pick, pick_if, pick_of}
use Rattle.base.specs.Exactly.{Iff, No, itself, then_exactly, or_exactly, unequal_exactly, by_else, by_then, by_neither}
use Rattle.line.specs.Attached.{Attached, Stands, line_from}
use Rattle.line.specs.Event.{table_in_range, sizes_fit}
use Rattle.line.specs.Refusals.{in_range_few}
use Rattle.search.specs.Host.{play}
use Rattle.search.specs.Search.{Searched, complete, refused, complete_or4, wire, outcome}
use Rattle.rounds.specs.Borne.{pages_asked}
use Rattle.rounds.specs.Host.{round_host}
use Rattle.rounds.specs.Round.{Round, round, borne_on, round_verdict, round_by, round_of}
use Rattle.histories.specs.Below.{Codes}
use Rattle.histories.specs.Histories.{codes_of}
use Rattle.refusals.specs.Search.{numbered, not_complete}
use Rattle.morning.specs.Counts.{codes_count, Sized, TooFew, round_counts}

-- two tests in order, under one refusal: it is given exactly when one of them fails
by_two : {A : Type 0} (t u : Bool) (a b : A) → (a ≡ b → ⊥) → Iff (pick t (pick u a b) b ≡ b) ((t ≡ false) ⊎ (u ≡ false))
unfolding pick
by_two true true a b n = ((λ e. absurd (n e)), no)
  where
    no : (true ≡ false) ⊎ (true ≡ false) → a ≡ b
    no (inl e) = absurd (true≢false e)
    no (inr e) = absurd (true≢false e)
by_two true false a b n = ((λ e. inr refl), (λ e. refl))
by_two false u a b n = ((λ e. inl refl), (λ e. refl))

module _ (list pages : List ℕ) (l : Attached) where
  -- what is tested: the table's ranges, the sizes of images and scratchpads, the size of the page buffer
  abbrev ranged : Bool
  ranged = table_in_range l.count l.lent.chips

  abbrev sized : Bool
  sized = sizes_fit l.count l.lent.chips l.lent.images l.lent.pads

  abbrev asked : Bool
  asked = eqb (length pages) (pages_asked l.count l.lent.chips)

  -- whether the host found no code more than its places
  abbrev whole : Bool
  whole = (play wire (round_host (length list) (borne_on l)) l).result.listed.complete

  -- what the round answers
  abbrev answer : Searched
  answer = (round_of list pages l).found.answer

  -- the round is refused by r exactly when something holds, and then leaves something
  pub record RefusedBy (r : ℕ) (Holds Leaves : Type 0) : Type 0 where
    pub exactly : Iff ((round_of list pages l).found.answer ≡ refused r) Holds
    pub leaves : (round_of list pages l).found.answer ≡ refused r → Leaves

  -- ruled: without an event, counts 0, list and pages as found
  abbrev pub Eventless : ℕ → Type 0
  Eventless r = round_of list pages l ≡ round (outcome (refused r) 0 list 0 0 l) pages

  -- the answer by these tests, in order
  answer_is : answer ≡ pick ranged (pick sized (pick asked (complete_or4 whole) (refused 5)) (refused 5)) (refused 8)
  unfolding round_of round_verdict
  answer_is =
      let f : Result (Unit {0}) Refusal → Searched = λ (v : Result (Unit {0}) Refusal). (round_by v list pages l).found.answer in
      pick_of f _ _ _
      ∙ ap (λ (x : Searched). pick ranged x (refused 8)) (pick_of f _ _ _ ∙ ap (λ (x : Searched). pick sized x (refused 5)) (pick_of f _ _ _))

  answers : (s : ℕ) {B : Type 0} → Iff (pick ranged (pick sized (pick asked (complete_or4 whole) (refused 5)) (refused 5)) (refused 8) ≡ refused s) B → Iff (answer ≡ refused s) B
  answers s i = ((λ p. i.0 (sym answer_is ∙ p)), (λ p. answer_is ∙ i.1 p))

  -- a round that put its events on the line is refused by nothing but 4
  past_4 : (s : ℕ) → (4 ≡ s → ⊥) → complete_or4 whole ≡ refused s → ⊥
  past_4 s k = by_neither whole _ _ _ (not_complete s) (numbered 4 s k)

  -- under 8 and 5 no event was put on the line
  abbrev Plain : Round → Type 0
  Plain o = (r : ℕ) → (r ≡ 4 → ⊥) → o.found.answer ≡ refused r → o ≡ round (outcome (refused r) 0 list 0 0 l) pages

  plainly : (s : ℕ) → Plain (round (outcome (refused s) 0 list 0 0 l) pages)
  plainly s r k p = ap (λ (x : Searched). round (outcome x 0 list 0 0 l) pages) p

  eventless : (r : ℕ) → (r ≡ 4 → ⊥) → answer ≡ refused r → Eventless r
  unfolding round_of round_verdict
  eventless =
      pick_if (λ (v : Result (Unit {0}) Refusal). Plain (round_by v list pages l)) _ _ _
      (λ a. pick_if (λ (v : Result (Unit {0}) Refusal). Plain (round_by v list pages l)) _ _ _
      (λ b. pick_if (λ (v : Result (Unit {0}) Refusal). Plain (round_by v list pages l)) _ _ _ (λ c r k p. absurd (past_4 r (λ q. k (sym q)) p)) (λ c. plainly 5))
      (λ b. plainly 5))
      (λ a. plainly 8)

  -- THEOREM: 8 is given exactly when the table has over 16 chips or a field lies outside its range
  pub round_refused_8 : RefusedBy 8 (table_in_range l.count l.lent.chips ≡ false) (Eventless 8)
  round_refused_8 =
      record {
        exactly = answers 8 (by_else ranged _ _ (by_neither sized _ _ _ (by_neither asked _ _ _ (past_4 8 (λ p. omega arith)) (numbered 5 8 (λ p. omega arith))) (numbered 5 8 (λ p. omega arith))));
        leaves = eventless 8 (λ p. omega arith);
      }

  -- THEOREM: 5 is given exactly when 8 is not, and images or scratchpads have not the sizes that the table asks, or the page buffer has not
  pub round_refused_5 : RefusedBy 5
      ((table_in_range l.count l.lent.chips ≡ true) × ((sizes_fit l.count l.lent.chips l.lent.images l.lent.pads ≡ false) ⊎ No (Sized pages l)))
      (Eventless 5)
  round_refused_5 =
      record {
        exactly = answers 5 (by_then _ ranged _ _ _ (numbered 8 5 (λ p. omega arith))
            (then_exactly (by_two sized asked _ _ (past_4 5 (λ p. omega arith))) (or_exactly itself (unequal_exactly (length pages) (pages_asked l.count l.lent.chips)))));
        leaves = eventless 5 (λ p. omega arith);
      }

  -- the places of a table hold its chips where it has at most 16: a `Table` has 16 places, a slice as many as chips
  module _ (places : l.count ≤ 16 → l.count ≤ length l.lent.chips) (fits : Codes (codes_of (line_from l))) where
    -- what is refused by neither stands well, and its page buffer has its size
    neither : (a b c : Bool) → ranged ≡ a → sized ≡ b → asked ≡ c → (answer ≡ refused 8 → ⊥) → (answer ≡ refused 5 → ⊥) → Stands l × Sized pages l
    neither true true true e f g n m =
        (record { range = e; sizes = f; places = places (in_range_few l.count l.lent.chips e) }, eqb-true (length pages) (pages_asked l.count l.lent.chips) g)
    neither true true false e f g n m = absurd (m (round_refused_5.exactly.1 (e, inr ((unequal_exactly (length pages) (pages_asked l.count l.lent.chips)).0 g))))
    neither true false c e f g n m = absurd (m (round_refused_5.exactly.1 (e, inl f)))
    neither false b c e f g n m = absurd (n (round_refused_8.exactly.1 e))

    -- then the round went by its places
    went : {a : Searched} {B : Type 0} → (a ≡ refused 8 → ⊥) → (a ≡ refused 5 → ⊥) → (Stands l → Sized pages l → Iff (answer ≡ a) B) → Iff (answer ≡ a) (Stands l × (Sized pages l × B))
    went n m i = (
      (λ e. let s = neither ranged sized asked refl refl refl (λ p. n (sym e ∙ p)) (λ p. m (sym e ∙ p)) in (s.0, (s.1, (i s.0 s.1).0 e))),
      (λ p. (i p.0 p.1.0).1 p.1.1),
    )

    module _ (s : Stands l) (size : Sized pages l) where
      -- by its answer there were too few places, or enough
      few : answer ≡ refused 4 → length list < codes_count l
      few e = go (leb (codes_count l) (length list)) refl
        where
          go : (t : Bool) → leb (codes_count l) (length list) ≡ t → length list < codes_count l
          go true h = absurd (not_complete 4 (sym ((round_counts list pages l s fits size).enough (leb-true (codes_count l) (length list) h)).answer ∙ e))
          go false h = leb-false (codes_count l) (length list) h

      enough : answer ≡ complete → codes_count l ≤ length list
      enough e = go (leb (codes_count l) (length list)) refl
        where
          go : (t : Bool) → leb (codes_count l) (length list) ≡ t → codes_count l ≤ length list
          go true h = leb-true (codes_count l) (length list) h
          go false h = absurd (not_complete 4 (sym e ∙ ((round_counts list pages l s fits size).short (leb-false (codes_count l) (length list) h)).answer))

    -- 4, exactly when
    four_exactly : Iff (answer ≡ refused 4) (Stands l × (Sized pages l × (length list < codes_count l)))
    four_exactly = went (numbered 4 8 (λ p. omega arith)) (numbered 4 5 (λ p. omega arith)) (λ s z. (few s z, (λ h. ((round_counts list pages l s fits z).short h).answer)))

    -- THEOREM: 4 is given exactly when neither 8 nor 5 is and the list has fewer places than there are distinct codes on the line
    pub round_refused_4 : RefusedBy 4 (Stands l × (Sized pages l × (length list < codes_count l))) (TooFew list pages l (round_of list pages l))
    round_refused_4 =
        record {
          exactly = four_exactly;
          leaves = λ e. let p = four_exactly.0 e in (round_counts list pages l p.0 fits p.1.0).short p.1.1;
        }

    -- THEOREM: and the round is complete exactly when neither 8 nor 5 is given and there is a place for each
    pub round_complete_exactly : Iff ((round_of list pages l).found.answer ≡ complete) (Stands l × (Sized pages l × (codes_count l ≤ length list)))
    round_complete_exactly = went (not_complete 8) (not_complete 5) (λ s z. (enough s z, (λ h. ((round_counts list pages l s fits z).enough h).answer)))
