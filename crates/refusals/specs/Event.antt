-- Demand 1, "Bad input is refused by number": each refusal of an event is "given exactly when" document 01's table says, and
-- leaves "nothing changed".
use Rattle.std.specs.Prelude.{ℕ, Bool, true, false, List, [], ◌∷◌, ◌++◌, ◌≡◌, refl, eqb, leb, length, take, drop, get_or, Result, Ok, Err}
use Rattle.line.specs.declared.Refusal.{Refusal}
use Rattle.std.proofs.Common.{arith, true≢false, ◌∙◌, sym}
use Rattle.std.proofs.Math.Path.{ap}
use Rattle.std.proofs.lemmas.Bool.{eqb-false}
use Rattle.base.specs.Pick.{pick, pick_if, pick_of}
use Rattle.base.specs.Exactly.{Iff, by_else, by_then, by_neither}
use Rattle.chip.specs.declared.Chip.{Chip}
use Rattle.chip.specs.Chip.{Whole}
use Rattle.line.specs.Layout.{line_of, lent}
use Rattle.chip.specs.With.{no_chip}
use Rattle.line.specs.Event.{Answered, bit, refused, number_of, table_in_range, sizes_fit, outside_fits, Test, judge, table_tests, event_tests, verdict_of, outcome, asked_by, plan_by, plan_event, plan_in, plan_of, answer_by, done_of, event_of, answer_plan}
use Rattle.line.specs.declared.Event.{Event}
use Rattle.line.specs.declared.Plan.{Plan}
use Rattle.line.specs.declared.Plan.TheVariants as plan

-- an answer with the number r
numbered : (r s : ℕ) → (r ≡ s → ⊥) → refused r ≡ refused s → ⊥
numbered r s n e = n (number e)
  where
    number : refused r ≡ refused s → r ≡ s
    number p = cc

no_bit : (b : Bool) (s : ℕ) → bit b ≡ refused s → ⊥
no_bit b s e = let z : ◌≡◌ {A = ℕ} 0 1 = cc in omega arith

-- what is answered, test by test: the number of the first that fails, or where all hold something else
abbrev answered_by : List Test → Answered → Answered
answered_by [] a = a
answered_by (t ∷ ts) a = pick t.holds (answered_by ts a) (refused (number_of t.refusal))

abbrev either : Bool → Bool → Bool
either true b = true
either false b = b

neither : (a b : Bool) → either a b ≡ false → (a ≡ false) × (b ≡ false)
neither true b e = absurd (true≢false e)
neither false b e = (refl, e)

-- whether a number is one of theirs
abbrev among : ℕ → List Test → Bool
among s [] = false
among s (t ∷ ts) = either (eqb (number_of t.refusal) s) (among s ts)

-- tests that have not a number do not answer it
others : (s : ℕ) (ts : List Test) (a : Answered) → (a ≡ refused s → ⊥) → among s ts ≡ false → answered_by ts a ≡ refused s → ⊥
others s [] a n g = n
others s (t ∷ ts) a n g =
    let h = neither (eqb (number_of t.refusal) s) (among s ts) g in
    by_neither t.holds _ _ _ (others s ts a n h.1) (numbered (number_of t.refusal) s (eqb-false (number_of t.refusal) s h.0))

module _ (n : ℕ) (cs : List Chip) (e : Event) (ms ss : List ℕ) where
  abbrev line : List Whole
  line = line_of n cs ms ss

  abbrev fits : Bool
  fits = outside_fits e (length (take n cs)) (get_or (take n cs) e.chip no_chip).kind

  -- what is answered where nothing is refused
  abbrev said : Answered
  said = answer_by (asked_by e) line

  -- all tests of an event, in document 01's order
  abbrev tests : List Test
  tests = table_tests (table_in_range n cs) (sizes_fit n cs ms ss) ++ event_tests e (length (take n cs)) (get_or (take n cs) e.chip no_chip).kind

  done_answer : (p : Result Plan Refusal) → (done_of p n cs ms ss).answer ≡ answer_plan p line
  done_answer (Ok p) = refl
  done_answer (Err r) = refl

  judge_answer : (ts : List Test) (p : Result Plan Refusal) → answer_plan (plan_by (judge ts) p) line ≡ answered_by ts (answer_plan p line)
  judge_answer [] p = refl
  judge_answer (t ∷ ts) p =
      pick_of (λ (q : Result (Unit {0}) Refusal). answer_plan (plan_by q p) line) _ _ _ ∙ ap (λ (x : Answered). pick t.holds x (refused (number_of t.refusal))) (judge_answer ts p)

  answer_is : (event_of n cs e ms ss).answer ≡ answered_by tests said
  unfolding event_of plan_of verdict_of plan_event
  answer_is =
      done_answer (plan_of n cs e ms ss)
      ∙ judge_answer (table_tests (table_in_range n cs) (sizes_fit n cs ms ss)) (plan_in (take n cs) e)
      ∙ ap (answered_by (table_tests (table_in_range n cs) (sizes_fit n cs ms ss))) (judge_answer (event_tests e (length (take n cs)) (get_or (take n cs) e.chip no_chip).kind) (Ok (asked_by e)))

  answers : (s : ℕ) {B : Type 0} → Iff (answered_by tests said ≡ refused s) B → Iff ((event_of n cs e ms ss).answer ≡ refused s) B
  answers s i = ((λ p. i.0 (sym answer_is ∙ p)), (λ p. answer_is ∙ i.1 p))

  said_bit : (s : ℕ) → said ≡ refused s → ⊥
  unfolding asked_by
  said_bit s =
      pick_if (λ (p : Plan). answer_by p line ≡ refused s → ⊥) _ _ _ (λ a. no_bit _ s)
      (λ a. pick_if (λ (p : Plan). answer_by p line ≡ refused s → ⊥) _ _ _ (λ b. no_bit _ s)
      (λ b. pick_if (λ (p : Plan). answer_by p line ≡ refused s → ⊥) _ _ _ (λ c. no_bit _ s) (λ c. no_bit _ s)))

  -- the tests after the first k do not answer a number that they have not
  after : (k s : ℕ) → among s (drop k tests) ≡ false → answered_by (drop k tests) said ≡ refused s → ⊥
  after k s = others s (drop k tests) said (said_bit s)

  -- 8: "the table has over 16 chips, or a field lies outside its range"
  pub refused_8 : Iff ((event_of n cs e ms ss).answer ≡ refused 8) (table_in_range n cs ≡ false)
  refused_8 =
      answers 8 (by_else (table_in_range n cs) _ _ (after 1 8 refl))

  -- 5, where not 8: "an image or scratchpad buffer has another size than the table asks"
  pub refused_5 : Iff ((event_of n cs e ms ss).answer ≡ refused 5) ((table_in_range n cs ≡ true) × (sizes_fit n cs ms ss ≡ false))
  refused_5 =
      answers 5 (by_then _ (table_in_range n cs) _ _ _ (numbered 8 5 (λ p. omega arith))
      (by_else (sizes_fit n cs ms ss) _ _ (after 2 5 refl)))

  -- 6, where neither 8 nor 5: "the event number is over 4"
  pub refused_6 : Iff ((event_of n cs e ms ss).answer ≡ refused 6) ((table_in_range n cs ≡ true) × ((sizes_fit n cs ms ss ≡ true) × (leb e.number 4 ≡ false)))
  refused_6 =
      answers 6 (by_then _ (table_in_range n cs) _ _ _ (numbered 8 6 (λ p. omega arith))
      (by_then _ (sizes_fit n cs ms ss) _ _ _ (numbered 5 6 (λ p. omega arith))
      (by_else (leb e.number 4) _ _ (after 3 6 refl))))

  -- 7, where none of these: "event 4 names an absent chip, one of kind 1, or levels over 3"
  pub refused_7 : Iff ((event_of n cs e ms ss).answer ≡ refused 7) ((table_in_range n cs ≡ true) × ((sizes_fit n cs ms ss ≡ true) × ((leb e.number 4 ≡ true) × (fits ≡ false))))
  refused_7 =
      answers 7 (by_then _ (table_in_range n cs) _ _ _ (numbered 8 7 (λ p. omega arith))
      (by_then _ (sizes_fit n cs ms ss) _ _ _ (numbered 5 7 (λ p. omega arith))
      (by_then _ (leb e.number 4) _ _ _ (numbered 6 7 (λ p. omega arith))
      (by_else fits _ _ (after 4 7 refl)))))

  -- a refused event leaves table, images and scratchpads as they were
  pub refused_leaves : (r : ℕ) → (event_of n cs e ms ss).answer ≡ refused r → event_of n cs e ms ss ≡ outcome (refused r) n (lent cs ms ss)
  unfolding event_of
  refused_leaves r = go (plan_of n cs e ms ss)
    where
      go : (p : Result Plan Refusal) → (done_of p n cs ms ss).answer ≡ refused r → done_of p n cs ms ss ≡ outcome (refused r) n (lent cs ms ss)
      go (Err q) h = ap (λ (x : Answered). outcome x n (lent cs ms ss)) h
      go (Ok (plan.Slot b)) h = absurd (no_bit _ r h)
      go (Ok plan.Reset) h = absurd (no_bit _ r h)
      go (Ok plan.PowerOn) h = absurd (no_bit _ r h)
      go (Ok (plan.Outside i l)) h = absurd (no_bit _ r h)
