-- Demand 1 for a run of slots, "Judged once: 8, then 5": each is given exactly when the table, the sizes lent or the run are so, and leaves
-- "nothing changed"; every other run puts all its slots on the line.
use Rattle.std.specs.Prelude.{ℕ, ◌≤◌, Bool, true, false, List, ◌≡◌, refl, eqb, leb, length, Result}
use Rattle.line.specs.declared.Refusal.{Refusal}
use Rattle.std.proofs.Common.{arith, ◌∙◌, sym, leb-true, le-leb}
use Rattle.std.proofs.Math.Path.{ap}
use Rattle.base.specs.Pick.{pick, pick_true, pick_if, pick_of}
use Rattle.base.specs.Bits.{both}
use Rattle.base.specs.Both.{both_holds, both_true'}
use Rattle.base.specs.Exactly.{Iff, then_exactly, both_exactly, equal_exactly, by_else, by_then, by_neither}
use Rattle.chip.specs.declared.Chip.{Chip}
use Rattle.line.specs.Layout.{line_of, lent}
use Rattle.line.specs.Event.{table_in_range, sizes_fit}
use Rattle.line.specs.Slots.{host_bits, run_on, bytes_asked, run_fits, Slotted, put, refused, RunOutcome, run_outcome, run_verdict, run_by, slots_of}
use Rattle.line.specs.RunTables.{run_well, put_all}
use Rattle.histories.specs.Slots.{well_run}

numbered : (r s : ℕ) → (r ≡ s → ⊥) → refused r ≡ refused s → ⊥
numbered r s n e = n (number e)
  where
    number : refused r ≡ refused s → r ≡ s
    number p = cc

not_put : (n s : ℕ) → put n ≡ refused s → ⊥
not_put n s e = let z : ◌≡◌ {A = ℕ} 0 1 = cc in omega arith

both_exact : (a b : Bool) → Iff (both a b ≡ true) ((a ≡ true) × (b ≡ true))
both_exact a b = (both_holds a b, (λ p. both_true' a b p.0 p.1))

-- a run fits exactly when it has "at most 65,535 slots", and bits and answers are "of ⌈slots / 8⌉ bytes"
pub run-fits : (n bits out : ℕ) → Iff (run_fits n bits out ≡ true) ((n ≤ 65535) × ((bits ≡ bytes_asked n) × (out ≡ bytes_asked n)))
unfolding run_fits
run-fits n bits out =
    then_exactly (both_exact (leb n 65535) _)
    (both_exactly (leb-true n 65535, le-leb n 65535)
    (then_exactly (both_exact (eqb bits (bytes_asked n)) _) (both_exactly (equal_exactly bits (bytes_asked n)) (equal_exactly out (bytes_asked n)))))

module _ (n : ℕ) (cs : List Chip) (slots : ℕ) (bits answers ms ss : List ℕ) where
  -- the sizes of images and scratchpads, and those of the run
  abbrev sized : Bool
  sized = both (sizes_fit n cs ms ss) (run_fits slots (length bits) (length answers))

  -- what it comes to by its verdict, and where that is well
  abbrev judged_by : Result (Unit {0}) Refusal → RunOutcome
  judged_by v = run_by v n cs slots bits answers ms ss

  abbrev whole : ℕ
  whole = length (run_on (host_bits slots bits) (line_of n cs ms ss)).bits

  answer_is : (slots_of n cs slots bits answers ms ss).answer ≡ pick (table_in_range n cs) (pick sized (put whole) (refused 5)) (refused 8)
  unfolding slots_of run_verdict
  answer_is =
      let f : Result (Unit {0}) Refusal → Slotted = λ (v : Result (Unit {0}) Refusal). (judged_by v).answer in
      pick_of f _ _ _ ∙ ap (λ (x : Slotted). pick (table_in_range n cs) x (refused 8)) (pick_of f _ _ _)

  answers_exactly : (a : Slotted) {B : Type 0} → Iff (pick (table_in_range n cs) (pick sized (put whole) (refused 5)) (refused 8) ≡ a) B → Iff ((slots_of n cs slots bits answers ms ss).answer ≡ a) B
  answers_exactly a i = ((λ p. i.0 (sym answer_is ∙ p)), (λ p. answer_is ∙ i.1 p))

  -- 8: "the table has over 16 chips, or a field lies outside its range"
  pub refused_8 : Iff ((slots_of n cs slots bits answers ms ss).answer ≡ refused 8) (table_in_range n cs ≡ false)
  refused_8 = answers_exactly (refused 8) (by_else (table_in_range n cs) _ _ (by_neither sized _ _ _ (not_put whole 8) (numbered 5 8 (λ p. omega arith))))

  -- 5, where not 8: "for images, scratchpads, and for bits or answers"
  pub refused_5 : Iff ((slots_of n cs slots bits answers ms ss).answer ≡ refused 5) ((table_in_range n cs ≡ true) × (sized ≡ false))
  refused_5 = answers_exactly (refused 5) (by_then _ (table_in_range n cs) _ _ _ (numbered 8 5 (λ p. omega arith)) (by_else sized _ _ (not_put whole 5)))

  -- every other run puts all its slots on the line
  all_put : table_in_range n cs ≡ true → sized ≡ true → put slots ≡ put whole
  all_put h k =
      let w = run_well n cs slots bits answers ms ss (sym (well_run n cs slots bits answers ms ss h k)) in
      ap (λ (o : RunOutcome). o.answer) (put_all n cs slots bits answers ms ss w _ _ _ _ _ refl refl refl)

  pub put_exactly : Iff ((slots_of n cs slots bits answers ms ss).answer ≡ put slots) ((table_in_range n cs ≡ true) × (sized ≡ true))
  put_exactly =
      answers_exactly (put slots) (
        pick_if Only _ _ _ (λ a. pick_if Only _ _ _ (λ b p. (a, b)) (λ b p. absurd (not_put slots 5 (sym p)))) (λ a p. absurd (not_put slots 8 (sym p))),
        (λ p. pick_true (table_in_range n cs) _ _ p.0 ∙ pick_true sized _ _ p.1 ∙ sym (all_put p.0 p.1)),
      )
    where
      Only : Slotted → Type 0
      Only x = x ≡ put slots → (table_in_range n cs ≡ true) × (sized ≡ true)

  -- a refused run leaves answers, table, images and scratchpads as they were
  abbrev Unchanged : RunOutcome → Type 0
  Unchanged o = (r : ℕ) → o.answer ≡ refused r → o ≡ run_outcome (refused r) answers n (lent cs ms ss)

  unchanged : (s : ℕ) → Unchanged (run_outcome (refused s) answers n (lent cs ms ss))
  unchanged s r p = ap (λ (x : Slotted). run_outcome x answers n (lent cs ms ss)) p

  pub refused_leaves : (r : ℕ) → (slots_of n cs slots bits answers ms ss).answer ≡ refused r
      → slots_of n cs slots bits answers ms ss ≡ run_outcome (refused r) answers n (lent cs ms ss)
  unfolding slots_of run_verdict
  refused_leaves =
      pick_if (λ (v : Result (Unit {0}) Refusal). Unchanged (judged_by v)) _ _ _
      (λ a. pick_if (λ (v : Result (Unit {0}) Refusal). Unchanged (judged_by v)) _ _ _ (λ b r p. absurd (not_put _ r p)) (λ b. unchanged 5))
      (λ a. unchanged 8)
