-- Two lines on which a chip has the same memory are alike to it after the write.
use Rattle.std.specs.Prelude.{ℕ, List, [], ◌∷◌, ◌++◌, ◌≡◌, refl}
use Rattle.std.proofs.Common.{◌∙◌, sym, subst}
use Rattle.chip.specs.Chip.{Whole}
use Rattle.line.specs.declared.Event.{Event}
use Rattle.histories.specs.Histories.{at, kinds_of, after_of, run, answers, came}
use Rattle.histories.specs.Kept.{run_kinds}
use Rattle.recovery.specs.Sessions.{Addressed, write, Page}
use Rattle.recovery.specs.Stays.{bare}
use Rattle.recovery.proofs.Among.{among_at, own_run, own_answers, came_alike, alone, alone_answers}
use Rattle.recovery.specs.Written.{written_to}
use Rattle.recovery.proofs.Installed.{Installed}
use Rattle.recovery.proofs.Rewritten.{written_same, rewritten, rewritten_own, rewritten_answers}

-- two lines after the events `again`: chip i is in one state, both answered alike, and as long as each session matches the code
-- both go on to answer alike and to leave chip i in one state
pub record Recovered (i code : ℕ) (again : List Event) (A B : List Whole) : Type 0 where
  pub state : at i (run again A) ≡ at i (run again B)
  pub answered : answers again A ≡ answers again B
  pub answers-on : (rest : List Event) → Addressed code [] (came rest (run again A)) → answers rest (run again A) ≡ answers rest (run again B)
  pub state_on : (rest : List Event) → Addressed code [] (came rest (run again A)) → at i (run rest (run again A)) ≡ at i (run rest (run again B))

-- two lines on which chip i has one code, the same record but for what a session sets, and the same memory, and all kinds are the same
module _ (i : ℕ) (A B : List Whole) (a : Installed i A) (b : Installed i B) (code t : ℕ) (bytes : List ℕ) (g : Page t bytes)
    (p : (at i A).chip.code ≡ code) (q : (at i B).chip.code ≡ code) (same : bare (at i A).chip ≡ bare (at i B).chip)
    (memory : (at i A).memory ≡ (at i B).memory) (kinds : kinds_of A ≡ kinds_of B) where
  -- the write
  abbrev again : List Event
  again = write code t bytes

  -- the state that both come to
  one : written_to (at i A) t bytes ≡ written_to (at i B) t bytes
  one = written_same (at i A) (at i B) t bytes same memory

  -- both lines are of the same kinds after it
  one_kinds : kinds_of (run again A) ≡ kinds_of (run again B)
  one_kinds = run_kinds again A ∙ kinds ∙ sym (run_kinds again B)

  -- so every history comes to the same on both
  one_came : (rest : List Event) → came rest (run again A) ≡ came rest (run again B)
  one_came rest = came_alike rest (run again A) (run again B) one_kinds

  -- and nothing tells them apart
  pub same_memory : Recovered i code again A B
  same_memory =
      let x = rewritten i A a code p t bytes g in
      let y = rewritten i B b code q t bytes g in
      let u = rewritten_own i A a code p t bytes g in
      let v = rewritten_own i B b code q t bytes g in
      record {
        state = among_at x ∙ one ∙ sym (among_at y);
        answered = rewritten_answers i A a code p t bytes g ∙ sym (rewritten_answers i B b code q t bytes g);
        answers-on = λ rest d.
            alone_answers code [] rest _ i (run again A) d u x
            ∙ (λ j. own_answers (one_came rest j) (one j))
            ∙ sym (alone_answers code [] rest _ i (run again B) (subst (Addressed code []) (one_came rest) d) v y);
        state_on = λ rest d.
            among_at (alone code [] rest _ i (run again A) d u x)
            ∙ (λ j. own_run (one_came rest j) (one j))
            ∙ sym (among_at (alone code [] rest _ i (run again B) (subst (Addressed code []) (one_came rest) d) v y));
      }

-- one history after another
pub run_append : (xs ys : List Event) (L : List Whole) → run (xs ++ ys) L ≡ run ys (run xs L)
run_append [] ys L = refl
run_append (e ∷ xs) ys L = run_append xs ys (after_of e L)
