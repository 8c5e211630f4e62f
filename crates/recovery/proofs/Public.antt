-- "Recovery after noise": of the public event, over a table and its buffers.
use Rattle.std.specs.Prelude.{ℕ, zero, suc, ◌<◌, List, [], ◌∷◌, ◌++◌, ◌≡◌, length}
use Rattle.std.proofs.Common.{arith, not-suc-le-zero, ◌∙◌, ap, sym, subst}
use Rattle.chip.specs.Chip.{Whole}
use Rattle.line.specs.declared.Event.{Event}
use Rattle.line.specs.Attached.{Attached, Stands, line_from}
use Rattle.histories.specs.Histories.{at, run, answers, came, codes_of}
use Rattle.line.specs.Keeps.{Good}
use Rattle.line.proofs.Standing.{AllGood, line_good, line_length}
use Rattle.histories.specs.Joined.{run_on, answers_on, run_joined, answers_joined, stands_on}
use Rattle.histories.specs.Below.{Codes}
use Rattle.recovery.specs.Sessions.{Addressed, write, Page}
use Rattle.recovery.specs.CarriedOut.{NoCopy}
use Rattle.recovery.specs.Written.{written_to}
use Rattle.recovery.proofs.Installed.{Differ, Installed}
use Rattle.recovery.proofs.Recovery.{Recovered}
use Rattle.recovery.proofs.Demand3.{written, demand_3}

-- chip i of a table with its buffers: record, memory and scratchpad
abbrev pub chip_of : ℕ → Attached → Whole
chip_of i l = at i (line_from l)

-- a table that stands well, whose codes all differ; chip i is a DS28EC20
pub record TableInstalled (i : ℕ) (l : Attached) : Type 0 where
  pub stands : Stands l
  pub attached : i < l.count
  pub differ : Differ (codes_of (line_from l))
  pub codes : Codes (codes_of (line_from l))
  pub kind : (chip_of i l).chip.kind ≡ 1

-- two tables after the events `again`, as two lines after them
pub record TableRecovered (i code : ℕ) (again : List Event) (a b : Attached) : Type 0 where
  pub state : chip_of i (run_on again a) ≡ chip_of i (run_on again b)
  pub answered : answers_on again a ≡ answers_on again b
  pub answers-on : (rest : List Event) → Addressed code [] (came rest (line_from (run_on again a))) → answers_on rest (run_on again a) ≡ answers_on rest (run_on again b)
  pub state_on : (rest : List Event) → Addressed code [] (came rest (line_from (run_on again a))) → chip_of i (run_on rest (run_on again a)) ≡ chip_of i (run_on rest (run_on again b))

-- chip i of a good line is good
pub good_at : (i : ℕ) (L : List Whole) → i < length L → AllGood L → Good (at i L)
good_at i [] h g = absurd (not-suc-le-zero h)
good_at zero (w ∷ L) h (g, r) = g
good_at (suc i) (w ∷ L) h (g, r) = good_at i L (omega arith) r

-- the line of such a table is set up
pub line_installed : (i : ℕ) (l : Attached) → TableInstalled i l → Installed i (line_from l)
line_installed i l s =
    let h : i < length (line_from l) = rw (line_length l s.stands) s.attached in
    record { attached = h; differ = s.differ; codes = s.codes; kind = s.kind; good = good_at i (line_from l) h (line_good l s.stands) }

-- what two lines are to a chip, their tables are
module _ (i code : ℕ) (again : List Event) (a b : Attached) (s : Stands a) (u : Stands b) where
  -- a table after the events, and more
  after_again : (l : Attached) → Stands l → (rest : List Event) → line_from (run_on rest (run_on again l)) ≡ run rest (run again (line_from l))
  after_again l t rest = run_joined rest (run_on again l) (stands_on again l t) ∙ ap (run rest) (run_joined again l t)

  -- what is answered after the events
  answers_again : (l : Attached) → Stands l → (rest : List Event) → answers_on rest (run_on again l) ≡ answers rest (run again (line_from l))
  answers_again l t rest = answers_joined rest (run_on again l) (stands_on again l t) ∙ ap (answers rest) (run_joined again l t)

  -- what each event comes to after the events
  addressed : (rest : List Event) → Addressed code [] (came rest (line_from (run_on again a))) → Addressed code [] (came rest (run again (line_from a)))
  addressed rest d = subst (λ (A : List Whole). Addressed code [] (came rest A)) (run_joined again a s) d

  -- each in turn
  table_recovered : Recovered i code again (line_from a) (line_from b) → TableRecovered i code again a b
  table_recovered r =
      record {
        state = ap (at i) (run_joined again a s) ∙ r.state ∙ sym (ap (at i) (run_joined again b u));
        answered = answers_joined again a s ∙ r.answered ∙ sym (answers_joined again b u);
        answers-on = λ rest d. answers_again a s rest ∙ r.answers-on rest (addressed rest d) ∙ sym (answers_again b u rest);
        state_on = λ rest d. ap (at i) (after_again a s rest) ∙ r.state_on rest (addressed rest d) ∙ sym (ap (at i) (after_again b u rest));
      }

-- THEOREM: the exact state of chip i after the write
pub written_on : (i : ℕ) (l : Attached) → TableInstalled i l → (t : ℕ) (bytes : List ℕ) → Page t bytes
    → chip_of i (run_on (write (chip_of i l).chip.code t bytes) l) ≡ written_to (chip_of i l) t bytes
written_on i l s t bytes g =
    ap (at i) (run_joined (write (chip_of i l).chip.code t bytes) l s.stands) ∙ written i (line_from l) (line_installed i l s) t bytes g

-- THEOREM: demand 3 of the public event
pub demand_3_on : (i : ℕ) (l : Attached) → TableInstalled i l
    → (start left right : List Event) → NoCopy i left (line_from (run_on start l)) → NoCopy i right (line_from (run_on start l))
    → (t : ℕ) (bytes : List ℕ) → Page t bytes
    → TableRecovered i (chip_of i l).chip.code (write (chip_of i l).chip.code t bytes) (run_on (start ++ left) l) (run_on (start ++ right) l)
demand_3_on i l s start left right p q t bytes g =
    let code = (chip_of i l).chip.code in
    let again = write code t bytes in
    let k = s.stands in
    let r = demand_3 i (line_from l) (line_installed i l s) start left right (rw (run_joined start l k) at p) (rw (run_joined start l k) at q) t bytes g in
    table_recovered i code again (run_on (start ++ left) l) (run_on (start ++ right) l) (stands_on (start ++ left) l k) (stands_on (start ++ right) l k)
    (subst (λ (A : List Whole). Recovered i code again A (line_from (run_on (start ++ right) l))) (sym (run_joined (start ++ left) l k))
    (subst (λ (B : List Whole). Recovered i code again (run (start ++ left) (line_from l)) B) (sym (run_joined (start ++ right) l k)) r))
