-- Demand 3, "Recovery after noise: after a reset, a match and a full-page scratchpad write, a chip's whole state no longer depends on what
-- happened between, unless it copied.": of calls. Page, write and Addressed are in recovery/specs/Sessions, TableInstalled in
-- recovery/proofs/Public, NoCopyIn in SearchCopies.
use Rattle.std.specs.Prelude.{ℕ, List, [], map, ◌≡◌}
use Rattle.std.proofs.Common.{◌∙◌, ap, sym, subst}
use Rattle.line.specs.Event.{Answered}
use Rattle.line.specs.declared.Event.{Event}
use Rattle.line.specs.Attached.{Attached, line_from}
use Rattle.histories.specs.Histories.{came}
use Rattle.histories.specs.Joined.{run_on, answers_on}
use Rattle.histories.specs.Calls.{calls_on, events_of_calls, stands_calls}
use Rattle.recovery.specs.CarriedOut.{NoCopy}
use Rattle.recovery.specs.Sessions.{Addressed, write, Page}
use Rattle.recovery.proofs.Public.{chip_of, TableInstalled, TableRecovered}
use Rattle.recovery.proofs.OverCalls.{demand_3_calls}
use Rattle.calls.specs.Form.{Form, CallTold, calls_of, Ran, ran_leaves}
use Rattle.calls.specs.SearchCopies.{NoCopyIn, no_copy_in}
use Rattle.calls.specs.Events.{Put, put_is}

-- after the write on two tables: chip i is in one state, both were told the same, and as long as each session matches the code
-- both go on to be told the same and to leave chip i in one state
pub record Recovered (F : Form) (i code : ℕ) (told heard : List F.Answer) (x y : F.Loan) : Type 2 where
  pub state : chip_of i (F.table x) ≡ chip_of i (F.table y)
  pub answered : told ≡ heard
  pub answers-on : (rest : List Event) → Addressed code [] (came rest (line_from (F.table x)))
      → {cs ds : List F.Answer} {u v : F.Loan} → Put F rest cs x u → Put F rest ds y v → cs ≡ ds
  pub state_on : (rest : List Event) → Addressed code [] (came rest (line_from (F.table x)))
      → {cs ds : List F.Answer} {u v : F.Loan} → Put F rest cs x u → Put F rest ds y v → chip_of i (F.table u) ≡ chip_of i (F.table v)

module _ (F : Form) (i code : ℕ) (again : List Event) {a b : F.Loan} (m : F.IsTable a) (n : F.IsTable b) (r : TableRecovered i code again (F.table a) (F.table b)) where
  -- what two tables are after the events, whoever lent them finds
  told_alike : {told heard : List F.Answer} {x y : F.Loan} → Put F again told a x → Put F again heard b y → Recovered F i code told heard x y
  told_alike {x = x} {y = y} p q =
      let s = put_is F m p in
      let t = put_is F n q in
      let tell : List Answered → List F.Answer = λ (c : List Answered). map F.answer c in
      record {
        state = ap (chip_of i) s.leaves ∙ r.state ∙ sym (ap (chip_of i) t.leaves);
        answered = s.tells ∙ ap tell r.answered ∙ sym t.tells;
        answers-on = λ rest d f g.
            let k = put_is F s.is-table f in
            let l = put_is F t.is-table g in
            k.tells
            ∙ ap (λ (z : Attached). tell (answers_on rest z)) s.leaves
            ∙ ap tell (r.answers-on rest (subst (λ (z : Attached). Addressed code [] (came rest (line_from z))) s.leaves d))
            ∙ sym (ap (λ (z : Attached). tell (answers_on rest z)) t.leaves)
            ∙ sym l.tells;
        state_on = λ rest d f g.
            let k = put_is F s.is-table f in
            let l = put_is F t.is-table g in
            ap (chip_of i) k.leaves
            ∙ ap (λ (z : Attached). chip_of i (run_on rest z)) s.leaves
            ∙ r.state_on rest (subst (λ (z : Attached). Addressed code [] (came rest (line_from z))) s.leaves d)
            ∙ sym (ap (λ (z : Attached). chip_of i (run_on rest z)) t.leaves)
            ∙ sym (ap (chip_of i) l.leaves);
      }

-- two runs of calls from one set-up, equal up to some point, then any calls in which chip i carries out no copy. After a reset, a match of its
-- code and a write of 32 bytes from offset 0 its whole state is the same, and from there on every answer is, while each new session
-- opens by matching that code
abbrev pub Recovers : Form → Type 2
Recovers F = (i : ℕ) (x : F.Loan) → F.IsTable x → TableInstalled i (F.table x)
    → (start left right : List (CallTold F)) (u a b : F.Loan) → Ran F start x u → Ran F left u a → Ran F right u b
    → NoCopyIn i (calls_of left) (F.table u) → NoCopyIn i (calls_of right) (F.table u)
    → (t : ℕ) (bytes : List ℕ) → Page t bytes
    → (told heard : List F.Answer) (y z : F.Loan)
    → Put F (write (chip_of i (F.table x)).chip.code t bytes) told a y → Put F (write (chip_of i (F.table x)).chip.code t bytes) heard b z
    → Recovered F i (chip_of i (F.table x)).chip.code told heard y z

-- THEOREM, in each form
pub recovers : (F : Form) → Recovers F
recovers F i x m s start left right u a b p q r c d t bytes g told heard y z f h =
    let j = ran_leaves F m p in
    let k = ran_leaves F j.is-table q in
    let l = ran_leaves F j.is-table r in
    let begun = j.table in
    let idle : (cs : List (CallTold F)) → NoCopyIn i (calls_of cs) (F.table u) → NoCopy i (events_of_calls (calls_of cs) (calls_on (calls_of start) (F.table x))) (line_from (calls_on (calls_of start) (F.table x)))
    = λ cs n. no_copy_in i (calls_of cs) _ (stands_calls (calls_of start) (F.table x) s.stands) (subst (NoCopyIn i (calls_of cs)) begun n) in
    told_alike F i (chip_of i (F.table x)).chip.code (write (chip_of i (F.table x)).chip.code t bytes) k.is-table l.is-table
    (rw (k.table, l.table, begun)
    (demand_3_calls i (F.table x) s (calls_of start) (calls_of left) (calls_of right) (idle left c) (idle right d) t bytes g))
    f h
