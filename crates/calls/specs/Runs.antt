-- A run of slots after any calls: it tells and leaves what as many events tell and leave, each a slot with one of the host's bits.
use Rattle.std.specs.Prelude.{ℕ, true, List, map, ◌≡◌, length}
use Rattle.std.proofs.Common.{◌∙◌, ap, sym}
use Rattle.line.specs.Event.{Answered, bit}
use Rattle.line.specs.Slots.{run_fits, RunOutcome}
use Rattle.histories.specs.Joined.{run_on}
use Rattle.histories.specs.Slots.{slots_on, left_by_run, events_of_run, IsHistory, slots_as_events}
use Rattle.calls.specs.Form.{Form, CallTold, Ran, Well, stands_on}
use Rattle.calls.specs.Events.{Put, put_is}

-- what a run told on y, which it left as z: the history of its slot events; and these as calls, one after the other, are told its bits and leave the
-- same table
pub record RunTold (F : Form) (n : ℕ) (bits out : List ℕ) (y z : F.Loan) (a : F.Slots) : Type 2 where
  pub run : RunOutcome
  pub told : a ≡ F.slots run
  pub history : IsHistory (events_of_run n bits) n out (F.table y) run
  pub leaves : F.table z ≡ run_on (events_of_run n bits) (F.table y)
  pub events : (heard : List F.Answer) (u : F.Loan) → Put F (events_of_run n bits) heard y u → (heard ≡ map F.answer (map bit history.bits)) × (F.table u ≡ F.table z)

-- a run that fits, after any calls from a table that neither 8 nor 5 refuses
abbrev pub RunsAreEvents : Form → Type 2
RunsAreEvents F = (cs : List (CallTold F)) (x y z : F.Loan) → Well F x → Ran F cs x y
    → (n : ℕ) (bits out : List ℕ) (a : F.Slots) → F.PermitsSlots n bits out y a z → run_fits n (length bits) (length out) ≡ true
    → RunTold F n bits out y z a

-- THEOREM, in each form
pub runs_are_events : (F : Form) → RunsAreEvents F
runs_are_events F cs x y z w r n bits out a p fits =
    let here = stands_on F cs x y w r in
    let h = slots_as_events n bits out (F.table y) here.stands fits in
    let m = F.slots_is n bits out y a z here.is-table p in
    let left : F.table z ≡ run_on (events_of_run n bits) (F.table y) = m.leaves ∙ ap left_by_run h.comes in
    record {
      run = slots_on n bits out (F.table y);
      told = m.tells;
      history = h;
      leaves = left;
      events = λ heard u q.
          let k = put_is F here.is-table q in
          (k.tells ∙ ap (λ (b : List Answered). map F.answer b) h.answered, k.leaves ∙ sym left);
    }
