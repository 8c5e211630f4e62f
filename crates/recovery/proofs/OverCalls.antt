-- "Recovery after noise": over calls, events, searches and runs of slots in any order, on a table and its buffers.
use Rattle.std.specs.Prelude.{ℕ, List, ◌++◌, ◌≡◌}
use Rattle.std.proofs.Common.{◌∙◌, ap, sym, subst}
use Rattle.line.specs.Attached.{Attached, line_from}
use Rattle.histories.specs.Joined.{run_on}
use Rattle.histories.specs.Calls.{Call, calls_on, events_of_calls, run_on_append, calls_run, stands_calls}
use Rattle.recovery.specs.Sessions.{write, Page}
use Rattle.recovery.specs.CarriedOut.{NoCopy}
use Rattle.recovery.proofs.Public.{chip_of, TableInstalled, TableRecovered, demand_3_on}

module _ (i : ℕ) (l : Attached) (s : TableInstalled i l) (start : List Call) where
  -- the table after the common beginning, and the events that led there
  abbrev there : Attached
  there = calls_on start l

  -- more calls from there, as one history of events from the start
  onward : (cs : List Call) → calls_on cs there ≡ run_on (events_of_calls start l ++ events_of_calls cs there) l
  onward cs =
      calls_run cs there (stands_calls start l s.stands)
      ∙ ap (run_on (events_of_calls cs there)) (calls_run start l s.stands)
      ∙ sym (run_on_append (events_of_calls start l) (events_of_calls cs there) l)

  -- THEOREM: demand 3, where searches may stand among the events; chip i carries out no copy in any event that the calls put on the line
  pub demand_3_calls : (left right : List Call) → NoCopy i (events_of_calls left there) (line_from there) → NoCopy i (events_of_calls right there) (line_from there)
      → (t : ℕ) (bytes : List ℕ) → Page t bytes
      → TableRecovered i (chip_of i l).chip.code (write (chip_of i l).chip.code t bytes) (calls_on left there) (calls_on right there)
  demand_3_calls left right p q t bytes g =
      let begun : line_from there ≡ line_from (run_on (events_of_calls start l) l) = ap line_from (calls_run start l s.stands) in
      rw (onward left, onward right)
      (demand_3_on i l s (events_of_calls start l) (events_of_calls left there) (events_of_calls right there)
      (subst (NoCopy i (events_of_calls left there)) begun p) (subst (NoCopy i (events_of_calls right there)) begun q) t bytes g)
