-- Calls: events, searches and runs of slots, one after the other, on a table with its buffers. A host leaves a table as the history of
-- its events does, and so does a run, so calls with searches and runs among them are a history.
use Rattle.std.specs.Prelude.{ℕ, List, [], ◌∷◌, ◌++◌, ◌≡◌, refl, length, Result}
use Rattle.line.specs.declared.Refusal.{Refusal}
use Rattle.std.proofs.Common.{◌∙◌, ap, sym}
use Rattle.base.specs.Pick.{pick, pick_if}
use Rattle.line.specs.Slots.{run_fits}
use Rattle.line.specs.Refusals.{well_judged}
use Rattle.line.specs.declared.Event.{Event}
use Rattle.search.specs.Host.{Host, done, ask, play, search_host}
use Rattle.line.specs.Attached.{Attached, says_of, leaves_of, Stands}
use Rattle.search.specs.Search.{wire, search_by, search_of}
use Rattle.histories.specs.Joined.{run_on, stands_on}
use Rattle.histories.specs.Slots.{slots_on, left_by_run, events_of_run, slots_as_events, slots_refused}

-- one history after another
pub run_on_append : (es fs : List Event) (l : Attached) → run_on (es ++ fs) l ≡ run_on fs (run_on es l)
run_on_append [] fs l = refl
run_on_append (e ∷ es) fs l = run_on_append es fs (leaves_of e l)

-- the events that a host puts on a table
abbrev pub events_of : {A : Type 0} → Host A → Attached → List Event
events_of (done a) l = []
events_of (ask e f) l = e ∷ events_of (f (says_of e l)) (leaves_of e l)

-- a host leaves a table as the history of its events does
pub play_runs : {A : Type 0} (h : Host A) (l : Attached) → (play wire h l).line ≡ run_on (events_of h l) l
unfolding play
play_runs (done a) l = refl
play_runs (ask e f) l = play_runs (f (says_of e l)) (leaves_of e l)

-- what a caller asks of a table: an event, a search with a list, or a run of so many slots with the host's bits and a place for the answers
pub data Call : Type 0 where
  event_call : Event → Call
  search_call : List ℕ → Call
  slots_call : ℕ → List ℕ → List ℕ → Call

-- what a call leaves, and what one call after another leaves
abbrev pub leaves_call : Call → Attached → Attached
leaves_call (event_call e) l = leaves_of e l
leaves_call (search_call list) l = (search_of list l).line
leaves_call (slots_call n bits out) l = left_by_run (slots_on n bits out l)

abbrev pub calls_on : List Call → Attached → Attached
calls_on [] l = l
calls_on (c ∷ cs) l = calls_on cs (leaves_call c l)

-- the events that a call puts on a table that stands well; a run that does not fit puts none
abbrev pub events_of_call : Call → Attached → List Event
events_of_call (event_call e) l = e ∷ []
events_of_call (search_call list) l = events_of (search_host (length list)) l
events_of_call (slots_call n bits out) l = pick (run_fits n (length bits) (length out)) (events_of_run n bits) []

abbrev pub events_of_calls : List Call → Attached → List Event
events_of_calls [] l = []
events_of_calls (c ∷ cs) l = events_of_call c l ++ events_of_calls cs (leaves_call c l)

-- a call leaves a table as the history of its events does
pub call_runs : (c : Call) (l : Attached) → Stands l → leaves_call c l ≡ run_on (events_of_call c l) l
unfolding search_of
call_runs (event_call e) l s = refl
call_runs (search_call list) l s =
    ap (λ (v : Result (Unit {0}) Refusal). (search_by v list l).line) (well_judged l.count l.lent.chips l.lent.images l.lent.pads s.range s.sizes)
    ∙ play_runs (search_host (length list)) l
call_runs (slots_call n bits out) l s =
    pick_if (λ (es : List Event). left_by_run (slots_on n bits out l) ≡ run_on es l) _ _ _
    (λ h. ap left_by_run (slots_as_events n bits out l s h).comes) (λ h. ap left_by_run (slots_refused n bits out l s h))

-- so calls with searches and runs among them are a history of events
pub calls_run : (cs : List Call) (l : Attached) → Stands l → calls_on cs l ≡ run_on (events_of_calls cs l) l
calls_run [] l s = refl
calls_run (c ∷ cs) l s =
    let e = call_runs c l s in
    let t : Stands (leaves_call c l) = rw e (stands_on (events_of_call c l) l s) in
    calls_run cs (leaves_call c l) t
    ∙ ap (run_on (events_of_calls cs (leaves_call c l))) e
    ∙ sym (run_on_append (events_of_call c l) (events_of_calls cs (leaves_call c l)) l)

-- after which the table stands well too
pub stands_calls : (cs : List Call) (l : Attached) → Stands l → Stands (calls_on cs l)
stands_calls cs l s = rw (calls_run cs l s) (stands_on (events_of_calls cs l) l s)
