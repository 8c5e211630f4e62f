-- Document 02, M-103: "prints every event's bus answer": a recording is a history of the public event, up to the first refusal.
use Rattle.std.specs.Prelude.{ℕ, zero, suc, ◌-◌, Bool, true, false, List, [], ◌∷◌, ◌++◌, map, ◌≡◌, refl, eqb, length, take, drop, Result, Ok, Err}
use Rattle.std.proofs.Common.{arith, ◌∙◌, ap, sym, subst, eqb-true}
use Rattle.base.specs.Pick.{pick_if}
use Rattle.line.specs.Attached.{Attached, says_of, leaves_of, left_by, Stands}
use Rattle.line.specs.Event.{Answered, bit, refused}
use Rattle.line.specs.Refusals.{well_judged}
use Rattle.line.specs.Slots.{host_bits}
use Rattle.line.specs.Tables.{blank_table}
use Rattle.line.specs.declared.Event.{Event}
use Rattle.line.specs.declared.Table.{Table}
use Rattle.recording.specs.declared.Fault.{Fault}
use Rattle.recording.specs.Reading.{number_of_fault, found_at}
use Rattle.recording.specs.Cards.{room_for, cards_of}
use Rattle.recording.specs.Playing.{Ends, ended, part, refusal, ends_of, Said, bits, none, Step, said_by, slots_step, record_step, Played, played, after, on_step, play_on, play_from, play_all, set_up_line, after_cards, playback}
use Rattle.recording.specs.declared.Record.{Record}
use Rattle.recording.specs.declared.Record.TheVariants as record_of
use Rattle.recording.specs.declared.Found.{Found}
use Rattle.recording.specs.declared.Found.TheVariants as found
use Rattle.recording.specs.declared.CardsEnding.{CardsEnding}
use Rattle.recording.specs.declared.CardsEnding.TheVariants as cards
use Rattle.histories.specs.Joined.{run_on, answers_on, run_left, stands_on}
use Rattle.histories.specs.Sent.{slots}
use Rattle.histories.specs.Slots.{slots-left, slots_answered}
use Rattle.refusals.specs.Event.{refused_leaves}
use Rattle.played.specs.Standing.{set_up_line_stands}

-- the events of a recording --------------------------------------------------------------------------------

-- those of a record: of a run, a slot for each of its bits; of a card record, none
abbrev pub events_in : List ℕ → Record → List Event
events_in s (record_of.Chip code kind) = []
events_in s (record_of.Slots count from to) = slots (host_bits count (take (to - from) (drop from s)))
events_in s (record_of.Event e) = e ∷ []

-- by what stands at an offset
abbrev events_on : (ℕ → List Event) → List ℕ → Result Found Fault → List Event
events_on go s (Ok found.End) = []
events_on go s (Ok found.Part) = []
events_on go s (Ok (found.Record r next)) = events_in s r ++ go next
events_on go s (Err f) = []

-- those of the records from an offset on, at most so many, where room more chips might come: reading goes by the bytes alone
unfoldable pub events_from : ℕ → Bool → List ℕ → ℕ → ℕ → List Event
events_from zero more s at room = []
events_from (suc k) more s at room = events_on (λ next. events_from k more s next room) s (found_at s at room true more)

-- how reading ends, by what stands at an offset
abbrev ends_on : (ℕ → Ends) → Result Found Fault → Ends
ends_on go (Ok found.End) = ended
ends_on go (Ok found.Part) = part
ends_on go (Ok (found.Record r next)) = go next
ends_on go (Err f) = refusal (number_of_fault f)

-- how reading them ends, where no event is refused
unfoldable pub reading_ends : ℕ → Bool → List ℕ → ℕ → ℕ → Ends
reading_ends zero more s at room = part
reading_ends (suc k) more s at room = ends_on (λ next. reading_ends k more s next room) (found_at s at room true more)

-- up to the first refusal ----------------------------------------------------------------------------------

-- the bits before it
abbrev pub up_to_refusal : List Answered → List Bool
up_to_refusal [] = []
up_to_refusal (bit b ∷ xs) = b ∷ up_to_refusal xs
up_to_refusal (refused r ∷ xs) = []

-- it ends playing by its number; without one, playing ends as reading does
abbrev pub ends_by : Ends → List Answered → Ends
ends_by e [] = e
ends_by e (bit b ∷ xs) = ends_by e xs
ends_by e (refused r ∷ xs) = refusal r

-- what is played of a line is the history of these events up to the first refusal: it answers their bits, leaves what those before the
-- refusal leave, and ends by the refusal, or else as reading ends
pub record AsHistory (es : List Event) (e : Ends) (l : Attached) (p : Played) : Type 0 where
  pub answers : p.answers ≡ up_to_refusal (answers_on es l)
  pub line : p.line ≡ run_on (take (length p.answers) es) l
  pub ends : p.ends ≡ ends_by e (answers_on es l)

-- an event before it that answers a bit, and several
one_before : (x : Event) (es : List Event) (e : Ends) (l : Attached) (p : Played) (b : Bool) → says_of x l ≡ bit b → AsHistory es e (leaves_of x l) p
    → AsHistory (x ∷ es) e l (after (b ∷ []) p)
one_before x es e l p b h a =
    record {
      answers = ap (λ (bs : List Bool). b ∷ bs) a.answers ∙ ap (λ (y : Answered). up_to_refusal (y ∷ answers_on es (leaves_of x l))) (sym h);
      line = a.line;
      ends = a.ends ∙ ap (λ (y : Answered). ends_by e (y ∷ answers_on es (leaves_of x l))) (sym h);
    }

before : (xs es : List Event) (e : Ends) (l : Attached) (p : Played) (bs : List Bool) → answers_on xs l ≡ map bit bs → AsHistory es e (run_on xs l) p
    → AsHistory (xs ++ es) e l (after bs p)
before [] es e l p [] h a = a
before [] es e l p (b ∷ bs) h a = absurd (let y : ◌≡◌ {A = ℕ} 0 1 = cc in omega arith)
before (x ∷ xs) es e l p [] h a = absurd (let y : ◌≡◌ {A = ℕ} 0 1 = cc in omega arith)
before (x ∷ xs) es e l p (b ∷ bs) h a =
    let f : says_of x l ≡ bit b = cc in
    let g : answers_on xs (leaves_of x l) ≡ map bit bs = cc in
    one_before x (xs ++ es) e l (after bs p) b f (before xs es e (leaves_of x l) p bs g a)

-- an event that is refused, whatever comes after it
refused_first : (x : Event) (es : List Event) (e : Ends) (at : ℕ) (l : Attached) (r : ℕ) → says_of x l ≡ refused r → AsHistory (x ∷ es) e l (played [] (refusal r) at (leaves_of x l))
unfolding says_of leaves_of
refused_first x es e at l r h =
    record {
      answers = ap (λ (y : Answered). up_to_refusal (y ∷ answers_on es (leaves_of x l))) (sym h);
      line = ap left_by (refused_leaves l.count l.lent.chips x l.lent.images l.lent.pads r h);
      ends = ap (λ (y : Answered). ends_by e (y ∷ answers_on es (leaves_of x l))) (sym h);
    }

-- the events of one record ---------------------------------------------------------------------------------

-- they answer bits, and leave a line; or one of them is refused
abbrev pub Comes : List Event → Attached → ℕ → Said → Attached → Type 0
Comes xs l at (bits bs) m = (answers_on xs l ≡ map bit bs) × (m ≡ run_on xs l)
Comes xs l at (none r) m = (es : List Event) (e : Ends) → AsHistory (xs ++ es) e l (played [] (refusal r) at m)

-- one event; a run of slots, none of which is refused; and any record
event_comes : (x : Event) (at : ℕ) (l : Attached) (y : Answered) → says_of x l ≡ y → Comes (x ∷ []) l at (said_by y) (leaves_of x l)
event_comes x at l (bit b) h = (ap (λ (z : Answered). z ∷ []) h, refl)
event_comes x at l (refused r) h = λ es e. refused_first x es e at l r h

slots_come : (count : ℕ) (bytes : List ℕ) (at : ℕ) (l : Attached) → Stands l → Comes (slots (host_bits count bytes)) l at (slots_step count bytes l).said (slots_step count bytes l).line
unfolding slots_step
slots_come count bytes at l s =
    pick_if (λ (d : Step). Comes (slots (host_bits count bytes)) l at d.said d.line) (eqb count 0) _ _
    (λ z. rw (eqb-true count 0 z) (refl, refl))
    (λ z. rw (well_judged l.count l.lent.chips l.lent.images l.lent.pads s.range s.sizes)
    (slots_answered (host_bits count bytes) l s, sym (slots-left (host_bits count bytes) l s)))

pub record_comes : (s : List ℕ) (r : Record) (at : ℕ) (l : Attached) → Stands l → Comes (events_in s r) l at (record_step s r l).said (record_step s r l).line
record_comes s (record_of.Chip code kind) at l w = (refl, refl)
record_comes s (record_of.Slots count from to) at l w = slots_come count (take (to - from) (drop from s)) at l w
record_comes s (record_of.Event e) at l w = event_comes e at l (says_of e l) refl

-- all of them ----------------------------------------------------------------------------------------------

-- no event changes the number of chips
count_kept : (es : List Event) (l : Attached) → Stands l → (run_on es l).count ≡ l.count
count_kept es l s = ap (λ (m : Attached). m.count) (run_left es l s)

-- what is played by what stands at an offset, where what is played of the records after it is their history
module _ (s : List ℕ) (at : ℕ) (l : Attached) (w : Stands l) (events : ℕ → ℕ → List Event) (end : ℕ → ℕ → Ends) (go : ℕ → Attached → Played)
    (on : (next : ℕ) (m : Attached) → Stands m → AsHistory (events next (room_for m.count)) (end next (room_for m.count)) m (go next m)) where
  abbrev room : ℕ
  room = room_for l.count

  -- after a record, and by what is found
  on-step : (xs : List Event) (next : ℕ) (x : Said) (m : Attached) → Comes xs l at x m → AsHistory (xs ++ events next room) (end next room) l (on_step go at next x m)
  on-step xs next (none r) m c = c _ _
  on-step xs next (bits bs) m (a, q) =
      let h = subst (λ (n : ℕ). AsHistory (events next (room_for n)) (end next (room_for n)) (run_on xs l) (go next (run_on xs l))) (count_kept xs l w) (on next (run_on xs l) (stands_on xs l w)) in
      before xs _ _ l (go next m) bs a (subst (λ (j : Attached). AsHistory (events next room) (end next room) (run_on xs l) (go next j)) (sym q) h)

  on_found : (f : Result Found Fault) → AsHistory (events_on (λ next. events next room) s f) (ends_on (λ next. end next room) f) l (play_on go s at l f)
  on_found (Ok found.End) = record { answers = refl; line = refl; ends = refl }
  on_found (Ok found.Part) = record { answers = refl; line = refl; ends = refl }
  on_found (Ok (found.Record r next)) = on-step (events_in s r) next (record_step s r l).said (record_step s r l).line (record_comes s r at l w)
  on_found (Err f) = record { answers = refl; line = refl; ends = refl }

-- THEOREM: the records from an offset on, played on a line that stands well, are the history of their events
pub records_as_history : (k : ℕ) (more : Bool) (s : List ℕ) (at : ℕ) (l : Attached) → Stands l
    → AsHistory (events_from k more s at (room_for l.count)) (reading_ends k more s at (room_for l.count)) l (play_from k more s at l)
unfolding events_from reading_ends play_from
records_as_history zero more s at l w = record { answers = refl; line = refl; ends = refl }
records_as_history (suc k) more s at l w =
    on_found s at l w (λ next room. events_from k more s next room) (λ next room. reading_ends k more s next room) (λ next m. play_from k more s next m)
    (λ next m v. records_as_history k more s next m v) (found_at s at (room_for l.count) true more)

-- the whole recording --------------------------------------------------------------------------------------

-- the events after the card, and how reading them ends; there are none where reading ends within the card
abbrev events_after : List ℕ → ℕ → Table → CardsEnding → List Event
events_after s at t cards.Events = events_from (suc (length (drop at s))) false (drop at s) 0 (room_for t.n)
events_after s at t (cards.Stopped e) = []

abbrev ends_after : List ℕ → ℕ → Table → CardsEnding → Ends
ends_after s at t cards.Events = reading_ends (suc (length (drop at s))) false (drop at s) 0 (room_for t.n)
ends_after s at t (cards.Stopped e) = ends_of e

-- the events of a recording, how reading it ends, and the line that its card sets up
abbrev pub recorded_events : List ℕ → List Event
recorded_events s = let c = cards_of false s (blank_table 0) in events_after s c.at c.table c.ending

abbrev pub recorded_ends : List ℕ → Ends
recorded_ends s = let c = cards_of false s (blank_table 0) in ends_after s c.at c.table c.ending

abbrev pub recorded_line : List ℕ → Attached
recorded_line s = set_up_line (cards_of false s (blank_table 0)).table

-- by how reading the card ended
after-cards : (s : List ℕ) (at : ℕ) (t : Table) (x : CardsEnding) → Stands (set_up_line t) → AsHistory (events_after s at t x) (ends_after s at t x) (set_up_line t) (after_cards s at t x)
unfolding play_all
after-cards s at t cards.Events w =
    let a = records_as_history (suc (length (drop at s))) false (drop at s) 0 (set_up_line t) w in
    record { answers = a.answers; line = a.line; ends = a.ends }
after-cards s at t (cards.Stopped e) w = record { answers = refl; line = refl; ends = refl }

-- THEOREM: what playback answers and leaves is the history of the recording's events on the line of its card, up to the first refusal
pub played_as_history : (s : List ℕ) → AsHistory (recorded_events s) (recorded_ends s) (recorded_line s) (playback s)
unfolding playback
played_as_history s = let c = cards_of false s (blank_table 0) in after-cards s c.at c.table c.ending (set_up_line_stands false s)
