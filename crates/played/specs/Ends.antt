-- How a whole recording ends: never in the middle of a record of which more may come, and by no refusal but 1, 2, 3, 7, 9 and 10.
use Rattle.std.specs.Prelude.{ℕ, ◌≤◌, Bool, true, false, ◌||◌, List, [], ◌∷◌, ◌≡◌, eqb, drop, Option, Some, None, Result, Ok, Err}
use Rattle.std.proofs.Common.{arith, true≢false, ◌∙◌, ap, sym, subst, le-leb}
use Rattle.std.proofs.lemmas.Bool.{false≢true}
use Rattle.std.proofs.Math.Path.{refl}
use Rattle.base.specs.Pick.{pick, pick_both}
use Rattle.chip.specs.Chip.{set_up_chip}
use Rattle.line.specs.Attached.{Attached, says_of, Stands}
use Rattle.line.specs.Event.{Answered, bit, refused, number_of}
use Rattle.line.specs.Refusals.{well_judged}
use Rattle.line.specs.Tables.{blank_table}
use Rattle.line.specs.declared.Event.{Event}
use Rattle.line.specs.declared.Refusal.{Refusal}
use Rattle.line.specs.declared.Refusal.TheVariants.{OutOfRange, WrongSize, NoSuchEvent, NoSuchOutside}
use Rattle.line.specs.declared.Table.{Table}
use Rattle.records.specs.Records.{head_at}
use Rattle.records.specs.declared.Head.{Head}
use Rattle.records.specs.declared.Head.TheVariants as head
use Rattle.card.specs.Card.{entry_at}
use Rattle.card.specs.declared.Entry.{Entry}
use Rattle.card.specs.declared.Fault.{Fault as CardFault}
use Rattle.card.specs.declared.Fault.TheVariants as on_card
use Rattle.recording.specs.declared.Fault.{Fault}
use Rattle.recording.specs.Reading.{number_of_fault, cut_off, cut_record, chip_record, card_record, slots_record, event_in, event_record, whole_record, at_end, found_by, found_at}
use Rattle.recording.specs.Cards.{room_for, cards_of}
use Rattle.recording.specs.Playing.{Ends, ended, part, refusal, Said, bits, none, Step, said_by, slots_step, record_step, play_all, after_cards, playback}
use Rattle.recording.specs.declared.CardsEnding.{CardsEnding}
use Rattle.recording.specs.declared.CardsEnding.TheVariants as cards
use Rattle.recording.specs.declared.Ending.TheVariants as ending
use Rattle.recording.specs.declared.Found.{Found}
use Rattle.recording.specs.declared.Found.TheVariants as found
use Rattle.recording.specs.declared.Record.{Record}
use Rattle.recording.specs.declared.Record.TheVariants as record_of
use Rattle.histories.specs.Joined.{stands_on}
use Rattle.histories.specs.SetUp.{set_up_range}
use Rattle.refusals.specs.Event.{refused_8, refused_5, refused_6}
use Rattle.played.specs.Standing.{CardTable, table_stands, blank-table, join_keeps, FoundFits, found_fits}
use Rattle.played.specs.History.{events_in, Comes, record_comes}
use Rattle.played.specs.Reached.{CardReached, first, chip, Reached, card, onto, Faulty, in_card, in_record, in_events, playback_refused}
use Rattle.played.specs.LineRefusals.{RefusalFor, record_refusal}
use Rattle.played.specs.Stops.{card_ends, Stops, by_any, play_stops, cards_stop}

-- what stands in a whole recording --------------------------------------------------------------------------

-- a number is one of these
abbrev pub one_of : ℕ → List ℕ → Bool
one_of n [] = false
one_of n (m ∷ ms) = eqb n m || one_of n ms

-- the refusals of a recording: document 01's of a card, and 7 of event 4; document 02's own
abbrev pub refusals : List ℕ
refusals = 1 ∷ 2 ∷ 3 ∷ 7 ∷ 9 ∷ 10 ∷ []

-- no part of a record, no event over 4, and no refusal but these
abbrev Settled : Result Found Fault → Type 0
Settled (Ok found.End) = Unit
Settled (Ok found.Part) = ⊥
Settled (Ok (found.Record (record_of.Chip code kind) next)) = Unit
Settled (Ok (found.Record (record_of.Slots count from to) next)) = Unit
Settled (Ok (found.Record (record_of.Event e) next)) = e.number ≤ 4
Settled (Err f) = one_of (number_of_fault f) refusals ≡ true

-- where nothing is left, and where a record is cut
end_settled : Settled (at_end false)
unfolding at_end pick
end_settled = tt

cut_settled : (right : Bool) → Settled (cut_off right false)
unfolding cut_off pick
cut_settled true = refl
cut_settled false = refl

-- a card record, by what document 01 says of it
entry_settled : (over : Bool) (x : Result (Option Entry) CardFault) → Settled (card_record over x)
unfolding chip_record
entry_settled over (Ok None) = tt
entry_settled over (Ok (Some e)) = pick_both Settled over _ _ refl tt
entry_settled over (Err on_card.TooMany) = refl
entry_settled over (Err on_card.UnknownKind) = refl
entry_settled over (Err on_card.WrongLength) = refl

-- the event of a record of kinds 17 to 19
event_settled : (s : List ℕ) (body kind : ℕ) → (event_in s body kind).number ≤ 4
unfolding event_in
event_settled s body kind =
    pick_both (λ (e : Event). e.number ≤ 4) (eqb kind 17) _ _ (omega arith)
    (pick_both (λ (e : Event). e.number ≤ 4) (eqb kind 18) _ _ (omega arith) (omega arith))

-- whatever stands at an offset
found_settled : (s : List ℕ) (at room : ℕ) (over : Bool) → Settled (found_at s at room over false)
unfolding found_at cut_record whole_record event_record slots_record
found_settled s at room over = by_head (head_at s at)
  where
    by_head : (h : Head) → Settled (found_by s at room over false h)
    by_head head.End = end_settled
    by_head head.Short = cut_settled true
    by_head (head.Cut size kind) = pick_both Settled _ _ _ (cut_settled _) (pick_both Settled _ _ _ (cut_settled _) refl)
    by_head (head.Whole size kind body next) =
        pick_both Settled _ _ _
        (pick_both Settled _ _ _ (pick_both Settled _ _ _ (pick_both Settled _ _ _ tt refl) (event_settled s body kind)) refl)
        (entry_settled over (entry_at s at room))

-- no end in the middle of a record --------------------------------------------------------------------------

-- playing ends otherwise, and so does reading the card
abbrev Over : Ends → Type 0
Over ended = Unit
Over part = ⊥
Over (refusal r) = Unit

module _ (s : List ℕ) where
  over_stops : (at room : ℕ) (over : Bool) → Stops (λ e p. Over e) s at (found_at s at room over false)
  over_stops at room over = by_found (found_at s at room over false) (found_settled s at room over)
    where
      by_found : (x : Result Found Fault) → Settled x → Stops (λ e p. Over e) s at x
      by_found (Ok found.End) h = tt
      by_found (Ok found.Part) h = h
      by_found (Ok (found.Record r next)) h = λ l. by_any (λ e p. Over e) at (λ n. tt) (record_step s r l).said
      by_found (Err f) h = tt

  play_over : (l : Attached) → Over (play_all false s l).ends
  play_over l = play_stops false s (λ e p. Over e) (λ at room over h. over_stops at room over) l

  cards_over : (t : Table) → Over (card_ends (cards_of false s t).ending)
  cards_over t = cards_stop false s (λ e p. Over e) (λ at room over h. over_stops at room over) (λ at h. tt) t

-- the whole recording, by how reading the card ended
after_over : (s : List ℕ) (at : ℕ) (t : Table) (e : CardsEnding) → Over (card_ends e) → Over (after_cards s at t e).ends
after_over s at t cards.Events h = play_over (drop at s) _
after_over s at t (cards.Stopped e) h = h

playback_over : (s : List ℕ) → Over (playback s).ends
unfolding playback
playback_over s = let c = cards_of false s (blank_table 0) in after_over s c.at c.table c.ending (cards_over s (blank_table 0))

-- THEOREM: where no more may come, neither the card nor what is played, on any line, nor a whole recording ends in the middle of a record
pub cards_never_part : (s : List ℕ) (t : Table) → (cards_of false s t).ending ≡ cards.Stopped (Ok ending.Part) → ⊥
cards_never_part s t e = subst (λ (x : CardsEnding). Over (card_ends x)) e (cards_over s t)

pub play_never_part : (s : List ℕ) (l : Attached) → (play_all false s l).ends ≡ part → ⊥
play_never_part s l e = subst Over e (play_over s l)

pub never_part : (s : List ℕ) → (playback s).ends ≡ part → ⊥
never_part s e = subst Over e (playback_over s)

-- no refusal but these --------------------------------------------------------------------------------------

-- every table that reading reaches, and every line that playing reaches, stands well
reached_table : (s : List ℕ) (t : Table) (at : ℕ) → CardReached s t at → CardTable t
reached_table s t at first = blank-table
reached_table s t at (chip {t = u} {at = o} code kind next h e) =
    let f = subst (FoundFits (room_for u.n)) e (found_fits s o (room_for u.n) false false) in
    join_keeps (set_up_chip code kind) u (let r = f.1 in omega arith) (set_up_range code kind f.0) (reached_table s u o h)

pub reached_stands : (s : List ℕ) (l : Attached) (at : ℕ) → Reached s l at → Stands l
reached_stands s l at (card {t = t} h e) = table_stands t (reached_table s t at h)
reached_stands s l at (onto {l = m} {at = o} x next bs h e b) =
    let w = reached_stands s m o h in
    let c = subst (λ (y : Said). Comes (events_in s x) m o y (record_step s x m).line) b (record_comes s x o m w) in
    subst Stands (sym c.1) (stands_on (events_in s x) m w)

-- on such a line what a record of the recording is refused by is one of these
abbrev RefusedSo : Said → Type 0
RefusedSo (bits bs) = Unit
RefusedSo (none r) = one_of r refusals ≡ true

module _ (l : Attached) (w : Stands l) where
  -- an event: neither 8 nor 5, by how the line stands, nor 6, by the event's number
  event_refused : (e : Event) → e.number ≤ 4 → (r : Refusal) → says_of e l ≡ refused (number_of r) → one_of (number_of r) refusals ≡ true
  unfolding says_of
  event_refused e k OutOfRange h = absurd (true≢false (sym w.range ∙ (refused_8 l.count l.lent.chips e l.lent.images l.lent.pads).0 h))
  event_refused e k WrongSize h = absurd (true≢false (sym w.sizes ∙ ((refused_5 l.count l.lent.chips e l.lent.images l.lent.pads).0 h).1))
  event_refused e k NoSuchEvent h =
      absurd (true≢false (sym (le-leb e.number 4 k) ∙ ((refused_6 l.count l.lent.chips e l.lent.images l.lent.pads).0 h).1.1))
  event_refused e k NoSuchOutside h = refl

  answer_refused : (e : Event) → e.number ≤ 4 → (y : Answered) → says_of e l ≡ y → RefusalFor (said_by y) → RefusedSo (said_by y)
  answer_refused e k (bit b) h f = tt
  answer_refused e k (refused n) h f = subst (λ (m : ℕ). one_of m refusals ≡ true) f.1 (event_refused e k f.0 (h ∙ ap refused (sym f.1)))

  -- any record; a run is not refused there
  record_refused : (s : List ℕ) (x : Record) (next : ℕ) → Settled (Ok (found.Record x next)) → RefusedSo (record_step s x l).said
  unfolding slots_step
  record_refused s (record_of.Chip code kind) next h = tt
  record_refused s (record_of.Slots count from to) next h =
      pick_both (λ (d : Step). RefusedSo d.said) (eqb count 0) _ _ tt
      (rw (well_judged l.count l.lent.chips l.lent.images l.lent.pads w.range w.sizes) tt)
  record_refused s (record_of.Event e) next h = answer_refused e h (says_of e l) refl (record_refusal s (record_of.Event e) l)

module _ (s : List ℕ) where
  -- THEOREM: a whole recording is refused by 1, 2, 3, 7, 9 or 10, or not at all
  pub refused_by : (r : ℕ) → (playback s).ends ≡ refusal r → one_of r refusals ≡ true
  refused_by r e = by_fault (playback s).at ((playback_refused s r (playback s).at).0 (e, refl))
    where
      by_fault : (p : ℕ) → Faulty s r p → one_of r refusals ≡ true
      by_fault p (in_card t f h n e q) = subst (λ (m : ℕ). one_of m refusals ≡ true) q (subst Settled e (found_settled s p (room_for t.n) false))
      by_fault p (in_record l f h e q) = subst (λ (m : ℕ). one_of m refusals ≡ true) q (subst Settled e (found_settled s p (room_for l.count) true))
      by_fault p (in_events l x next h e q) =
          subst RefusedSo q (record_refused l (reached_stands s l p h) s x next (subst Settled e (found_settled s p (room_for l.count) true)))

  -- THEOREM: so never by 8 or 5, whose table and buffers the recording itself sets up, nor by 6
  pub never_8_5 : ((playback s).ends ≡ refusal 8 → ⊥) × (((playback s).ends ≡ refusal 5 → ⊥) × ((playback s).ends ≡ refusal 6 → ⊥))
  never_8_5 = ((λ e. false≢true (refused_by 8 e)), ((λ e. false≢true (refused_by 5 e)), (λ e. false≢true (refused_by 6 e))))
