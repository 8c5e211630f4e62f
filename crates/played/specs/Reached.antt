-- Demand 1 for a whole recording: it is refused exactly when reading and playing record after record reaches one at fault, by that one's number
-- and at its first byte.
use Prim.Native.Nat.{ℕ, zero, suc, ◌≤◌}
use Rattle.std.proofs.Common.{arith, true≢false, ◌∙◌, subst}
use Rattle.std.specs.Prelude.{Bool, List, ◌≡◌, length, Result, Ok, Err}
use Rattle.std.proofs.Math.Bool.{true, false}
use Rattle.std.proofs.Math.Path.{refl, ap, sym}
use Rattle.base.specs.Exactly.{Iff}
use Rattle.base.specs.Pick.{pick_true, pick_false, pick_if}
use Rattle.chip.specs.Chip.{set_up_chip}
use Rattle.line.specs.Attached.{Attached}
use Rattle.line.specs.Tables.{blank_table, joined}
use Rattle.line.specs.declared.Table.{Table}
use Rattle.recording.specs.Reading.{number_of_fault, found_at, starts_event}
use Rattle.recording.specs.Cards.{room_for, cards_on, cards_from, cards_of}
use Rattle.recording.specs.Playing.{Ends, ended, part, refusal, Said, bits, none, record_step, Played, after, on_step, play_on, play_from, set_up_line, after_cards, playback}
use Rattle.recording.specs.Next.{found_lies}
use Rattle.recording.specs.declared.Fault.{Fault}
use Rattle.recording.specs.declared.Record.{Record}
use Rattle.recording.specs.declared.Record.TheVariants as record_of
use Rattle.recording.specs.declared.Found.{Found}
use Rattle.recording.specs.declared.Found.TheVariants as found
use Rattle.recording.specs.declared.Ending.TheVariants as ending
use Rattle.recording.specs.declared.CardsEnding.{CardsEnding}
use Rattle.recording.specs.declared.CardsEnding.TheVariants as cards
use Rattle.recording.specs.declared.CardsRead.{CardsRead}
use Rattle.played.specs.Fuel.{play_fuel, cards_fuel, play_there}
use Rattle.played.specs.Starts.{found_starts}

-- where a recording comes to ---------------------------------------------------------------------------------

-- reading reaches an offset with these chips, before any record of kinds 16 to 19
pub data CardReached (s : List ℕ) : Table → ℕ → Type 0 where
  first : CardReached s (blank_table 0) 0
  chip : {t : Table} {at : ℕ} (code kind next : ℕ) → CardReached s t at → found_at s at (room_for t.n) false false ≡ Ok (found.Record (record_of.Chip code kind) next)
      → CardReached s (joined (set_up_chip code kind) t) next

-- playing reaches an offset with this line, from the first record of kinds 16 to 19 on: none before it is at fault, and none of their events
-- is refused
pub data Reached (s : List ℕ) : Attached → ℕ → Type 0 where
  card : {t : Table} {at : ℕ} → CardReached s t at → starts_event s at ≡ true → Reached s (set_up_line t) at
  onto : {l : Attached} {at : ℕ} (x : Record) (next : ℕ) (bs : List Bool) → Reached s l at → found_at s at (room_for l.count) true false ≡ Ok (found.Record x next)
      → (record_step s x l).said ≡ bits bs → Reached s (record_step s x l).line next

-- what is reached at an offset is at fault: a record before the first of kinds 16 to 19, one from there on, or one of its events
pub data Faulty (s : List ℕ) (r p : ℕ) : Type 0 where
  in_card : (t : Table) (f : Fault) → CardReached s t p → starts_event s p ≡ false → found_at s p (room_for t.n) false false ≡ Err f → number_of_fault f ≡ r → Faulty s r p
  in_record : (l : Attached) (f : Fault) → Reached s l p → found_at s p (room_for l.count) true false ≡ Err f → number_of_fault f ≡ r → Faulty s r p
  in_events : (l : Attached) (x : Record) (next : ℕ) → Reached s l p → found_at s p (room_for l.count) true false ≡ Ok (found.Record x next) → (record_step s x l).said ≡ none r → Faulty s r p

-- the way there ----------------------------------------------------------------------------------------------

-- reading the card comes to an offset with these chips
record CardGoes (s : List ℕ) (t : Table) (at : ℕ) : Type 0 where
  within : at ≤ length s
  comes : cards_of false s (blank_table 0) ≡ cards_from (suc (length s)) false s at t

-- playing comes to an offset with this line
record Goes (s : List ℕ) (l : Attached) (at : ℕ) : Type 0 where
  within : at ≤ length s
  ends : (playback s).ends ≡ (play_from (suc (length s)) false s at l).ends
  offset : (playback s).at ≡ (play_from (suc (length s)) false s at l).at

module _ (s : List ℕ) where
  -- every offset that is reached is come to, with these chips
  card_goes : (t : Table) (at : ℕ) → CardReached s t at → CardGoes s t at
  unfolding cards_of cards_from
  card_goes t at first = record { within = omega arith; comes = refl }
  card_goes t at (chip {t = u} {at = o} code kind next h e) =
      let i = found_lies s o (room_for u.n) false false (record_of.Chip code kind) next e in
      record {
        within = i.within;
        comes = (card_goes u o h).comes
            ∙ pick_false _ _ _ (found_starts s o (room_for u.n) false false (record_of.Chip code kind) next e)
            ∙ ap (cards_on (λ next v. cards_from (length s) false s next v) o u) e
            ∙ cards_fuel false s (length s) (suc (length s)) next (joined (set_up_chip code kind) u) i.within (omega arith) (omega arith);
      }

  -- the first record of kinds 16 to 19
  started : (t : Table) (at : ℕ) → CardReached s t at → starts_event s at ≡ true → playback s ≡ play_from (suc (length s)) false s at (set_up_line t)
  unfolding playback cards_from
  started t at h e =
      let g = card_goes t at h in
      ap (λ (c : CardsRead). after_cards s c.at c.table c.ending) (g.comes ∙ pick_true _ _ _ e)
      ∙ sym (play_there false s at g.within (suc (length s)) (omega arith) (set_up_line t))

  -- and with this line, from there on
  goes : (l : Attached) (at : ℕ) → Reached s l at → Goes s l at
  unfolding play_from
  goes l at (card {t = t} h e) =
      let p = started t at h e in
      record { within = (card_goes t at h).within; ends = ap (λ (p : Played). p.ends) p; offset = ap (λ (p : Played). p.at) p }
  goes l at (onto {l = m} {at = o} x next bs h e b) =
      let g = goes m o h in
      let i = found_lies s o (room_for m.count) true false x next e in
      let go : ℕ → Attached → Played = λ next m. play_from (length s) false s next m in
      let k = (record_step s x m).line in
      let p : play_from (suc (length s)) false s o m ≡ after bs (play_from (suc (length s)) false s next k)
      = ap (play_on go s o m) e ∙ ap (λ (y : Said). on_step go o next y k) b
      ∙ ap (after bs) (play_fuel false s (length s) (suc (length s)) next k i.within (omega arith) (omega arith)) in
      record { within = i.within; ends = g.ends ∙ ap (λ (p : Played). p.ends) p; offset = g.offset ∙ ap (λ (p : Played). p.at) p }

  -- a recording that is refused comes to a fault, by how reading the card ended ..
  abbrev CardTo : ℕ → Table → CardsEnding → Type 0
  CardTo at t cards.Events = CardReached s t at × (starts_event s at ≡ true)
  CardTo at t (cards.Stopped (Ok ending.End)) = Unit
  CardTo at t (cards.Stopped (Ok ending.Part)) = Unit
  CardTo at t (cards.Stopped (Err f)) = Faulty s (number_of_fault f) at

  abbrev CardsTo : CardsRead → Type 0
  CardsTo c = CardTo c.at c.table c.ending

  -- what is found there, and what is read from there on
  card_found : (at : ℕ) (t : Table) (go : ℕ → Table → CardsRead) → CardReached s t at → starts_event s at ≡ false → ((next : ℕ) (u : Table) → CardReached s u next → CardsTo (go next u))
      → (f : Result Found Fault) → found_at s at (room_for t.n) false false ≡ f → CardsTo (cards_on go at t f)
  card_found at t go h n on (Ok found.End) e = tt
  card_found at t go h n on (Ok found.Part) e = tt
  card_found at t go h n on (Ok (found.Record (record_of.Chip code kind) next)) e = on next (joined (set_up_chip code kind) t) (chip code kind next h e)
  card_found at t go h n on (Ok (found.Record (record_of.Slots count from to) next)) e = absurd (true≢false (sym (found_starts s at (room_for t.n) false false _ next e) ∙ n))
  card_found at t go h n on (Ok (found.Record (record_of.Event x) next)) e = absurd (true≢false (sym (found_starts s at (room_for t.n) false false _ next e) ∙ n))
  card_found at t go h n on (Err f) e = in_card t f h n e refl

  card_to : (k at : ℕ) (t : Table) → CardReached s t at → CardsTo (cards_from k false s at t)
  unfolding cards_from
  card_to zero at t h = tt
  card_to (suc k) at t h =
      pick_if CardsTo (starts_event s at) _ _ (λ e. (h, e))
      (λ e. card_found at t _ h e (λ next u g. card_to k next u g) (found_at s at (room_for t.n) false false) refl)

  -- .. and by how playing ended
  abbrev EndTo : ℕ → Ends → Type 0
  EndTo at ended = Unit
  EndTo at part = Unit
  EndTo at (refusal r) = Faulty s r at

  abbrev PlayedTo : Played → Type 0
  PlayedTo p = EndTo p.at p.ends

  -- what the events of a record answer, what is found, and what is played from there on
  step_to : (at : ℕ) (l : Attached) (go : ℕ → Attached → Played) → Reached s l at → ((next : ℕ) (m : Attached) → Reached s m next → PlayedTo (go next m))
      → (x : Record) (next : ℕ) → found_at s at (room_for l.count) true false ≡ Ok (found.Record x next) → (y : Said) → (record_step s x l).said ≡ y
      → PlayedTo (on_step go at next y (record_step s x l).line)
  step_to at l go h on x next e (bits bs) g = on next (record_step s x l).line (onto x next bs h e g)
  step_to at l go h on x next e (none r) g = in_events l x next h e g

  found_to : (at : ℕ) (l : Attached) (go : ℕ → Attached → Played) → Reached s l at → ((next : ℕ) (m : Attached) → Reached s m next → PlayedTo (go next m))
      → (f : Result Found Fault) → found_at s at (room_for l.count) true false ≡ f → PlayedTo (play_on go s at l f)
  found_to at l go h on (Ok found.End) e = tt
  found_to at l go h on (Ok found.Part) e = tt
  found_to at l go h on (Ok (found.Record x next)) e = step_to at l go h on x next e (record_step s x l).said refl
  found_to at l go h on (Err f) e = in_record l f h e refl

  play_to : (k at : ℕ) (l : Attached) → Reached s l at → PlayedTo (play_from k false s at l)
  unfolding play_from
  play_to zero at l h = tt
  play_to (suc k) at l h = found_to at l _ h (λ next m g. play_to k next m g) (found_at s at (room_for l.count) true false) refl

  -- the whole recording: after the card, and with it
  after_to : (at : ℕ) (t : Table) (e : CardsEnding) → CardTo at t e → PlayedTo (after_cards s at t e)
  after_to at t cards.Events (h, e) =
      subst PlayedTo (play_there false s at (card_goes t at h).within (suc (length s)) (omega arith) (set_up_line t)) (play_to (suc (length s)) at (set_up_line t) (card h e))
  after_to at t (cards.Stopped (Ok ending.End)) h = tt
  after_to at t (cards.Stopped (Ok ending.Part)) h = tt
  after_to at t (cards.Stopped (Err f)) h = h

  playback_to : PlayedTo (playback s)
  unfolding playback cards_of
  playback_to = let c = cards_of false s (blank_table 0) in after_to c.at c.table c.ending (card_to (suc (length s)) 0 (blank_table 0) first)

  -- a fault that is reached refuses the recording
  refuses : (r p : ℕ) → Faulty s r p → ((playback s).ends ≡ refusal r) × ((playback s).at ≡ p)
  unfolding playback cards_from play_from
  refuses r p (in_card t f h n e q) =
      let c = (card_goes t p h).comes ∙ pick_false _ _ _ n ∙ ap (cards_on (λ next v. cards_from (length s) false s next v) p t) e in
      let b = ap (λ (c : CardsRead). after_cards s c.at c.table c.ending) c in
      (ap (λ (p : Played). p.ends) b ∙ ap refusal q, ap (λ (p : Played). p.at) b)
  refuses r p (in_record l f h e q) =
      let g = goes l p h in
      let b = ap (play_on (λ next m. play_from (length s) false s next m) s p l) e in
      (g.ends ∙ ap (λ (p : Played). p.ends) b ∙ ap refusal q, g.offset ∙ ap (λ (p : Played). p.at) b)
  refuses r p (in_events l x next h e q) =
      let g = goes l p h in
      let go : ℕ → Attached → Played = λ next m. play_from (length s) false s next m in
      let b = ap (play_on go s p l) e ∙ ap (λ (y : Said). on_step go p next y (record_step s x l).line) q in
      (g.ends ∙ ap (λ (p : Played). p.ends) b, g.offset ∙ ap (λ (p : Played). p.at) b)

  -- THEOREM: playback ends by a refusal at an offset exactly when what is at fault by that number is reached there
  pub playback_refused : (r p : ℕ) → Iff (((playback s).ends ≡ refusal r) × ((playback s).at ≡ p)) (Faulty s r p)
  playback_refused r p = ((λ e. subst (Faulty s r) e.1 (subst (EndTo (playback s).at) e.0 playback_to)), refuses r p)
