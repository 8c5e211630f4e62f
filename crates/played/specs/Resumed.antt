-- Laws: playing and reading all that is there, though more may come, and going on with the rest where that stopped, is playing and reading with the rest.
use Prim.Native.Nat.{ℕ, zero, suc, ◌+◌, ◌-◌, ◌<◌, ◌≤◌}
use Rattle.std.proofs.Common.{arith, ◌∙◌, sym, length-drop, leb-true, leb-false}
use Rattle.std.specs.Prelude.{Bool, ◌≡◌, leb, length, take, drop, Result, Ok, Err}
use Rattle.std.proofs.Math.Bool.{true, false}
use mathlib.Core.List.{List, ◌++◌, append_assoc}
use Rattle.std.proofs.Math.Path.{refl, ap}
use Rattle.std.proofs.Math.ListN.{length-append}
use Rattle.std.proofs.lemmas.List.{take-append-le, drop-append-le}
use Rattle.base.specs.Pick.{pick, pick_true, pick_false}
use Rattle.chip.specs.Chip.{set_up_chip}
use Rattle.line.specs.Attached.{Attached}
use Rattle.line.specs.Tables.{joined}
use Rattle.line.specs.declared.Table.{Table}
use Rattle.recording.specs.declared.Fault.{Fault}
use Rattle.recording.specs.Reading.{found_at, starts_event}
use Rattle.recording.specs.There.{found_awaited, starts_not}
use Rattle.recording.specs.Cards.{room_for, cards_read, cards_on, cards_from, cards_of}
use Rattle.recording.specs.Playing.{Ends, ended, part, refusal, Said, bits, none, slots_step, record_step, Played, played, after, on_step, play_on, play_from, play_all, further}
use Rattle.recording.specs.Putting.{RecordFits}
use Rattle.recording.specs.Next.{Sound, found_sound}
use Rattle.recording.specs.declared.Ending.TheVariants as ending
use Rattle.recording.specs.declared.CardsEnding.{CardsEnding}
use Rattle.recording.specs.declared.CardsEnding.TheVariants as cards
use Rattle.recording.specs.declared.CardsRead.{CardsRead}
use Rattle.recording.specs.declared.Record.{Record}
use Rattle.recording.specs.declared.Record.TheVariants as record_of
use Rattle.recording.specs.declared.Found.{Found}
use Rattle.recording.specs.declared.Found.TheVariants as found
use Rattle.played.specs.Prefix.{Stays, starts_stays, prefix}
use Rattle.played.specs.Moved.{further_cards}
use Rattle.played.specs.Fuel.{play_there, cards_there}

-- the bytes s are there, and the bytes t come after them; then more may come or not
module _ (more : Bool) (s t : List ℕ) where
  -- what playing comes to with t, by how it ended without: before a part it goes on there, and a refusal stays
  abbrev pub Resumes : List Bool → Ends → ℕ → Attached → Played → Type 0
  Resumes bs ended at l q = ⊥
  Resumes bs part at l q = (at ≤ length s) × (q ≡ after bs (further at (play_all more (drop at s ++ t) l)))
  Resumes bs (refusal r) at l q = q ≡ played bs (refusal r) at l

  abbrev pub Resumed : Played → Played → Type 0
  Resumed p q = Resumes p.answers p.ends p.at p.line q

  -- after answers that came before
  after_resumed : (bs : List Bool) (p q : Played) → Resumed p q → Resumed (after bs p) (after bs q)
  after_resumed bs p q = by_end p.answers p.ends p.at p.line
    where
      by_end : (cs : List Bool) (e : Ends) (at : ℕ) (l : Attached) → Resumes cs e at l q → Resumes (bs ++ cs) e at l (after bs q)
      by_end cs ended at l r = r
      by_end cs part at l r =
          let o = play_all more (drop at s ++ t) l in
          (r.0, ap (after bs) r.1 ∙ (λ j. played (sym (append_assoc bs cs o.answers) j) o.ends (at + o.at) o.line))
      by_end cs (refusal n) at l r = ap (after bs) r

  -- the events of a record that is there
  pub step_stays : (r : Record) (l : Attached) → RecordFits s r → record_step (s ++ t) r l ≡ record_step s r l
  step_stays (record_of.Chip code kind) l i = refl
  step_stays (record_of.Slots count from to) l i =
      let a = i.0 in
      let b = i.1 in
      let e = length-drop from s in
      let d : take (to - from) (drop from (s ++ t)) ≡ take (to - from) (drop from s)
      = ap (take (to - from)) (drop-append-le from s t (omega arith)) ∙ take-append-le (to - from) (drop from s) t (omega arith) in
      ap (λ (x : List ℕ). slots_step count x l) d
  step_stays (record_of.Event e) l i = refl

  -- by what stands at an offset, where playing resumes after each record
  module _ (at : ℕ) (l : Attached) (h : at ≤ length s) (on on' : ℕ → Attached → Played)
      (e : (next : ℕ) (u : Attached) → at < next → next ≤ length s → Resumed (on next u) (on' next u)) (q : Played) (w : q ≡ further at (play_all more (drop at s ++ t) l)) where
    play_on_resumed : (x y : Result Found Fault) → q ≡ play_on on' (s ++ t) at l y → Stays x y → Sound s at x → Resumed (play_on on s at l x) q
    play_on_resumed (Ok found.End) y g f i = absurd f
    play_on_resumed (Ok found.Part) y g f i = (h, w)
    play_on_resumed (Ok (found.Record r next)) y g f i =
        rw (g ∙ ap (play_on on' (s ++ t) at l) f)
        (rw (step_stays r l i.fits)
        (by_said (record_step s r l).said (record_step s r l).line))
      where
        by_said : (x : Said) (u : Attached) → Resumed (on_step on at next x u) (on_step on' at next x u)
        by_said (bits bs) u = after_resumed bs (on next u) (on' next u) (e next u (let a = i.further in omega arith) i.within)
        by_said (none n) u = refl
    play_on_resumed (Err r) y g f i = g ∙ ap (play_on on' (s ++ t) at l) f

  -- so it does from any offset on
  pub play_resumed : (k j at : ℕ) (l : Attached) → at ≤ length s → length s < at + k → length (s ++ t) < at + j → Resumed (play_from k true s at l) (play_from j more (s ++ t) at l)
  unfolding play_from
  play_resumed zero j at l h a b = absurd (omega arith)
  play_resumed (suc k) zero at l h a b = let e = length-append s t in absurd (omega arith)
  play_resumed (suc k) (suc j) at l h a b =
      let e = length-append s t in
      let room = room_for l.count in
      play_on_resumed at l h _ (λ next u. play_from j more (s ++ t) next u) (λ next u p q. play_resumed k j next u q (omega arith) (omega arith)) (play_from (suc j) more (s ++ t) at l)
      (play_there more (s ++ t) at (omega arith) (suc j) b l ∙ ap (λ (x : List ℕ). further at (play_all more x l)) (drop-append-le at s t h))
      (found_at s at room true true) (found_at (s ++ t) at room true more) refl (prefix s t at room true more) (found_sound s at room true true)

  -- reading a card likewise; a record of an event ends it also with t
  abbrev pub CardsResume : CardsEnding → ℕ → Table → CardsRead → Type 0
  CardsResume cards.Events at u q = (at ≤ length s) × (q ≡ cards_read cards.Events at u)
  CardsResume (cards.Stopped (Ok ending.End)) at u q = ⊥
  CardsResume (cards.Stopped (Ok ending.Part)) at u q = (at ≤ length s) × (q ≡ further_cards at (cards_of more (drop at s ++ t) u))
  CardsResume (cards.Stopped (Err f)) at u q = q ≡ cards_read (cards.Stopped (Err f)) at u

  abbrev pub CardsResumed : CardsRead → CardsRead → Type 0
  CardsResumed c q = CardsResume c.ending c.at c.table q

  -- by what stands at an offset
  cards_on_resumed : (at : ℕ) (u : Table) → at ≤ length s → (on on' : ℕ → Table → CardsRead)
      → ((next : ℕ) (v : Table) → at < next → next ≤ length s → CardsResumed (on next v) (on' next v)) → (q : CardsRead)
      → q ≡ further_cards at (cards_of more (drop at s ++ t) u) → (x y : Result Found Fault) → q ≡ cards_on on' at u y → Stays x y → Sound s at x → CardsResumed (cards_on on at u x) q
  cards_on_resumed at u h on on' e q w (Ok found.End) y g f i = absurd f
  cards_on_resumed at u h on on' e q w (Ok found.Part) y g f i = (h, w)
  cards_on_resumed at u h on on' e q w (Ok (found.Record (record_of.Chip code kind) next)) y g f i = rw (g ∙ ap (cards_on on' at u) f) (e next (joined (set_up_chip code kind) u) (let a = i.further in omega arith) i.within)
  cards_on_resumed at u h on on' e q w (Ok (found.Record (record_of.Slots count from to) next)) y g f i = (h, g ∙ ap (cards_on on' at u) f)
  cards_on_resumed at u h on on' e q w (Ok (found.Record (record_of.Event v) next)) y g f i = (h, g ∙ ap (cards_on on' at u) f)
  cards_on_resumed at u h on on' e q w (Err r) y g f i = g ∙ ap (cards_on on' at u) f

  -- before that, by whether an event starts there
  cards_by_kind : (at : ℕ) (u : Table) → (on on' : ℕ → Table → CardsRead) (x y : Result Found Fault) (q : CardsRead) → q ≡ pick (starts_event (s ++ t) at) (cards_read cards.Events at u) (cards_on on' at u y)
      → (length s < at + 4 → x ≡ Ok found.Part) → (at ≤ length s) × (q ≡ further_cards at (cards_of more (drop at s ++ t) u)) → (q ≡ cards_on on' at u y → CardsResumed (cards_on on at u x) q)
      → CardsResumed (pick (starts_event s at) (cards_read cards.Events at u) (cards_on on at u x)) q
  cards_by_kind at u on on' x y q g few w f = by_head (leb (at + 4) (length s)) refl
    where
      by_starts : at + 4 ≤ length s → (b : Bool) → starts_event s at ≡ b → CardsResumed (pick b (cards_read cards.Events at u) (cards_on on at u x)) q
      by_starts h true e = rw (pick_true true (cards_read cards.Events at u) (cards_on on at u x) refl) (w.0, g ∙ pick_true _ _ _ (starts_stays s t at h ∙ e))
      by_starts h false e = rw (pick_false false (cards_read cards.Events at u) (cards_on on at u x) refl) (f (g ∙ pick_false _ _ _ (starts_stays s t at h ∙ e)))

      by_head : (b : Bool) → leb (at + 4) (length s) ≡ b → CardsResumed (pick (starts_event s at) (cards_read cards.Events at u) (cards_on on at u x)) q
      by_head true e = by_starts (leb-true _ _ e) (starts_event s at) refl
      by_head false e =
          let l = leb-false _ _ e in
          rw (pick_false (starts_event s at) (cards_read cards.Events at u) (cards_on on at u x) (starts_not s at l) ∙ ap (cards_on on at u) (few l)) w

  -- from any offset on
  pub cards_resumed : (k j at : ℕ) (u : Table) → at ≤ length s → length s < at + k → length (s ++ t) < at + j → CardsResumed (cards_from k true s at u) (cards_from j more (s ++ t) at u)
  unfolding cards_from
  cards_resumed zero j at u h a b = absurd (omega arith)
  cards_resumed (suc k) zero at u h a b = let e = length-append s t in absurd (omega arith)
  cards_resumed (suc k) (suc j) at u h a b =
      let e = length-append s t in
      let room = room_for u.n in
      let w : cards_from (suc j) more (s ++ t) at u ≡ further_cards at (cards_of more (drop at s ++ t) u)
      = cards_there more (s ++ t) at (omega arith) (suc j) b u ∙ ap (λ (x : List ℕ). further_cards at (cards_of more x u)) (drop-append-le at s t h) in
      cards_by_kind at u (λ next v. cards_from k true s next v) (λ next v. cards_from j more (s ++ t) next v) (found_at s at room false true) (found_at (s ++ t) at room false more) (cards_from (suc j) more (s ++ t) at u) refl
      (λ l. found_awaited s at room false l) (h, w)
      (λ g. cards_on_resumed at u h _ (λ next v. cards_from j more (s ++ t) next v) (λ next v p q. cards_resumed k j next v q (omega arith) (omega arith)) _ w (found_at s at room false true) (found_at (s ++ t) at room false more) g (prefix s t at room false more) (found_sound s at room false true))
