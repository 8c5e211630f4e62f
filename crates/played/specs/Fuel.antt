-- Laws: how many records playing and reading may take at most does not matter, as long as they may be as many as the bytes.
use Prim.Native.Nat.{ℕ, zero, suc, ◌+◌, ◌<◌, ◌≤◌}
use Rattle.std.proofs.Common.{add-zero, arith, ◌∙◌, sym}
use Rattle.std.specs.Prelude.{Bool, List, ◌≡◌, refl, length, drop, Result, Ok, Err}
use Rattle.std.proofs.Math.Bool.{true, false}
use Rattle.std.proofs.Math.Path.{ap}
use Rattle.std.proofs.Math.ListN.{length-drop}
use Rattle.base.specs.Pick.{pick}
use Rattle.chip.specs.Chip.{set_up_chip}
use Rattle.line.specs.Attached.{Attached}
use Rattle.line.specs.Tables.{joined}
use Rattle.line.specs.declared.Table.{Table}
use Rattle.recording.specs.declared.Fault.{Fault}
use Rattle.recording.specs.Reading.{found_at, starts_event}
use Rattle.recording.specs.Cards.{room_for, cards_read, cards_on, cards_from, cards_of}
use Rattle.recording.specs.Playing.{Said, bits, none, record_step, Played, after, on_step, play_on, play_from, play_all, further}
use Rattle.recording.specs.Next.{Sound, found_sound}
use Rattle.recording.specs.declared.CardsEnding.TheVariants as cards
use Rattle.recording.specs.declared.CardsRead.{CardsRead}
use Rattle.recording.specs.declared.Record.TheVariants as record_of
use Rattle.recording.specs.declared.Found.{Found}
use Rattle.recording.specs.declared.Found.TheVariants as found
use Rattle.played.specs.Moved.{further_cards, play_moved, cards_moved}

module _ (more : Bool) (s : List ℕ) where
  -- playing goes on alike, where it does after each record that lies in the bytes
  play_on_alike : (at : ℕ) (l : Attached) (on on' : ℕ → Attached → Played) → ((next : ℕ) (u : Attached) → at < next → next ≤ length s → on next u ≡ on' next u)
      → (x : Result Found Fault) → Sound s at x → play_on on s at l x ≡ play_on on' s at l x
  play_on_alike at l on on' e (Ok found.End) i = refl
  play_on_alike at l on on' e (Ok found.Part) i = refl
  play_on_alike at l on on' e (Ok (found.Record r next)) i = by_said (record_step s r l).said (record_step s r l).line
    where
      by_said : (x : Said) (u : Attached) → on_step on at next x u ≡ on_step on' at next x u
      by_said (bits bs) u = ap (after bs) (e next u (let a = i.further in omega arith) i.within)
      by_said (none r) u = refl
  play_on_alike at l on on' e (Err f) i = refl

  -- from any offset on
  pub play_fuel : (k j at : ℕ) (l : Attached) → at ≤ length s → length s < at + k → length s < at + j → play_from k more s at l ≡ play_from j more s at l
  unfolding play_from
  play_fuel zero j at l h a b = absurd (omega arith)
  play_fuel (suc k) zero at l h a b = absurd (omega arith)
  play_fuel (suc k) (suc j) at l h a b =
      play_on_alike at l _ _ (λ next u p q. play_fuel k j next u q (omega arith) (omega arith)) (found_at s at (room_for l.count) true more) (found_sound s at (room_for l.count) true more)

  -- and so does reading
  cards_on_alike : (at : ℕ) (t : Table) (on on' : ℕ → Table → CardsRead) → ((next : ℕ) (u : Table) → at < next → next ≤ length s → on next u ≡ on' next u)
      → (x : Result Found Fault) → Sound s at x → cards_on on at t x ≡ cards_on on' at t x
  cards_on_alike at t on on' e (Ok found.End) i = refl
  cards_on_alike at t on on' e (Ok found.Part) i = refl
  cards_on_alike at t on on' e (Ok (found.Record (record_of.Chip code kind) next)) i = e next (joined (set_up_chip code kind) t) (let a = i.further in omega arith) i.within
  cards_on_alike at t on on' e (Ok (found.Record (record_of.Slots count from to) next)) i = refl
  cards_on_alike at t on on' e (Ok (found.Record (record_of.Event v) next)) i = refl
  cards_on_alike at t on on' e (Err f) i = refl

  -- from any offset on
  pub cards_fuel : (k j at : ℕ) (t : Table) → at ≤ length s → length s < at + k → length s < at + j → cards_from k more s at t ≡ cards_from j more s at t
  unfolding cards_from
  cards_fuel zero j at t h a b = absurd (omega arith)
  cards_fuel (suc k) zero at t h a b = absurd (omega arith)
  cards_fuel (suc k) (suc j) at t h a b =
      ap (λ (c : CardsRead). pick (starts_event s at) (cards_read cards.Events at t) c)
      (cards_on_alike at t _ _ (λ next u p q. cards_fuel k j next u q (omega arith) (omega arith)) (found_at s at (room_for t.n) false more) (found_sound s at (room_for t.n) false more))

-- from an offset on it is all that is there from it on, so many bytes further on
module _ (more : Bool) (s : List ℕ) (at : ℕ) (h : at ≤ length s) (k : ℕ) (g : length s < at + k) where
  pub play_there : (l : Attached) → play_from k more s at l ≡ further at (play_all more (drop at s) l)
  unfolding play_all
  play_there l =
      let e = length-drop at s in
      ap (λ (x : ℕ). play_from k more s x l) (sym (add-zero at)) ∙ play_moved s at h k more 0 l
      ∙ ap (further at) (play_fuel more (drop at s) k (suc (length (drop at s))) 0 l (omega arith) (omega arith) (omega arith))

  pub cards_there : (t : Table) → cards_from k more s at t ≡ further_cards at (cards_of more (drop at s) t)
  unfolding cards_of
  cards_there t =
      let e = length-drop at s in
      ap (λ (x : ℕ). cards_from k more s x t) (sym (add-zero at)) ∙ cards_moved s at h k more 0 t
      ∙ ap (further_cards at) (cards_fuel more (drop at s) k (suc (length (drop at s))) 0 t (omega arith) (omega arith) (omega arith))
