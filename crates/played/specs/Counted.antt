-- A recording handed over in pieces: at every stage each byte was taken or is held.
use Rattle.std.specs.Prelude.{ℕ, ◌+◌, ◌≤◌, Bool, List, ◌++◌, ◌≡◌, refl, length, drop, Result, Ok, Err}
use Rattle.std.proofs.Common.{arith, ◌∙◌, length-append, length-drop}
use Rattle.line.specs.Attached.{Attached}
use Rattle.line.specs.declared.Table.{Table}
use Rattle.recording.specs.declared.Fault.{Fault}
use Rattle.recording.specs.Reading.{found_at}
use Rattle.recording.specs.Cards.{cards_of}
use Rattle.recording.specs.Playing.{Ends, record_step, play_all, set_up_line}
use Rattle.recording.specs.declared.CardsEnding.{CardsEnding}
use Rattle.recording.specs.declared.CardsEnding.TheVariants as cards
use Rattle.recording.specs.declared.Ending.TheVariants as ending
use Rattle.recording.specs.declared.Found.{Found}
use Rattle.recording.specs.declared.Found.TheVariants as found
use Rattle.played.specs.Handed.{Stage, carding, playing, over, Hand, card_after, hand_bytes, hand_piece}
use Rattle.played.specs.Stops.{Stops, by_any, play_stops, cards_stop}

-- playing and reading end within the bytes that are there
module _ (more : Bool) (s : List ℕ) where
  abbrev Within : Ends → ℕ → Type 0
  Within e at = at ≤ length s

  within_stops : (at room : ℕ) (event : Bool) → at ≤ length s → Stops Within s at (found_at s at room event more)
  within_stops at room event h = by_found (found_at s at room event more)
    where
      by_found : (x : Result Found Fault) → Stops Within s at x
      by_found (Ok found.End) = h
      by_found (Ok found.Part) = h
      by_found (Ok (found.Record r next)) = λ l. by_any Within at (λ n. h) (record_step s r l).said
      by_found (Err f) = h

  all_played : (l : Attached) → (play_all more s l).at ≤ length s
  all_played l = play_stops more s Within within_stops l

  all_read : (t : Table) → (cards_of more s t).at ≤ length s
  all_read t = cards_stop more s Within within_stops (λ at h. h) t

-- how many bytes were taken or are held
abbrev bytes_in : Hand → ℕ
bytes_in h = h.taken + length h.held

-- bytes taken leave so many fewer
dropped : (n at : ℕ) (s : List ℕ) → at ≤ length s → n + at + length (drop at s) ≡ n + length s
dropped n at s h = let e = length-drop at s in omega arith

-- none is lost by reading a card, nor by playing
card_counted : (more : Bool) (s : List ℕ) (n : ℕ) (bs : List Bool) (at : ℕ) (t : Table) (x : CardsEnding) → at ≤ length s → bytes_in (card_after more s n bs at t x) ≡ n + length s
card_counted more s n bs at t cards.Events h = dropped (n + at) (play_all more (drop at s) (set_up_line t)).at (drop at s) (all_played more (drop at s) (set_up_line t)) ∙ dropped n at s h
card_counted more s n bs at t (cards.Stopped (Ok ending.End)) h = dropped n at s h
card_counted more s n bs at t (cards.Stopped (Ok ending.Part)) h = dropped n at s h
card_counted more s n bs at t (cards.Stopped (Err f)) h = dropped n at s h

bytes_counted : (more : Bool) (s : List ℕ) (n : ℕ) (bs : List Bool) (g : Stage) → bytes_in (hand_bytes more s n bs g) ≡ n + length s
bytes_counted more s n bs (carding t) = let c = cards_of more s t in card_counted more s n bs c.at c.table c.ending (all_read more s t)
bytes_counted more s n bs (playing l) = dropped n (play_all more s l).at s (all_played more s l)
bytes_counted more s n bs (over e l) = refl

-- a piece adds its bytes
pub piece_counted : (more : Bool) (p : List ℕ) (h : Hand) → bytes_in (hand_piece more p h) ≡ bytes_in h + length p
unfolding hand_piece
piece_counted more p h =
    let e = length-append h.held p in
    let both : h.taken + length (h.held ++ p) ≡ bytes_in h + length p = omega arith in
    bytes_counted more (h.held ++ p) h.taken h.answers h.stage ∙ both
