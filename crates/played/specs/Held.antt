-- THEOREM: whatever the pieces of a recording are, what is held between them is shorter than the longest record.
use Rattle.std.specs.Prelude.{ℕ, ◌+◌, ◌<◌, Bool, List, ◌++◌, length, drop, Result, Ok, Err}
use Rattle.std.proofs.Common.{arith, length-drop}
use Rattle.histories.specs.Below.{Bytes, none_below, append_bytes, drop_bytes}
use Rattle.line.specs.Attached.{Attached}
use Rattle.line.specs.declared.Table.{Table}
use Rattle.recording.specs.declared.Fault.{Fault}
use Rattle.recording.specs.Reading.{found_at}
use Rattle.recording.specs.Cards.{cards_of}
use Rattle.recording.specs.Playing.{Ends, ended, part, refusal, record_step, Played, play_all, set_up_line}
use Rattle.recording.specs.declared.Ending.TheVariants as ending
use Rattle.recording.specs.declared.CardsEnding.{CardsEnding}
use Rattle.recording.specs.declared.CardsEnding.TheVariants as cards
use Rattle.recording.specs.declared.CardsRead.{CardsRead}
use Rattle.recording.specs.declared.Found.{Found}
use Rattle.recording.specs.declared.Found.TheVariants as found
use Rattle.played.specs.Handed.{Stage, carding, playing, over, Hand, start, stage_after, hand_after, card_after, hand_bytes, hand_piece}
use Rattle.played.specs.Small.{longest, Small, found_small}
use Rattle.played.specs.Stops.{card_ends, Stops, by_any, play_stops, cards_stop}

-- where playing or reading ended before a part, few bytes are left
abbrev FewLeft : List ℕ → Ends → ℕ → Type 0
FewLeft s ended at = Unit
FewLeft s part at = length s < at + longest
FewLeft s (refusal r) at = Unit

-- at every offset
few_stops : (more : Bool) (s : List ℕ) → Bytes s → (at room : ℕ) (event : Bool) → Stops (FewLeft s) s at (found_at s at room event more)
few_stops more s b at room event = by_found (found_at s at room event more) (found_small s b at room event more)
  where
    by_found : (x : Result Found Fault) → Small s at x → Stops (FewLeft s) s at x
    by_found (Ok found.End) f = tt
    by_found (Ok found.Part) f = f
    by_found (Ok (found.Record r next)) f = λ l. by_any (FewLeft s) at (λ n. tt) (record_step s r l).said
    by_found (Err r) f = tt

-- what is held is bytes, and until the recording is over fewer than the longest record has
abbrev pub Few : Stage → List ℕ → Type 0
Few (carding u) s = length s < longest
Few (playing l) s = length s < longest
Few (over e l) s = Unit

pub record Fits (h : Hand) : Type 0 where
  pub bytes : Bytes h.held
  pub few : Few h.stage h.held

-- after playing
play_fits : (more : Bool) (s : List ℕ) (n : ℕ) (bs : List Bool) (l : Attached) → Bytes s → Fits (hand_after s n bs (play_all more s l))
play_fits more s n bs l b = record { bytes = drop_bytes p.at s b; few = by_end p.ends (play_stops more s (FewLeft s) (λ at room event h. few_stops more s b at room event) l) }
  where
    p : Played
    p = play_all more s l

    by_end : (e : Ends) → FewLeft s e p.at → Few (stage_after e p.line) (drop p.at s)
    by_end ended f = tt
    by_end part f = let e = length-drop p.at s in omega arith
    by_end (refusal r) f = tt

-- after reading a card
card_fits : (more : Bool) (s : List ℕ) (n : ℕ) (bs : List Bool) (u : Table) → Bytes s → Fits (hand_bytes more s n bs (carding u))
card_fits more s n bs u b = by_ending c.ending c.at c.table (cards_stop more s (FewLeft s) (λ at room event h. few_stops more s b at room event) (λ at h. tt) u)
  where
    c : CardsRead
    c = cards_of more s u

    by_ending : (e : CardsEnding) (at : ℕ) (v : Table) → FewLeft s (card_ends e) at → Fits (card_after more s n bs at v e)
    by_ending cards.Events at v f = play_fits more (drop at s) (n + at) bs (set_up_line v) (drop_bytes at s b)
    by_ending (cards.Stopped (Ok ending.End)) at v f = record { bytes = drop_bytes at s b; few = tt }
    by_ending (cards.Stopped (Ok ending.Part)) at v f = record { bytes = drop_bytes at s b; few = let e = length-drop at s in omega arith }
    by_ending (cards.Stopped (Err r)) at v f = record { bytes = drop_bytes at s b; few = tt }

-- before the first piece, and after each
pub start_fits : Fits start
start_fits = record { bytes = none_below 256; few = omega arith }

pub piece_fits : (more : Bool) (p : List ℕ) (h : Hand) → Bytes p → Fits h → Fits (hand_piece more p h)
unfolding hand_piece
piece_fits more p h a f = by_stage h.stage
  where
    b : Bytes (h.held ++ p)
    b = append_bytes h.held p f.bytes a

    by_stage : (g : Stage) → Fits (hand_bytes more (h.held ++ p) h.taken h.answers g)
    by_stage (carding u) = card_fits more (h.held ++ p) h.taken h.answers u b
    by_stage (playing l) = play_fits more (h.held ++ p) h.taken h.answers l b
    by_stage (over e l) = record { bytes = b; few = tt }
