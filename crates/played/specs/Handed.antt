-- A recording handed over in pieces: what the caller of `read_cards` and `play` keeps between two pieces, and what it comes to.
use Rattle.std.specs.Prelude.{ℕ, ◌+◌, Bool, true, false, List, [], ◌∷◌, ◌++◌, drop, Ok, Err}
use Rattle.line.specs.Attached.{Attached}
use Rattle.line.specs.Tables.{blank_table}
use Rattle.line.specs.declared.Table.{Table}
use Rattle.recording.specs.Cards.{cards_of}
use Rattle.recording.specs.Playing.{Ends, ended, part, refusal, ends_of, Played, played, play_all, set_up_line}
use Rattle.recording.specs.declared.Ending.TheVariants as ending
use Rattle.recording.specs.declared.CardsEnding.{CardsEnding}
use Rattle.recording.specs.declared.CardsEnding.TheVariants as cards

-- how far the recording has come: into its card, into its events, or to its end
pub data Stage : Type 0 where
  carding : Table → Stage
  playing : Attached → Stage
  over : Ends → Attached → Stage

-- with it the bytes that are not taken yet, how many were, and the answers so far
pub record Hand : Type 0 where
  pub stage : Stage
  pub held : List ℕ
  pub taken : ℕ
  pub answers : List Bool

abbrev pub hand : Stage → List ℕ → ℕ → List Bool → Hand
hand g s n bs = record { stage = g; held = s; taken = n; answers = bs }

-- before the first piece
abbrev pub start : Hand
start = hand (carding (blank_table 0)) [] 0 []

-- how playing ended tells where it goes on
abbrev pub stage_after : Ends → Attached → Stage
stage_after ended l = over ended l
stage_after part l = playing l
stage_after (refusal r) l = over (refusal r) l

-- what was played of the bytes at hand
abbrev pub hand_after : List ℕ → ℕ → List Bool → Played → Hand
hand_after s n bs p = hand (stage_after p.ends p.line) (drop p.at s) (n + p.at) (bs ++ p.answers)

-- what was read of a card
abbrev pub card_after : Bool → List ℕ → ℕ → List Bool → ℕ → Table → CardsEnding → Hand
card_after more s n bs at t cards.Events = hand_after (drop at s) (n + at) bs (play_all more (drop at s) (set_up_line t))
card_after more s n bs at t (cards.Stopped (Ok ending.End)) = hand (over ended (set_up_line t)) (drop at s) (n + at) bs
card_after more s n bs at t (cards.Stopped (Ok ending.Part)) = hand (carding t) (drop at s) (n + at) bs
card_after more s n bs at t (cards.Stopped (Err f)) = hand (over (ends_of (Err f)) (set_up_line t)) (drop at s) (n + at) bs

-- the bytes at hand, by the stage
abbrev pub hand_bytes : Bool → List ℕ → ℕ → List Bool → Stage → Hand
hand_bytes more s n bs (carding t) = let c = cards_of more s t in card_after more s n bs c.at c.table c.ending
hand_bytes more s n bs (playing l) = hand_after s n bs (play_all more s l)
hand_bytes more s n bs (over e l) = hand (over e l) s n bs

-- a piece more, after which more may come or not
unfoldable pub hand_piece : Bool → List ℕ → Hand → Hand
hand_piece more p h = hand_bytes more (h.held ++ p) h.taken h.answers h.stage

-- one piece after another, and then the end
abbrev pub hand_all : List (List ℕ) → Hand → Hand
hand_all [] h = hand_piece false [] h
hand_all (p ∷ ps) h = hand_all ps (hand_piece true p h)

abbrev ends_in : Stage → Ends
ends_in (carding t) = part
ends_in (playing l) = part
ends_in (over e l) = e

abbrev line_in : Stage → Attached
line_in (carding t) = set_up_line t
line_in (playing l) = l
line_in (over e l) = l

-- what it came to
abbrev pub came_to : Hand → Played
came_to h = played h.answers (ends_in h.stage) h.taken (line_in h.stage)
