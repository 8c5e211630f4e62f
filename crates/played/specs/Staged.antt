-- A recording handed over in pieces: at every stage the line that goes on stands well.
use Rattle.std.specs.Prelude.{ℕ, suc, Bool, List, ◌++◌, length, take, drop, Ok, Err}
use Rattle.line.specs.Attached.{Attached, Stands}
use Rattle.line.specs.declared.Table.{Table}
use Rattle.recording.specs.Cards.{room_for, cards_of}
use Rattle.recording.specs.Playing.{Ends, ended, part, refusal, play_from, play_all, set_up_line}
use Rattle.recording.specs.declared.Ending.TheVariants as ending
use Rattle.recording.specs.declared.CardsEnding.{CardsEnding}
use Rattle.recording.specs.declared.CardsEnding.TheVariants as cards
use Rattle.histories.specs.Joined.{stands_on}
use Rattle.played.specs.Handed.{Stage, carding, playing, over, Hand, start, stage_after, card_after, hand_bytes, hand_piece}
use Rattle.played.specs.Standing.{CardTable, table_stands, blank-table, cards_keep}
use Rattle.played.specs.History.{events_from, records_as_history}

-- what goes on stands well: a card's table would be set up to such a line
abbrev pub StageStands : Stage → Type 0
StageStands (carding t) = CardTable t
StageStands (playing l) = Stands l
StageStands (over e l) = Unit

-- records played leave a line that stands well
played_stands : (more : Bool) (s : List ℕ) (l : Attached) → Stands l → Stands (play_all more s l).line
unfolding play_all
played_stands more s l w =
    let n = suc (length s) in
    rw (records_as_history n more s 0 l w).line (stands_on (take (length (play_from n more s 0 l).answers) (events_from n more s 0 (room_for l.count))) l w)

after_stands : (e : Ends) (l : Attached) → Stands l → StageStands (stage_after e l)
after_stands ended l w = tt
after_stands part l w = w
after_stands (refusal r) l w = tt

card_stands : (more : Bool) (s : List ℕ) (n : ℕ) (bs : List Bool) (at : ℕ) (t : Table) (x : CardsEnding) → CardTable t → StageStands (card_after more s n bs at t x).stage
card_stands more s n bs at t cards.Events c =
    let p = play_all more (drop at s) (set_up_line t) in
    after_stands p.ends p.line (played_stands more (drop at s) (set_up_line t) (table_stands t c))
card_stands more s n bs at t (cards.Stopped (Ok ending.End)) c = tt
card_stands more s n bs at t (cards.Stopped (Ok ending.Part)) c = c
card_stands more s n bs at t (cards.Stopped (Err f)) c = tt

bytes-stand : (more : Bool) (s : List ℕ) (n : ℕ) (bs : List Bool) (g : Stage) → StageStands g → StageStands (hand_bytes more s n bs g).stage
bytes-stand more s n bs (carding t) w = let c = cards_of more s t in card_stands more s n bs c.at c.table c.ending (cards_keep more s t w)
bytes-stand more s n bs (playing l) w = let p = play_all more s l in after_stands p.ends p.line (played_stands more s l w)
bytes-stand more s n bs (over e l) w = tt

-- a piece more keeps it so
pub piece_stands : (more : Bool) (p : List ℕ) (h : Hand) → StageStands h.stage → StageStands (hand_piece more p h).stage
unfolding hand_piece
piece_stands more p h w = bytes-stand more (h.held ++ p) h.taken h.answers h.stage w

-- and so it is from the start on
pub start_stands : StageStands start.stage
start_stands = blank-table
