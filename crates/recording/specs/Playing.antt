-- Document 02, M-103: "reads the hall adapter's recording and prints every event's bus answer, one line of 0 and 1 without spaces": the records
-- of a recording on a line, for every table, buffers and bytes.
use Prim.Native.Char.{code as letter}
use Rattle.std.specs.Prelude.{ℕ, zero, suc, ◌+◌, ◌-◌, ◌*◌, Bool, true, false, List, [], ◌∷◌, ◌++◌, eqb, length, take, drop, set, replicate, Result, Ok, Err}
use Rattle.line.specs.declared.Refusal.{Refusal}
use Rattle.base.specs.Pick.{pick}
use Rattle.line.specs.Attached.{Attached, attached, says_of, leaves_of, verdict_at, line_from, with_line}
use Rattle.line.specs.Event.{Answered, bit, refused, number_of}
use Rattle.line.specs.Layout.{images_asked, pads_asked}
use Rattle.line.specs.Slots.{host_bits, run_on}
use Rattle.line.specs.Tables.{blank_table}
use Rattle.line.specs.declared.Event.{Event}
use Rattle.line.specs.declared.Table.{Table}
use Rattle.recording.specs.declared.Fault.{Fault}
use Rattle.recording.specs.Reading.{number_of_fault, found_at}
use Rattle.recording.specs.Cards.{room_for, cards_of}
use Rattle.recording.specs.declared.Record.{Record}
use Rattle.recording.specs.declared.Record.TheVariants as record_of
use Rattle.recording.specs.declared.Found.{Found}
use Rattle.recording.specs.declared.Found.TheVariants as found
use Rattle.recording.specs.declared.Ending.{Ending}
use Rattle.recording.specs.declared.Ending.TheVariants as ending
use Rattle.recording.specs.declared.CardsEnding.{CardsEnding}
use Rattle.recording.specs.declared.CardsEnding.TheVariants as cards

-- how playing ends: at the end of the recording, in the middle of a record of which more may come, or by the number of a refusal
pub data Ends : Type 0 where
  ended : Ends
  part : Ends
  refusal : ℕ → Ends

abbrev pub ends_of : Result Ending Fault → Ends
ends_of (Ok ending.End) = ended
ends_of (Ok ending.Part) = part
ends_of (Err f) = refusal (number_of_fault f)

-- what a record's events answer: their bits, or the number of a refusal
pub data Said : Type 0 where
  bits : List Bool → Said
  none : ℕ → Said

-- what they answer, and the line that they leave
pub record Step : Type 0 where
  pub said : Said
  pub line : Attached

abbrev pub step : Said → Attached → Step
step x l = record { said = x; line = l }

-- one event
abbrev pub said_by : Answered → Said
said_by (bit b) = bits (b ∷ [])
said_by (refused r) = none r

abbrev pub event_step : Event → Attached → Step
event_step e l = step (said_by (says_of e l)) (leaves_of e l)

-- a run of slots, judged once: 8, then 5
abbrev pub run_step : Result (Unit {0}) Refusal → List Bool → Attached → Step
run_step (Ok tt) hs l = let r = run_on hs (line_from l) in step (bits r.bits) (with_line l r.line)
run_step (Err r) hs l = step (none (number_of r)) l

-- ruled: count 0 is a record without an event
unfoldable pub slots_step : ℕ → List ℕ → Attached → Step
slots_step count bytes l = pick (eqb count 0) (step (bits []) l) (run_step (verdict_at l) (host_bits count bytes) l)

-- the events of a record; a card record has none
abbrev pub record_step : List ℕ → Record → Attached → Step
record_step s (record_of.Chip code kind) l = step (bits []) l
record_step s (record_of.Slots count from to) l = slots_step count (take (to - from) (drop from s)) l
record_step s (record_of.Event e) l = event_step e l

-- what playing comes to: the answers, how it ends and at what offset, and the line that is left
pub record Played : Type 0 where
  pub answers : List Bool
  pub ends : Ends
  pub at : ℕ
  pub line : Attached

abbrev pub played : List Bool → Ends → ℕ → Attached → Played
played bs e at l = record { answers = bs; ends = e; at = at; line = l }

-- the same after answers that came before
abbrev pub after : List Bool → Played → Played
after bs p = played (bs ++ p.answers) p.ends p.at p.line

-- how playing goes on after a record. Ruled: the line left is that before the refused record or event
abbrev pub on_step : (ℕ → Attached → Played) → ℕ → ℕ → Said → Attached → Played
on_step go at next (bits bs) l = after bs (go next l)
on_step go at next (none r) l = played [] (refusal r) at l

-- by what stands at the offset
abbrev pub play_on : (ℕ → Attached → Played) → List ℕ → ℕ → Attached → Result Found Fault → Played
play_on go s at l (Ok found.End) = played [] ended at l
play_on go s at l (Ok found.Part) = played [] part at l
play_on go s at l (Ok (found.Record r next)) = let d = record_step s r l in on_step go at next d.said d.line
play_on go s at l (Err f) = played [] (refusal (number_of_fault f)) at l

-- the records from an offset on, at most so many, on a line
unfoldable pub play_from : ℕ → Bool → List ℕ → ℕ → Attached → Played
play_from zero more s at l = played [] part at l
play_from (suc k) more s at l = play_on (λ next m. play_from k more s next m) s at l (found_at s at (room_for l.count) true more)

-- those of all that is there; no record is empty, so there are fewer records than bytes
unfoldable pub play_all : Bool → List ℕ → Attached → Played
play_all more s l = play_from (suc (length s)) more s 0 l

-- the characters of answers, put one after the other from a place on
abbrev pub digit : Bool → ℕ
digit b = pick b (letter "1") (letter "0")

abbrev pub put_digits : List Bool → ℕ → List ℕ → List ℕ
put_digits [] place out = out
put_digits (b ∷ bs) place out = put_digits bs (suc place) (set out place (digit b))

-- what the player hands back: how it ended and where, the number of answers, the text, the table and the buffers
pub record Handed : Type 0 where
  pub ends : Ends
  pub at : ℕ
  pub number : ℕ
  pub text : List ℕ
  pub line : Attached

abbrev pub handed : Ends → ℕ → ℕ → List ℕ → Attached → Handed
handed e at n text l = record { ends = e; at = at; number = n; text = text; line = l }

abbrev pub handed_from : List ℕ → Played → Handed
handed_from out p = handed p.ends p.at (length p.answers) (put_digits p.answers 0 out) p.line

-- the player: 5 for a text that has not eight places for each byte, with nothing changed
unfoldable pub play_of : Bool → List ℕ → List ℕ → Attached → Handed
play_of more s out l = pick (eqb (length out) (8 * length s)) (handed_from out (play_all more s l)) (handed (refusal 5) 0 0 out l)

-- the whole recording --------------------------------------------------------------------------------------

-- 02: "Images start as FFh"; ruled: 16 places, and scratchpads FFh also without a power on in the recording
abbrev pub set_up_line : Table → Attached
set_up_line t = attached t.n t.chips (replicate (images_asked t.n t.chips) 0xFF) (replicate (pads_asked t.n t.chips) 0xFF)

-- so many bytes further on
abbrev pub further : ℕ → Played → Played
further n p = played p.answers p.ends (n + p.at) p.line

-- after the card: the events of the rest. Ruled: a recording without cards is a line without chips
abbrev pub after_cards : List ℕ → ℕ → Table → CardsEnding → Played
after_cards s at t cards.Events = further at (play_all false (drop at s) (set_up_line t))
after_cards s at t (cards.Stopped e) = played [] (ends_of e) at (set_up_line t)

-- what a whole recording comes to: its card sets up a line, and its events are played on it
unfoldable pub playback : List ℕ → Played
playback s = let c = cards_of false s (blank_table 0) in after_cards s c.at c.table c.ending
