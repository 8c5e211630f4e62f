-- Form: what the code hands back of a record's events, with their answers put into a text.
use Rattle.std.specs.Prelude.{ℕ, ◌+◌, ◌≤◌, List, ◌≡◌, length, Result, Ok, Err}
use Rattle.line.specs.Attached.{Attached}
use Rattle.line.specs.Event.{Answered, bit, refused, number_of}
use Rattle.line.specs.Slots.{bytes_asked, Slotted}
use Rattle.line.specs.Slots as slots
use Rattle.line.specs.declared.Refusal.{Refusal}
use Rattle.recording.specs.Playing.{Ends, part, refusal, Said, bits, none, Step, put_digits}
use Rattle.recording.specs.declared.Record.{Record}
use Rattle.recording.specs.declared.Record.TheVariants as record_of

-- how many answers were written, or the number of a refusal
pub data Written : Type 0 where
  wrote : ℕ → Written
  unwritten : ℕ → Written

abbrev pub written_by : Result ℕ Refusal → Written
written_by (Ok n) = wrote n
written_by (Err r) = unwritten (number_of r)

-- of an event, of a run of slots, and what playing ends by after it
abbrev pub written_in : Answered → Written
written_in (bit b) = wrote 1
written_in (refused r) = unwritten r

abbrev pub written_run : Slotted → Written
written_run (slots.put n) = wrote n
written_run (slots.refused r) = unwritten r

abbrev pub ends_after : Written → Ends
ends_after (wrote n) = part
ends_after (unwritten r) = refusal r

-- what a record's events hand back: what was written, the text, the table and the buffers
pub record Put : Type 0 where
  pub written : Written
  pub text : List ℕ
  pub line : Attached

abbrev pub put : Written → List ℕ → Attached → Put
put w text l = record { written = w; text = text; line = l }

abbrev pub put_said : ℕ → List ℕ → Said → Attached → Put
put_said place out (bits bs) l = put (wrote (length bs)) (put_digits bs place out) l
put_said place out (none r) l = put (unwritten r) out l

abbrev pub put_from : ℕ → List ℕ → Step → Put
put_from place out d = put_said place out d.said d.line

-- the host's bits of a run stand in the bytes that it names them in, as many bytes as they ask
abbrev pub RecordFits : List ℕ → Record → Type 0
RecordFits s (record_of.Chip code kind) = Unit
RecordFits s (record_of.Slots count from to) = (from + bytes_asked count ≡ to) × (to ≤ length s)
RecordFits s (record_of.Event e) = Unit

-- the most answers that a record has
abbrev pub answers_most : Record → ℕ
answers_most (record_of.Chip code kind) = 0
answers_most (record_of.Slots count from to) = count
answers_most (record_of.Event e) = 1
