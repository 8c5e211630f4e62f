-- Document 02, M-103: "card records as in 01, which must come first": the chips that a recording starts with, in a table of 16 places.
use Rattle.std.specs.Prelude.{ℕ, zero, suc, ◌-◌, Bool, false, List, length, Result, Ok, Err}
use Rattle.base.specs.Pick.{pick}
use Rattle.chip.specs.Chip.{set_up_chip}
use Rattle.line.specs.Tables.{blank_table, joined}
use Rattle.line.specs.declared.Table.{Table}
use Rattle.recording.specs.declared.Fault.{Fault}
use Rattle.recording.specs.Reading.{found_at, starts_event}
use Rattle.recording.specs.declared.Record.{Record}
use Rattle.recording.specs.declared.Record.TheVariants as record_of
use Rattle.recording.specs.declared.Found.{Found}
use Rattle.recording.specs.declared.Found.TheVariants as found
use Rattle.recording.specs.declared.Ending.{Ending}
use Rattle.recording.specs.declared.Ending.TheVariants as ending
use Rattle.recording.specs.declared.CardsEnding.{CardsEnding}
use Rattle.recording.specs.declared.CardsEnding.TheVariants as cards
use Rattle.recording.specs.declared.CardsRead.{CardsRead}

-- the places of the line that a recording sets up
abbrev pub places : ℕ
places = 16

-- how many chips may still come
abbrev pub room_for : ℕ → ℕ
room_for n = places - n

abbrev pub cards_read : CardsEnding → ℕ → Table → CardsRead
cards_read e at t = record { ending = e; at = at; table = t }

-- how reading ends where no record can be taken, and what is left. Ruled: a refused card leaves none. The case of a record is never asked for: it
-- stands there so that both are functions of all that can be found
abbrev pub stopped_by : Result Found Fault → Result Ending Fault
stopped_by (Ok found.End) = Ok ending.End
stopped_by (Ok found.Part) = Ok ending.Part
stopped_by (Ok (found.Record r next)) = Ok ending.Part
stopped_by (Err f) = Err f

abbrev pub table_by : Result Found Fault → Table → Table
table_by (Ok f) t = t
table_by (Err f) t = blank_table 0

abbrev pub stopped_at : ℕ → Table → Result Found Fault → CardsRead
stopped_at at t f = cards_read (cards.Stopped (stopped_by f)) at (table_by f t)

-- how reading goes on after a record: a chip fills the next place. A record of another kind has ended the card before it is asked for here
abbrev pub on_card : (ℕ → Table → CardsRead) → ℕ → Table → ℕ → Record → CardsRead
on_card go at t next (record_of.Chip code kind) = go next (joined (set_up_chip code kind) t)
on_card go at t next (record_of.Slots count from to) = cards_read cards.Events at t
on_card go at t next (record_of.Event e) = cards_read cards.Events at t

-- by what stands at the offset
abbrev pub cards_on : (ℕ → Table → CardsRead) → ℕ → Table → Result Found Fault → CardsRead
cards_on go at t (Ok found.End) = stopped_at at t (Ok found.End)
cards_on go at t (Ok found.Part) = stopped_at at t (Ok found.Part)
cards_on go at t (Ok (found.Record r next)) = on_card go at t next r
cards_on go at t (Err f) = stopped_at at t (Err f)

-- the card from an offset on, over at most so many records
unfoldable pub cards_from : ℕ → Bool → List ℕ → ℕ → Table → CardsRead
cards_from zero more s at t = cards_read (cards.Stopped (Ok ending.Part)) at t
cards_from (suc k) more s at t =
    pick (starts_event s at) (cards_read cards.Events at t)
    (cards_on (λ next u. cards_from k more s next u) at t (found_at s at (room_for t.n) false more))

-- the card at the beginning of what is there of a recording, where some chips came before; no record is empty, so there are fewer records than bytes
unfoldable pub cards_of : Bool → List ℕ → Table → CardsRead
cards_of more s t = cards_from (suc (length s)) more s 0 t
