-- Document 02, M-103: "Its records are length first, little-endian, with a two-byte kind: card records as in 01, which must come first; 16, a
-- run of slots (a 2-byte count, then host bits packed least significant first, unused bits 0); 17, reset; 18, power on; 19, outside levels
-- (chip number, levels, a byte each)". What stands at an offset of a recording, whether more of it may come or not. What is ruled of M-103
-- stands in docs/DECISIONS.md.
use Rattle.std.specs.Prelude.{ℕ, ◌+◌, ◌-◌, Bool, true, false, not, List, [], ◌∷◌, eqb, ltb, leb, length, take, drop, get_or, Option, Some, None, Result, Ok, Err}
use Rattle.base.specs.Pick.{pick}
use Rattle.base.specs.Bits.{both}
use Rattle.chip.specs.Kinds.{known_kind}
use Rattle.line.specs.Event.{number_of}
use Rattle.line.specs.Events.{reset_event, power_on_event, outside_event}
use Rattle.line.specs.Slots.{bits_in, bytes_asked}
use Rattle.line.specs.declared.Event.{Event}
use Rattle.records.specs.Numbers.{number_at}
use Rattle.records.specs.Records.{head_at}
use Rattle.records.specs.declared.Head.{Head}
use Rattle.records.specs.declared.Head.TheVariants as head
use Rattle.card.specs.Card.{fault_number, entry_length, entry_at}
use Rattle.card.specs.declared.Entry.{Entry}
use Rattle.card.specs.declared.Fault.{Fault as CardFault}
use Rattle.card.specs.declared.Fault.TheVariants as on_card
use Rattle.recording.specs.declared.Fault.{Fault}
use Rattle.recording.specs.declared.Fault.TheVariants as fault
use Rattle.recording.specs.declared.Record.TheVariants as record_of
use Rattle.recording.specs.declared.Found.{Found}
use Rattle.recording.specs.declared.Found.TheVariants as found

-- the number of each refusal. "Refusals: 9, a card record after one of kinds 16 to 19; 10, a nonzero unused bit; a kind not named gives 2 and a
-- wrong length gives 3"; 1 as in document 01; "then those of the event"
abbrev pub number_of_fault : Fault → ℕ
number_of_fault (fault.OnCard f) = fault_number f
number_of_fault fault.CardAfterEvent = 9
number_of_fault fault.UnusedBits = 10
number_of_fault (fault.OnLine r) = number_of r

-- one of kinds 16 to 19
unfoldable pub is_event : ℕ → Bool
is_event kind = both (leb 16 kind) (leb kind 19)

-- the length that a record of these kinds has, where its body starts. Ruled: 4 + ⌈count / 8⌉ of 16, 2 of 17 and 18, 4 of 19, which counts the two bytes
-- of the kind
unfoldable pub length_asked : List ℕ → ℕ → ℕ → ℕ
length_asked s body kind = pick (eqb kind 16) (4 + bytes_asked (number_at s body 2)) (pick (eqb kind 19) 4 2)

-- a record that is not all there: it is awaited where it may still be right and more may come; else "wrong length or cut body gives 3" (01)
unfoldable pub cut_off : Bool → Bool → Result Found Fault
cut_off right more = pick right (pick more (Ok found.Part) (Err (fault.OnCard on_card.WrongLength))) (Err (fault.OnCard on_card.WrongLength))

-- it may still be right: its length is the one asked, or its count is not there yet
unfoldable pub may_be_right : List ℕ → ℕ → ℕ → ℕ → Bool
may_be_right s at size kind = pick (both (eqb kind 16) (ltb (length s - at) 6)) true (eqb size (length_asked s (at + 4) kind))

-- "a kind not named" gives 2 before that
unfoldable pub cut_record : List ℕ → ℕ → Bool → ℕ → ℕ → Result Found Fault
cut_record s at more size kind =
    pick (is_event kind) (cut_off (may_be_right s at size kind) more)
    (pick (known_kind kind) (cut_off (eqb size entry_length) more)
    (Err (fault.OnCard on_card.UnknownKind)))

-- "9, a card record after one of kinds 16 to 19"
unfoldable pub chip_record : Bool → ℕ → ℕ → ℕ → Result Found Fault
chip_record over code kind next = pick over (Err fault.CardAfterEvent) (Ok (found.Record (record_of.Chip code kind) next))

-- a card record by document 01's order, 2, 3, 1; "then 9"
abbrev pub card_record : Bool → Result (Option Entry) CardFault → Result Found Fault
card_record over (Ok None) = Ok found.End
card_record over (Ok (Some e)) = chip_record over e.code e.kind e.next
card_record over (Err f) = Err (fault.OnCard f)

-- no bit is 1
abbrev pub none_set : List Bool → Bool
none_set [] = true
none_set (b ∷ bs) = both (not b) (none_set bs)

-- the bits of a run past its slots are 0
unfoldable pub unused_clear : ℕ → List ℕ → Bool
unused_clear count bytes = none_set (drop count (bits_in bytes))

-- a run of slots: "10, a nonzero unused bit", judged before any bit of it is played; its host bits stand after the count
unfoldable pub slots_record : List ℕ → ℕ → ℕ → Result Found Fault
slots_record s body next =
    pick (unused_clear (number_at s body 2) (take (next - (body + 2)) (drop (body + 2) s)))
    (Ok (found.Record (record_of.Slots (number_at s body 2) (body + 2) next) next))
    (Err fault.UnusedBits)

-- the event of a record of the other kinds
unfoldable pub event_in : List ℕ → ℕ → ℕ → Event
event_in s body kind =
    pick (eqb kind 17) reset_event
    (pick (eqb kind 18) power_on_event
    (outside_event (get_or s body 0) (get_or s (body + 1) 0)))

-- a whole record of one of kinds 16 to 19
unfoldable pub event_record : List ℕ → ℕ → ℕ → ℕ → ℕ → Result Found Fault
event_record s size kind body next =
    pick (eqb size (length_asked s body kind))
    (pick (eqb kind 16) (slots_record s body next) (Ok (found.Record (record_of.Event (event_in s body kind)) next)))
    (Err (fault.OnCard on_card.WrongLength))

-- a whole record, where room more chips may come
unfoldable pub whole_record : List ℕ → ℕ → ℕ → Bool → ℕ → ℕ → ℕ → ℕ → Result Found Fault
whole_record s at room over size kind body next = pick (is_event kind) (event_record s size kind body next) (card_record over (entry_at s at room))

-- nothing is left
unfoldable pub at_end : Bool → Result Found Fault
at_end more = pick more (Ok found.Part) (Ok found.End)

-- 01: "fewer than 4 bytes left gives 3"; where more may come, more is awaited
abbrev pub found_by : List ℕ → ℕ → ℕ → Bool → Bool → Head → Result Found Fault
found_by s at room over more head.End = at_end more
found_by s at room over more head.Short = cut_off true more
found_by s at room over more (head.Cut size kind) = cut_record s at more size kind
found_by s at room over more (head.Whole size kind body next) = whole_record s at room over size kind body next

-- what stands at an offset, where room more chips may come, a record of kinds 16 to 19 came before or not, and more of the recording may come or not
unfoldable pub found_at : List ℕ → ℕ → ℕ → Bool → Bool → Result Found Fault
found_at s at room over more = found_by s at room over more (head_at s at)

-- whether the kind is one of 16 to 19, where it is there
abbrev pub event_head : Head → Bool
event_head head.End = false
event_head head.Short = false
event_head (head.Cut size kind) = is_event kind
event_head (head.Whole size kind body next) = is_event kind

-- a record of one of kinds 16 to 19 starts at an offset, whatever is wrong with it
unfoldable pub starts_event : List ℕ → ℕ → Bool
starts_event s at = event_head (head_at s at)
