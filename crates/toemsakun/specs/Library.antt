-- include/toemsakun.h: each call over a table that is lent as bytes, for every input. What a call answers and leaves is what the
-- plain form answers and leaves on the chips that the bytes stand for, packed again; bytes that are no table are refused by 8.
use Rattle.std.specs.Prelude.{ℕ, ◌*◌, ◌/◌, List, ◌++◌, ℤ, pos, neg_ℤ, length, drop}
use Rattle.base.specs.Pick.{pick}
use Rattle.line.specs.Layout.{capped, images_asked, pads_asked}
use Rattle.line.specs.Event.{Answered, bit, refused, Outcome, event_of}
use Rattle.line.specs.Slots.{Slotted, put, refused as refusedRun, RunOutcome, slots_of}
use Rattle.line.specs.declared.Event.{Event}
use Rattle.card.specs.Card.{Read, all, none, read_from}
use Rattle.line.specs.Attached.{attached}
use Rattle.search.specs.Search.{Searched, complete, refused as refusedBy, Search, search_of}
use Rattle.packed.specs.Step.{flag}
use Rattle.packed.specs.Packed.{record_size, packed_table, unpacked_table, is_table}

-- "A result below 0 is minus one of these numbers; 0 or more is the answer."
abbrev pub minus : ℕ → ℤ
minus r = neg_ℤ (pos r)

-- "The bytes of a table of so many chips; more than TK_MOST_CHIPS count as TK_MOST_CHIPS."
unfoldable pub table_size : ℕ → ℕ
table_size chips = capped chips * record_size

-- "The bytes of images, and of scratchpads, to lend with a table; 0 where it has over 16 records, or bytes that are no records."
unfoldable pub images_bytes : List ℕ → ℕ
images_bytes bs = let cs = unpacked_table bs in pick (is_table bs) (images_asked (length cs) cs) 0

unfoldable pub pads_bytes : List ℕ → ℕ
pads_bytes bs = let cs = unpacked_table bs in pick (is_table bs) (pads_asked (length cs) cs) 0

-- set-up: the answer, the table and the offset
pub record CardLeft : Type 0 where
  pub answer : ℤ
  pub table : List ℕ
  pub offset : ℕ

abbrev pub card_left : ℤ → List ℕ → ℕ → CardLeft
card_left a t o = record { answer = a; table = t; offset = o }

-- "The first n records are then chips as after power on, the rest of the table is as it was, and *offset is 0."; "Refused by 1,
-- 2 or 3: the table is as it was, and *offset is where the record at fault begins in the card."
abbrev pub card_from : List ℕ → Read → CardLeft
card_from bs (all cs) = card_left (pos (length cs)) (packed_table cs ++ drop (length cs * record_size) bs) 0
card_from bs (none r at) = card_left (minus r) bs at

-- "As many chips fit as the table has room for whole records; what stands in the table is not read."
unfoldable pub card_bytes : List ℕ → List ℕ → CardLeft
card_bytes card bs = card_from bs (read_from (capped (length bs / record_size)) card 0)

-- an event: the answer, and what is left of the table, the images and the scratchpads
pub record EventLeft : Type 0 where
  pub answer : ℤ
  pub table : List ℕ
  pub images : List ℕ
  pub pads : List ℕ

abbrev pub event_left : ℤ → List ℕ → List ℕ → List ℕ → EventLeft
event_left a t ms ss = record { answer = a; table = t; images = ms; pads = ss }

-- the bit on the bus, or minus a refusal number
abbrev pub answer_number : Answered → ℤ
answer_number (bit b) = pos (flag b)
answer_number (refused r) = minus r

abbrev pub packed_outcome : Outcome → EventLeft
packed_outcome o = event_left (answer_number o.answer) (packed_table o.lent.chips) o.lent.images o.lent.pads

unfoldable pub event_bytes : List ℕ → Event → List ℕ → List ℕ → EventLeft
event_bytes bs e ms ss =
    let cs = unpacked_table bs in
    pick (is_table bs) (packed_outcome (event_of (length cs) cs e ms ss)) (event_left (minus 8) bs ms ss)

-- a run of slots: the answer, and what is left of the answers, the table, the images and the scratchpads
pub record SlotsLeft : Type 0 where
  pub answer : ℤ
  pub answers : List ℕ
  pub table : List ℕ
  pub images : List ℕ
  pub pads : List ℕ

abbrev pub slots_left : ℤ → List ℕ → List ℕ → List ℕ → List ℕ → SlotsLeft
slots_left a out t ms ss = record { answer = a; answers = out; table = t; images = ms; pads = ss }

-- how many slots were put on the line, or minus a refusal number
abbrev pub slots_number : Slotted → ℤ
slots_number (put n) = pos n
slots_number (refusedRun r) = minus r

abbrev pub packed_run : RunOutcome → SlotsLeft
packed_run o = slots_left (slots_number o.answer) o.answers (packed_table o.lent.chips) o.lent.images o.lent.pads

unfoldable pub slots_bytes : List ℕ → List ℕ → List ℕ → ℕ → List ℕ → List ℕ → SlotsLeft
slots_bytes bs bits answers slots ms ss =
    let cs = unpacked_table bs in
    pick (is_table bs) (packed_run (slots_of (length cs) cs slots bits answers ms ss)) (slots_left (minus 8) answers bs ms ss)

-- a search: the answer, and what is left of the list, the table, the images and the scratchpads, and the counts
pub record SearchLeft : Type 0 where
  pub answer : ℤ
  pub list : List ℕ
  pub table : List ℕ
  pub images : List ℕ
  pub pads : List ℕ
  pub resets : ℕ
  pub slots : ℕ

abbrev pub search_left : ℤ → List ℕ → List ℕ → List ℕ → List ℕ → ℕ → ℕ → SearchLeft
search_left a l t ms ss r s = record { answer = a; list = l; table = t; images = ms; pads = ss; resets = r; slots = s }

-- how many codes are listed, or minus a refusal number
abbrev pub search_number : ℕ → Searched → ℤ
search_number n complete = pos n
search_number n (refusedBy r) = minus r

abbrev pub packed_search : Search → SearchLeft
packed_search s =
    search_left (search_number s.number s.answer) s.list (packed_table s.line.lent.chips)
    s.line.lent.images s.line.lent.pads s.resets s.slots

unfoldable pub search_bytes : List ℕ → List ℕ → List ℕ → List ℕ → SearchLeft
search_bytes bs list ms ss =
    let cs = unpacked_table bs in
    pick (is_table bs) (packed_search (search_of list (attached (length cs) cs ms ss))) (search_left (minus 8) list bs ms ss 0 0)
