-- Document 01, "Card and list program" and "Refusal numbers": reading a card, and set-up from it.
use Rattle.std.specs.Prelude.{ℕ, zero, suc, List, [], ◌∷◌, ◌++◌, eqb, ltb, length, drop, Option, Some, None, Result, Ok, Err}
use Rattle.base.specs.Pick.{pick}
use Rattle.chip.specs.Chip.{set_up_chip}
use Rattle.chip.specs.Kinds.{known_kind}
use Rattle.chip.specs.declared.Chip.{Chip}
use Rattle.line.specs.Layout.{capped}
use Rattle.records.specs.Numbers.{number_at}
use Rattle.records.specs.Records.{head_at}
use Rattle.records.specs.declared.Head.{Head}
use Rattle.records.specs.declared.Head.TheVariants.{End, Short, Cut, Whole}
use Rattle.card.specs.declared.Fault.{Fault}
use Rattle.card.specs.declared.Fault.TheVariants as fault
use Rattle.card.specs.declared.Refused.{Refused}
use Rattle.card.specs.declared.Entry.{Entry}

-- document 01's numbers of the refusals
abbrev pub fault_number : Fault → ℕ
fault_number fault.TooMany = 1
fault_number fault.UnknownKind = 2
fault_number fault.WrongLength = 3

-- what set-up answers: the number of chips, or document 01's refusal number and "the offset of the record's first byte"
pub data Carded : Type 0 where
  chips : ℕ → Carded
  refused : ℕ → ℕ → Carded

abbrev pub carded : Result ℕ Refused → Carded
carded (Ok n) = chips n
carded (Err r) = refused (fault_number r.fault) r.at

-- the length of a record: "length (..), kind (2 bytes), eight code bytes"
abbrev pub entry_length : ℕ
entry_length = 10

-- a record whose length runs past the end: "kind gives 2; wrong length or cut body gives 3"
unfoldable pub cut_entry : ℕ → Result (Option Entry) Fault
cut_entry kind = pick (known_kind kind) (Err fault.WrongLength) (Err fault.UnknownKind)

-- a chip, and the offset of the next record
abbrev pub taken : ℕ → ℕ → ℕ → Result (Option Entry) Fault
taken code kind next = Ok (Some (record { code = code; kind = kind; next = next }))

-- a whole record: "kind gives 2; wrong length .. gives 3; one too many gives 1."; its body is "eight code bytes, family first"
unfoldable pub whole_entry : List ℕ → ℕ → ℕ → ℕ → ℕ → ℕ → Result (Option Entry) Fault
whole_entry s room size kind body next =
    pick (known_kind kind)
    (pick (eqb size entry_length)
    (pick (ltb 0 room) (taken (number_at s body 8) kind next)
    (Err fault.TooMany))
    (Err fault.WrongLength))
    (Err fault.UnknownKind)

-- "For a record at its first byte: fewer than 4 bytes left gives 3"
abbrev pub entry_of : List ℕ → ℕ → Head → Result (Option Entry) Fault
entry_of s room End = Ok None
entry_of s room Short = Err fault.WrongLength
entry_of s room (Cut size kind) = cut_entry kind
entry_of s room (Whole size kind body next) = whole_entry s room size kind body next

-- the record at an offset, where room more chips may come
unfoldable pub entry_at : List ℕ → ℕ → ℕ → Result (Option Entry) Fault
entry_at s at room = entry_of s room (head_at s at)

-- what a card holds from an offset on: chips, or the first refusal
pub data Read : Type 0 where
  all : List Chip → Read
  none : ℕ → ℕ → Read

abbrev pub after : List Chip → Read → Read
after cs (all ds) = all (cs ++ ds)
after cs (none r at) = none r at

-- how reading goes on after a record
abbrev pub onward : ℕ → (ℕ → Read) → Result (Option Entry) Fault → Read
onward at go (Ok None) = all []
onward at go (Ok (Some e)) = after (set_up_chip e.code e.kind ∷ []) (go e.next)
onward at go (Err f) = none (fault_number f) at

-- a card from an offset on, where room more chips may come
unfoldable pub read_from : ℕ → List ℕ → ℕ → Read
read_from zero s at = onward at (λ next. none 1 at) (entry_at s at zero)
read_from (suc room) s at = onward at (λ next. read_from room s next) (entry_at s at (suc room))

-- what set-up answers, and the table that it leaves
pub record SetUp : Type 0 where
  pub answer : Carded
  pub count : ℕ
  pub table : List Chip

abbrev pub set_up : Carded → ℕ → List Chip → SetUp
set_up a n cs = record { answer = a; count = n; table = cs }

-- "a card fills the first places with chips as after power on and answers their number, the other places stay"; a refusal
-- leaves "table unchanged"
abbrev pub from_read : ℕ → List Chip → Read → SetUp
from_read n cs (all ds) = set_up (chips (length ds)) (length ds) (ds ++ drop (length ds) cs)
from_read n cs (none r at) = set_up (refused r at) n cs

-- set-up from the card s with so many places
unfoldable pub set_up_of : ℕ → List ℕ → ℕ → List Chip → SetUp
set_up_of places s n cs = from_read n cs (read_from (capped places) s 0)
