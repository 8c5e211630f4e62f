-- What a bench does: a line set up from a card, sessions put on it, and bytes read.
use Rattle.std.specs.Prelude.{ℕ, zero, suc, ◌+◌, ◌*◌, true, List, [], ◌∷◌, replicate, take, drop, get_or, set}
use Rattle.base.specs.Pick.{pick}
use Rattle.scratchpad.specs.declared.MemoryPhase.{MemoryPhase}
use Rattle.chip.specs.With.{no_chip, with_level}
use Rattle.chip.specs.Chip.{Whole, whole}
use Rattle.chip.specs.declared.Level.TheVariants.{Memory}
use Rattle.line.specs.Event.{Answered, bit}
use Rattle.line.specs.Layout.{line_of, images_size, pads_size}
use Rattle.line.specs.declared.Event.{Event}
use Rattle.card.specs.Card.{SetUp, set_up_of}
use Rattle.line.specs.Attached.{Attached, attached}
use Rattle.line.specs.Events.{slot_event, reset_event, power_on_event}
use Rattle.search.specs.Host.{heard}
use Rattle.histories.specs.Histories.{run, answers}
use Rattle.histories.specs.Sent.{byte_slots}

-- a table of 16 places without chips
abbrev empty_set_up : List ℕ → SetUp
empty_set_up card = set_up_of 16 card 0 (replicate 16 no_chip)

-- the line that a card sets up, with every image FFh, then powered on
abbrev pub line_of_card : List ℕ → List Whole
line_of_card card =
    let u = empty_set_up card in
    let cs = take u.count u.table in
    run (power_on_event ∷ []) (line_of u.count u.table (replicate (images_size cs) 0xFF) (replicate (pads_size cs) 0xFF))

-- the table that a card sets up, with its buffers
abbrev pub table_of_card : List ℕ → Attached
table_of_card card =
    let u = empty_set_up card in
    let cs = take u.count u.table in
    attached u.count u.table (replicate (images_size cs) 0xFF) (replicate (pads_size cs) 0xFF)

-- a record of a card: its kind and its code, first byte first
abbrev pub record12 : ℕ → ℕ → List ℕ
record12 kind family = 10 ∷ 0 ∷ kind ∷ 0 ∷ family ∷ 0 ∷ 0 ∷ 0 ∷ 0 ∷ 0 ∷ 0 ∷ 0 ∷ []

-- a session to every chip: a reset, Skip ROM, and bytes
abbrev pub session : List ℕ → List Event
session bs = reset_event ∷ byte_slots (0xCC ∷ bs)

-- read slots
abbrev pub read_slots : ℕ → List Event
read_slots n = replicate n (slot_event true)

-- answer k as a number
abbrev number : List Answered → ℕ → ℕ
number xs k = pick (heard (get_or xs k (bit true))) 1 0

-- bytes of answers, least significant bit first
abbrev pub bytes_of : ℕ → List Answered → List ℕ
bytes_of zero xs = []
bytes_of (suc n) xs =
    (number xs 0 + 2 * (number xs 1 + 2 * (number xs 2 + 2 * (number xs 3
    + 2 * (number xs 4 + 2 * (number xs 5 + 2 * (number xs 6 + 2 * number xs 7)))))))
    ∷ bytes_of n (drop 8 xs)

-- the n bytes that are read after some events
abbrev pub bytes_read : List Event → ℕ → List Whole → List ℕ
bytes_read es n L = bytes_of n (answers (read_slots (8 * n)) (run es L))

-- the n bits that are read after some events
abbrev pub bits_read : List Event → ℕ → List Whole → List Answered
bits_read es n L = answers (read_slots n) (run es L)

-- the line with bytes put into the memory of chip 0, as a caller may lend them
abbrev pub with_byte : ℕ → ℕ → List Whole → List Whole
with_byte a b [] = []
with_byte a b (w ∷ L) = whole w.chip (set w.memory a b) w.pad ∷ L

-- the line with chip 0, a DS28EC20, at a phase
abbrev pub at_phase : MemoryPhase → List Whole → List Whole
at_phase p [] = []
at_phase p (w ∷ L) = whole (with_level (Memory p) w.chip) w.memory w.pad ∷ L
