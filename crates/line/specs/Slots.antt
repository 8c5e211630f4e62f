-- A run of slots: "a run of host bits packed least significant first, how many slots, a lent buffer for the answers (packed
-- likewise)", over a table and its buffers, for every input.
use Rattle.std.specs.Prelude.{ℕ, zero, suc, ◌+◌, ◌*◌, ◌/◌, ◌%◌, ◌^◌, Bool, List, [], ◌∷◌, ◌++◌, eqb, leb, length, take, drop, get_or, set, Result, Ok, Err}
use Rattle.line.specs.declared.Refusal.{Refusal}
use Rattle.base.specs.Pick.{pick}
use Rattle.base.specs.Bits.{both, bit_of}
use Rattle.chip.specs.Chip.{Whole}
use Rattle.chip.specs.declared.Chip.{Chip}
use Rattle.line.specs.Line.{value_of, after_by}
use Rattle.line.specs.Layout.{Lent, lent, line_of, lent_from}
use Rattle.line.specs.Event.{number_of, judge, table_tests, table_in_range, sizes_fit}
use Rattle.line.specs.declared.Plan.TheVariants as plan

-- n bits of a number, and the bits of a run of bytes, least significant first
abbrev pub bits_of : ℕ → ℕ → List Bool
bits_of zero x = []
bits_of (suc n) x = eqb (x % 2) 1 ∷ bits_of n (x / 2)

abbrev pub bits_in : List ℕ → List Bool
bits_in [] = []
bits_in (x ∷ xs) = bits_of 8 x ++ bits_in xs

-- the number of bits of which the first is worth so much, and each next one twice as much
abbrev pub number_from : ℕ → List Bool → ℕ
number_from worth [] = 0
number_from worth (b ∷ bs) = pick b worth 0 + number_from (2 * worth) bs

-- bits as n bytes, least significant first: "Unused bits of the last byte of answers are 0"
abbrev pub bytes_from : ℕ → List Bool → List ℕ
bytes_from zero bs = []
bytes_from (suc n) bs = number_from 1 (take 8 bs) ∷ bytes_from n (drop 8 bs)

-- the host's bits: those of the unused places "are not looked at"
abbrev pub host_bits : ℕ → List ℕ → List Bool
host_bits slots bits = take slots (bits_in bits)

-- the bit of one slot, 0 past the end
unfoldable pub slot_bit : List ℕ → ℕ → Bool
slot_bit bits slot = bit_of (get_or bits (slot / 8) 0) (slot % 8)

-- a byte with a bit at a place: the bits before it stay, and there are none after it
abbrev pub byte_with : ℕ → ℕ → Bool → ℕ
byte_with x place b = x % 2 ^ place + pick b (2 ^ place) 0

-- packed bits with the bit of one slot put after those before it, and none after it in its byte; past the end nothing changes
unfoldable pub with_slot_bit : List ℕ → ℕ → Bool → List ℕ
with_slot_bit bits slot b = set bits (slot / 8) (byte_with (get_or bits (slot / 8) 0) (slot % 8) b)

-- slots one after the other on a line: the bit on the bus in each, and the line that the last leaves
pub record Run : Type 0 where
  pub bits : List Bool
  pub line : List Whole

abbrev pub ran : List Bool → List Whole → Run
ran bs L = record { bits = bs; line = L }

abbrev pub run_on : List Bool → List Whole → Run
run_on [] L = ran [] L
run_on (b ∷ bs) L = let r = run_on bs (after_by (plan.Slot b) L) in ran (value_of b L ∷ r.bits) r.line

-- how many bytes so many slots ask: "⌈slots / 8⌉"
abbrev pub bytes_asked : ℕ → ℕ
bytes_asked slots = (slots + 7) / 8

-- not 5: "A run has at most 65,535 slots", and the sizes of bits and answers are what they ask
unfoldable pub run_fits : ℕ → ℕ → ℕ → Bool
run_fits slots bits answers = both (leb slots 65535) (both (eqb bits (bytes_asked slots)) (eqb answers (bytes_asked slots)))

-- what a run answers: how many slots were put on the line, or document 01's refusal number
pub data Slotted : Type 0 where
  put : ℕ → Slotted
  refused : ℕ → Slotted

abbrev pub slotted : Result ℕ Refusal → Slotted
slotted (Ok n) = put n
slotted (Err r) = refused (number_of r)

-- what a run answers, and what it leaves: the answers, the table and the buffers
pub record RunOutcome : Type 0 where
  pub answer : Slotted
  pub answers : List ℕ
  pub count : ℕ
  pub lent : Lent

abbrev pub run_outcome : Slotted → List ℕ → ℕ → Lent → RunOutcome
run_outcome a bs n g = record { answer = a; answers = bs; count = n; lent = g }

-- "Judged once: 8, then 5 for images, scratchpads, and for bits or answers"
unfoldable pub run_verdict : ℕ → List Chip → ℕ → List ℕ → List ℕ → List ℕ → List ℕ → Result (Unit {0}) Refusal
run_verdict n cs slots bits answers ms ss = judge (table_tests (table_in_range n cs) (both (sizes_fit n cs ms ss) (run_fits slots (length bits) (length answers))))

-- what a run comes to by its verdict; refused, nothing changes
abbrev pub run_by : Result (Unit {0}) Refusal → ℕ → List Chip → ℕ → List ℕ → List ℕ → List ℕ → List ℕ → RunOutcome
run_by (Ok tt) n cs slots bits answers ms ss =
    let r = run_on (host_bits slots bits) (line_of n cs ms ss) in
    run_outcome (put (length r.bits)) (bytes_from (length answers) r.bits) n (lent_from n cs r.line)
run_by (Err r) n cs slots bits answers ms ss = run_outcome (refused (number_of r)) answers n (lent cs ms ss)

unfoldable pub slots_of : ℕ → List Chip → ℕ → List ℕ → List ℕ → List ℕ → List ℕ → RunOutcome
slots_of n cs slots bits answers ms ss = run_by (run_verdict n cs slots bits answers ms ss) n cs slots bits answers ms ss
