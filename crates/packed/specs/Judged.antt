-- Form: whether bytes are a record whose fields lie in their ranges.
use Rattle.std.specs.Prelude.{ℕ, Bool, List, [], ◌∷◌, eqb, leb, get_or}
use Rattle.base.specs.Bits.{both}
use Rattle.scratchpad.specs.Scratchpad.{registers_in_range}
use Rattle.ds2413.specs.Switch.{switch_in_range}
use Rattle.chip.specs.Kinds.{known_kind}
use Rattle.chip.specs.Range.{in_range}
use Rattle.records.specs.Numbers.{number_at}
use Rattle.packed.specs.Packed.{step_at, unpacked, is_record}
use Rattle.packed.specs.Limits.{step_stands}

-- bytes are a record, and its fields lie in their ranges
unfoldable pub stands : List ℕ → Bool
stands bs = both (is_record bs) (in_range (unpacked bs))

-- The same byte by byte, of as many as a record has (JudgedLaw).

-- what is before the step lies in its range
unfoldable pub fields_stand : List ℕ → Bool
fields_stand bs =
    both (both (known_kind (get_or bs 8 0)) (registers_in_range (record { t = number_at bs 10 2; es = get_or bs 12 0 })))
    (both (switch_in_range (record { latches = get_or bs 13 0; outside = get_or bs 14 0 })) (leb (get_or bs 9 0) 1))

-- two bytes are 0
unfoldable pub are_zero : ℕ → ℕ → Bool
are_zero low high = eqb (number_at (low ∷ high ∷ []) 0 2) 0

-- what is after the step is 0
unfoldable pub rest_is_zero : List ℕ → Bool
rest_is_zero bs =
    both (both (are_zero (get_or bs 21 0) (get_or bs 22 0)) (are_zero (get_or bs 23 0) (get_or bs 24 0)))
    (both (both (are_zero (get_or bs 25 0) (get_or bs 26 0)) (are_zero (get_or bs 27 0) (get_or bs 28 0)))
    (both (are_zero (get_or bs 29 0) (get_or bs 30 0)) (eqb (get_or bs 31 0) 0)))

unfoldable pub bytes_stand : List ℕ → Bool
bytes_stand bs = both (fields_stand bs) (both (rest_is_zero bs) (step_stands (get_or bs 8 0) (step_at bs)))
