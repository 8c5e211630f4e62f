-- What a host sends: the bits of numbers and of bytes, and the slots that write them.
use Rattle.std.specs.Prelude.{ℕ, zero, suc, ◌+◌, Bool, List, [], ◌∷◌, ◌++◌, map}
use Rattle.base.specs.Bits.{bit_of}
use Rattle.line.specs.declared.Event.{Event}
use Rattle.line.specs.Events.{slot_event}

-- so many bits of a number from a place on, least significant first
abbrev pub bits_from : ℕ → ℕ → ℕ → List Bool
bits_from zero place n = []
bits_from (suc k) place n = bit_of n place ∷ bits_from k (place + 1) n

-- the eight bits of each byte
abbrev pub bits_of : List ℕ → List Bool
bits_of [] = []
bits_of (b ∷ bs) = bits_from 8 0 b ++ bits_of bs

-- slots of these bits
abbrev pub slots : List Bool → List Event
slots vs = map slot_event vs

-- slots that write these bytes
abbrev pub byte_slots : List ℕ → List Event
byte_slots bs = slots (bits_of bs)
