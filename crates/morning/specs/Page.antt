-- The request M-108: what page 0 of a code is. "Where chips share a code, the byte read is the AND of those of the DS28EC20s that bear it; a
-- DS2413 with that code sends ones." Definitions alone.
use Rattle.std.specs.Prelude.{ℕ, zero, suc, ◌+◌, Bool, true, List, [], ◌∷◌, ◌++◌, map, get_or, replicate}
use Rattle.base.specs.Pick.{pick}
use Rattle.base.specs.Bits.{both}
use Rattle.chip.specs.Chip.{Whole}
use Rattle.histories.specs.Histories.{Stored, stores_of}
use Rattle.histories.specs.Sent.{bits_from}
use Rattle.recovery.specs.Filled.{filled_by}
use Rattle.rounds.specs.Borne.{bears_code, page_size}

-- the memories of the DS28EC20s that bear a code, in table order
abbrev pub bearing : ℕ → List Stored → List (List ℕ)
bearing code [] = []
bearing code (c ∷ cs) = pick (bears_code code c.kind c.code) (c.memory ∷ bearing code cs) (bearing code cs)

-- those of a line
abbrev pub bearers_of : ℕ → List Whole → List (List ℕ)
bearers_of code L = bearing code (stores_of L)

-- the AND of bits, place by place
abbrev pub both_bits : List Bool → List Bool → List Bool
both_bits [] ys = []
both_bits (x ∷ xs) [] = []
both_bits (x ∷ xs) (y ∷ ys) = both x y ∷ both_bits xs ys

-- the bits of the AND of bytes, least significant first; of no byte, ones
abbrev pub and_bits : List ℕ → List Bool
and_bits [] = replicate 8 true
and_bits (b ∷ bs) = both_bits (bits_from 8 0 b) (and_bits bs)

-- the AND of bytes: the byte of these bits
abbrev pub and_of : List ℕ → ℕ
and_of bs = filled_by 0x80 0 (and_bits bs)

-- the AND of the bytes of memories at n addresses from one on
abbrev pub bytes_at : ℕ → ℕ → List (List ℕ) → List ℕ
bytes_at zero address ms = []
bytes_at (suc n) address ms = and_of (map (λ (m : List ℕ). get_or m address 0) ms) ∷ bytes_at n (address + 1) ms

-- page 0 of a code: "their bytes 0000h to 001Fh"
abbrev pub page_of : ℕ → List Whole → List ℕ
page_of code L = bytes_at page_size 0 (bearers_of code L)

-- the pages of codes, one after the other
abbrev pub pages_of : List ℕ → List Whole → List ℕ
pages_of [] L = []
pages_of (code ∷ codes) L = page_of code L ++ pages_of codes L
