-- The request M-108: which codes a DS28EC20 bears. "n is the number of distinct codes; m of them are borne by a DS28EC20: some chip of the
-- table with that code is of kind 1. This is read off the table, never off the code."
use Rattle.std.specs.Prelude.{ℕ, ◌*◌, Bool, List, [], ◌∷◌, eqb, leb, take}
use Rattle.base.specs.Pick.{pick}
use Rattle.base.specs.Bits.{both}
use Rattle.base.specs.Once.{is_in, distinct_in}
use Rattle.chip.specs.Kinds.{is_ds28ec20}
use Rattle.chip.specs.declared.Chip.{Chip}

-- a chip of this kind and with this code of its own bears a code: it is a DS28EC20 that has it
abbrev pub bears_code : ℕ → ℕ → ℕ → Bool
bears_code code kind own = both (is_ds28ec20 kind) (eqb code own)

-- the codes of the DS28EC20s among these chips, in table order
unfoldable pub borne_in : List Chip → List ℕ
borne_in [] = []
borne_in (c ∷ cs) = pick (is_ds28ec20 c.kind) (c.code ∷ borne_in cs) (borne_in cs)

-- those of a list of codes that are borne, in the list's order
unfoldable pub only_borne : List ℕ → List ℕ → List ℕ
only_borne borne [] = []
only_borne borne (c ∷ cs) = pick (is_in c borne) (c ∷ only_borne borne cs) (only_borne borne cs)

-- the bytes of a page, and the most that a table asks for: 16 pages (the contract of `pages_asked` says so)
abbrev pub page_size : ℕ
page_size = 32

abbrev pub pages_most : ℕ
pages_most = 16 * page_size

-- the size of page buffer that a table of n chips asks: 32 m bytes, where "a code that chips share counts once"; one of over 16 is refused
-- whatever is lent
unfoldable pub pages_asked : ℕ → List Chip → ℕ
pages_asked n cs = pick (leb n 16) (page_size * distinct_in (borne_in (take n cs))) 0
