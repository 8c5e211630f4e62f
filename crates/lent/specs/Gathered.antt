-- Form: the chips of a lent slice gathered in a table by value, and a table put back into a slice.
use Rattle.std.specs.Prelude.{ℕ, zero, suc, List, ◌≡◌, length, get_or, set}
use Rattle.chip.specs.With.{no_chip}
use Rattle.chip.specs.declared.Chip.{Chip}
use Rattle.line.specs.Carrier.{over}
use Rattle.line.specs.Tables.{blank_table, joined, chip_for}
use Rattle.line.specs.declared.Table.{Table}
use Rattle.search.specs.declared.Found.{Found}
use Rattle.lent.specs.declared.Told.{Told}

-- the chips of a slice, one after the other
unfoldable pub gathered : List Chip → Table
gathered cs = over joined (length cs) 0 cs (blank_table 0)

-- a table put back into k places from i on
unfoldable pub puts : Table → ℕ → ℕ → List Chip → List Chip
puts t zero i cs = cs
puts t (suc k) i cs = puts t k (suc i) (set cs i (chip_for t i (get_or cs i no_chip)))

-- what is told of a search beside the table
abbrev pub Tells : Told → Found → Type 0
Tells q f = (q.answer ≡ f.answer) × (q.listed ≡ f.listed) × (q.resets ≡ f.resets) × (q.slots ≡ f.slots)
