-- Form: a table's bytes with its buffers as a line of whole chips, and a range outside which every chip waits.
use Rattle.std.specs.Prelude.{ℕ, ◌≤◌, List, [], ◌∷◌, ◌≡◌, length, take, drop}
use Rattle.chip.specs.Chip.{Whole}
use Rattle.chip.specs.declared.Chip.{Chip}
use Rattle.chip.specs.declared.Level.TheVariants.{Waiting}
use Rattle.line.specs.Layout.{images_size, pads_size, line_of}
use Rattle.line.specs.Event.{Fits}
use Rattle.packed.specs.Packed.{unpacked_table}
use Rattle.packed.specs.Places.{Table16}
use Rattle.toemsakun.specs.declared.slots.Range.{Range}

-- bytes are a table of at most 16 chips, and the buffers have the sizes that it asks for
pub record Lined (bs ms ss : List ℕ) : Type 0 where
  pub table : Table16 bs
  pub fits : Fits (length (unpacked_table bs)) (unpacked_table bs) ms ss

-- the line that they hold
abbrev pub line_in : List ℕ → List ℕ → List ℕ → List Whole
line_in bs ms ss = line_of (length (unpacked_table bs)) (unpacked_table bs) ms ss

-- every chip waits for a reset
abbrev pub Waits : List Chip → Type 0
Waits [] = Unit
Waits (c ∷ cs) = (c.level ≡ Waiting) × Waits cs

-- a range of chips, outside which every chip waits
pub record OutsideOf (g : Range) (cs : List Chip) : Type 0 where
  pub ordered : g.first ≤ g.past
  pub within : g.past ≤ length cs
  pub image : g.parts.image ≡ images_size (take g.first cs)
  pub pad : g.parts.pad ≡ pads_size (take g.first cs)
  pub before : Waits (take g.first cs)
  pub after : Waits (drop g.past cs)

abbrev pub Outside : Range → List ℕ → Type 0
Outside g bs = OutsideOf g (unpacked_table bs)
