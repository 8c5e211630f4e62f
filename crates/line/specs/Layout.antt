-- Document 01: "The caller lends the table of attached chips, the memory images (..) in table order, and the scratchpads (..)
-- same order": the buffers as a layout of a list of whole chips, with sizes by kind.
use Rattle.std.specs.Prelude.{ℕ, ◌+◌, List, [], ◌∷◌, ◌++◌, map, ltb, leb, take, drop}
use Rattle.base.specs.Pick.{pick}
use Rattle.chip.specs.Chip.{Whole, whole}
use Rattle.chip.specs.Kinds.{image_size, pad_size}
use Rattle.chip.specs.declared.Chip.{Chip}

-- a size summed over chips
abbrev pub sum_of : (ℕ → ℕ) → List Chip → ℕ
sum_of size [] = 0
sum_of size (c ∷ cs) = size c.kind + sum_of size cs

-- the sizes that a table asks for
abbrev pub images_size : List Chip → ℕ
images_size cs = sum_of image_size cs

abbrev pub pads_size : List Chip → ℕ
pads_size cs = sum_of pad_size cs

-- the most that a table asks for, of images and of scratchpads: 16 chips, each with 2,624 bytes and 32 (Done: images-most, pads-most)
abbrev pub images_most : ℕ
images_most = 41984

abbrev pub pads_most : ℕ
pads_most = 512

-- each chip with its part of the buffers
abbrev pub split : List Chip → List ℕ → List ℕ → List Whole
split [] ms ss = []
split (c ∷ cs) ms ss =
    whole c (take (image_size c.kind) ms) (take (pad_size c.kind) ss)
    ∷ split cs (drop (image_size c.kind) ms) (drop (pad_size c.kind) ss)

-- the table and the buffers of a line
abbrev pub chips_of : List Whole → List Chip
chips_of L = map (λ (w : Whole). w.chip) L

abbrev pub images_of : List Whole → List ℕ
images_of [] = []
images_of (w ∷ L) = w.memory ++ images_of L

abbrev pub pads_of : List Whole → List ℕ
pads_of [] = []
pads_of (w ∷ L) = w.pad ++ pads_of L

-- a table of places with its buffers
pub record Lent : Type 0 where
  pub chips : List Chip
  pub images : List ℕ
  pub pads : List ℕ

abbrev pub lent : List Chip → List ℕ → List ℕ → Lent
lent cs ms ss = record { chips = cs; images = ms; pads = ss }

-- the line of a table: its first n places
abbrev pub line_of : ℕ → List Chip → List ℕ → List ℕ → List Whole
line_of n cs ms ss = split (take n cs) ms ss

-- a line, put back into a table of which it holds the first n places
abbrev pub lent_from : ℕ → List Chip → List Whole → Lent
lent_from n cs L = lent (chips_of L ++ drop n cs) (images_of L) (pads_of L)

-- a line has at most 16 chips, so more places than 16 are never used
unfoldable pub capped : ℕ → ℕ
capped places = pick (ltb places 16) places 16

-- the sizes to lend with a table of n chips; one of over 16 is refused whatever is lent
unfoldable pub images_asked : ℕ → List Chip → ℕ
images_asked n cs = pick (leb n 16) (images_size (take n cs)) 0

unfoldable pub pads_asked : ℕ → List Chip → ℕ
pads_asked n cs = pick (leb n 16) (pads_size (take n cs)) 0
