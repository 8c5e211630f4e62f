-- A chip in slots of given values, one after the other: what it is after them, and whether it sends anything in them.
use Rattle.std.specs.Prelude.{Bool, true, List, [], ◌∷◌}
use Rattle.base.specs.Bits.{both}
use Rattle.chip.specs.Chip.{Whole, takes_of, sends_of}

-- the chip after them
abbrev pub fed : List Bool → Whole → Whole
fed [] w = w
fed (v ∷ vs) w = fed vs (takes_of v w)

-- "a chip with nothing to send sends 1": in each of them
abbrev pub sends_nothing : List Bool → Whole → Bool
sends_nothing [] w = true
sends_nothing (v ∷ vs) w = both (sends_of w) (sends_nothing vs (takes_of v w))
