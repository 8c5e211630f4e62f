-- The parts that have the scratchpad commands, and the map of each.
use Rattle.scratchpad.specs.Map.{Map}
use Rattle.ds28ec20.specs.Map.{ds28ec20}
use Rattle.memory.specs.declared.Part.{Part}
use Rattle.memory.specs.declared.Part.TheVariants.{Ds28ec20}

unfoldable pub map_of : Part → Map
map_of Ds28ec20 = ds28ec20
