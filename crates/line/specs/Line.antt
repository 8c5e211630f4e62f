-- Document 01, "The line and what happens on it": events on a list of whole chips.
use Rattle.std.specs.Prelude.{ℕ, zero, suc, Bool, true, false, List, [], ◌∷◌, map, Result, Ok, Err}
use Rattle.line.specs.declared.Refusal.{Refusal}
use Rattle.base.specs.Bits.{both}
use Rattle.chip.specs.Chip.{Whole, takes_of, sends_of, reset_of, power_on_of, outside_of}
use Rattle.line.specs.declared.Act.{Act}
use Rattle.line.specs.declared.Act.TheVariants.{Take, Reset, PowerOn}
use Rattle.line.specs.declared.Plan.{Plan}
use Rattle.line.specs.declared.Plan.TheVariants as plan

-- the AND of a bit and what every chip puts on the bus
abbrev pub bus_from : (Whole → Bool) → Bool → List Whole → Bool
bus_from f v [] = v
bus_from f v (w ∷ L) = bus_from f (both (f w) v) L

-- "A slot's value is the AND of the host's bit and the bit of each chip that is sending; a chip with nothing to send sends 1."
abbrev pub value_of : Bool → List Whole → Bool
value_of host L = bus_from sends_of host L

-- "Reset answers 0 if any chip is there, otherwise 1."
abbrev pub absent : List Whole → Bool
absent [] = true
absent (w ∷ L) = false

-- what each chip does in a slot of a value, at a reset and at power on
abbrev pub act_of : Act → Whole → Whole
act_of (Take v) w = takes_of v w
act_of Reset w = reset_of w
act_of PowerOn w = power_on_of w

-- new outside levels of one chip
abbrev pub outside_at : ℕ → ℕ → List Whole → List Whole
outside_at i l [] = []
outside_at zero l (w ∷ L) = outside_of l w ∷ L
outside_at (suc i) l (w ∷ L) = w ∷ outside_at i l L

-- what one chip puts on the bus: in a slot what it sends, 0 at a reset that it takes
abbrev pub puts_of : Plan → Whole → Bool
puts_of (plan.Slot b) w = sends_of w
puts_of plan.Reset w = false
puts_of plan.PowerOn w = true
puts_of (plan.Outside i l) w = true

-- what the host puts on it
abbrev pub host_of : Plan → Bool
host_of (plan.Slot b) = b
host_of plan.Reset = true
host_of plan.PowerOn = true
host_of (plan.Outside i l) = true

-- the bit on the bus
abbrev pub bus_of : Plan → List Whole → Bool
bus_of p L = bus_from (puts_of p) (host_of p) L

-- the line after; "A receiving chip takes the slot's value, not the host's bit."
abbrev pub after_by : Plan → List Whole → List Whole
after_by (plan.Slot b) L = map (act_of (Take (value_of b L))) L
after_by plan.Reset L = map (act_of Reset) L
after_by plan.PowerOn L = map (act_of PowerOn) L
after_by (plan.Outside i l) L = outside_at i l L

-- refused, nothing changes
abbrev pub after_plan : Result Plan Refusal → List Whole → List Whole
after_plan (Ok p) L = after_by p L
after_plan (Err r) L = L
