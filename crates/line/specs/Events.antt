-- Document 01, "The line and what happens on it": the events by name.
use Rattle.std.specs.Prelude.{ℕ, Bool}
use Rattle.base.specs.Pick.{pick}
use Rattle.line.specs.declared.Event.{Event}

-- an event by its number, with the chip and the outside levels that event 4 names
abbrev pub event_with : ℕ → ℕ → ℕ → Event
event_with number chip outside = record { number = number; chip = chip; outside = outside }

-- "Events: 0 and 1, a slot in which the host writes that bit (a read slot is a 1)"
abbrev pub slot_event : Bool → Event
slot_event b = event_with (pick b 1 0) 0 0

-- "2, reset"
abbrev pub reset_event : Event
reset_event = event_with 2 0 0

-- "3, power on"
abbrev pub power_on_event : Event
power_on_event = event_with 3 0 0

-- "4, outside levels of one DS2413 (bit 0 for PIOA, bit 1 for PIOB)"
abbrev pub outside_event : ℕ → ℕ → Event
outside_event chip outside = event_with 4 chip outside
