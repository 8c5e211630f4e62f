-- Document 02, M-102, "A short address also sets PF.": a whole session of a line whose codes all differ, from any state of it. A
-- Write Scratchpad that a reset ends inside its address, and one that it ends straight after it.
use Rattle.std.specs.Prelude.{ℕ, ◌%◌, Bool, true, List, [], ◌∷◌, ◌++◌}
use Rattle.scratchpad.specs.Registers.{registers}
use Rattle.chip.specs.With.{with_rc}
use Rattle.chip.specs.Chip.{Whole, whole}
use Rattle.line.specs.Events.{reset_event}
use Rattle.line.specs.declared.Event.{Event}
use Rattle.histories.specs.Sent.{bits_from}
use Rattle.recovery.specs.Sessions.{match_session}
use Rattle.commands.specs.Reset.{awaiting}

-- 0Fh and bits of an address, in a session that matches the code
abbrev pub begun_write : ℕ → List Bool → List Event
begun_write code bits = match_session code (bits_from 8 0 0x0F ++ bits)

-- the same, and a reset
abbrev pub ended_write : ℕ → List Bool → List Event
ended_write code bits = begun_write code bits ++ (reset_event ∷ [])

-- a chip that was matched: RC is 1
abbrev pub matched : Whole → Whole
matched w = whole (with_rc true w.chip) w.memory w.pad

-- a chip after a reset straight after the address t: "T is set, E = T mod 32, PF = AA = 0", and no data came
unfoldable pub after_address : ℕ → Whole → Whole
after_address t w = awaiting (registers t (t % 32)) w
