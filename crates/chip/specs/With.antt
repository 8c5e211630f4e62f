-- A chip's record: the one builder, and a chip with one field changed.
use Rattle.std.specs.Prelude.{ℕ, Bool, false}
use Rattle.scratchpad.specs.Registers.{registers}
use Rattle.scratchpad.specs.declared.Registers.{Registers}
use Rattle.ds2413.specs.Switch.{switch}
use Rattle.ds2413.specs.declared.Switch.{Switch}
use Rattle.chip.specs.declared.Chip.{Chip}
use Rattle.chip.specs.declared.Level.{Level}
use Rattle.chip.specs.declared.Level.TheVariants.{Waiting}

-- the one place that lists the fields
abbrev chip : ℕ → ℕ → Bool → Level → Registers → Switch → Chip
chip code kind rc l r w = record { code = code; kind = kind; rc = rc; level = l; registers = r; switch = w }

-- a chip that waits with RC 0, by its code, its kind and the registers of the parts
abbrev pub new_chip : ℕ → ℕ → Registers → Switch → Chip
new_chip code kind r w = chip code kind false Waiting r w

-- what is at a place that holds nothing
abbrev pub no_chip : Chip
no_chip = new_chip 0 0 (registers 0 0) (switch 0 0)

abbrev pub with_kind : ℕ → Chip → Chip
with_kind kind c = chip c.code kind c.rc c.level c.registers c.switch

abbrev pub with_rc : Bool → Chip → Chip
with_rc rc c = chip c.code c.kind rc c.level c.registers c.switch

abbrev pub with_level : Level → Chip → Chip
with_level l c = chip c.code c.kind c.rc l c.registers c.switch

abbrev pub with_registers : Registers → Chip → Chip
with_registers r c = chip c.code c.kind c.rc c.level r c.switch

abbrev pub with_switch : Switch → Chip → Chip
with_switch w c = chip c.code c.kind c.rc c.level c.registers w
