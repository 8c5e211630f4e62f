-- Document 02, M-109, "Setpoint records, old and new": the two kinds, and the numbers of the refusals.
use Rattle.std.specs.Prelude.{ℕ, Bool, ℤ, pos}
use Rattle.std.specs.Int.Signed.{le_z}
use Rattle.base.specs.Bits.{both}
use Rattle.setpoints.specs.declared.Kind.{Kind}
use Rattle.setpoints.specs.declared.Kind.TheVariants.{Degrees, Tenths}
use Rattle.setpoints.specs.declared.Fault.{Fault}
use Rattle.setpoints.specs.declared.Fault.TheVariants.{AnotherKind, WrongLength, OutOfRange}

-- what a kind says of its records: its number, how many bytes a value has, the least and the most that is allowed, and what one of its units is worth
-- in tenths of a degree
pub record Form : Type 0 where
  pub kind : ℕ
  pub bytes : ℕ
  pub least : ℤ
  pub most : ℤ
  pub worth : ℕ

-- "Kind 101 has one byte, a signed whole number of degrees Celsius, allowed from 10 to 35."
abbrev pub degrees : Form
degrees = record { kind = 101; bytes = 1; least = pos 10; most = pos 35; worth = 10 }

-- "From this spring kind 102 has two bytes, signed tenths, allowed from 180 to 270."
abbrev pub tenths : Form
tenths = record { kind = 102; bytes = 2; least = pos 180; most = pos 270; worth = 1 }

abbrev pub form_of : Kind → Form
form_of Degrees = degrees
form_of Tenths = tenths

-- a number lies between two others, or is one of them
unfoldable pub between : ℤ → ℤ → ℤ → Bool
between least v most = both (le_z least v) (le_z v most)

-- a value is allowed
abbrev pub allowed : Form → ℤ → Bool
allowed f v = between f.least v f.most

-- "13, another kind; 14, wrong length; 15, out of range"
abbrev pub number_of_fault : Fault → ℕ
number_of_fault AnotherKind = 13
number_of_fault WrongLength = 14
number_of_fault OutOfRange = 15
