-- Form: how the code goes about a line: what it gives is put into the image at once.
use Rattle.std.specs.Prelude.{◌≡◌, ℕ, true, false, List, Result, Ok, Err, refl}
use Rattle.std.proofs.lemmas.List.Edits.{sets}
use Rattle.intelhex.specs.Reading.{Next, data-record, end-record, stop}
use Rattle.intelhex.specs.declared.Ending.{Ending}
use Rattle.intelhex.specs.declared.Ending.TheVariants.{Part}
use Rattle.intelhex.specs.declared.Fault.{Fault}
use Rattle.intelhex.specs.declared.readers.Turn.{Turn}
use Rattle.intelhex.specs.declared.readers.Turn.TheVariants.{On, Stop}

-- what a turn comes to, and the image that it leaves
pub record Turned : Type 0 where
  pub turn : Result Turn Fault
  pub image : List ℕ

abbrev pub turned : Result Turn Fault → List ℕ → Turned
turned t image = record { turn = t; image = image }

-- a turn that is the last, by how it ends
abbrev pub stopped : Result Ending Fault → Result Turn Fault
stopped (Ok e) = Ok (Stop e)
stopped (Err f) = Err f

-- by what stands next
abbrev pub turned_by : List ℕ → Next → Turned
turned_by image (data-record size g) = turned (Ok (On size false)) (sets image g.address g.bytes)
turned_by image (end-record size) = turned (Ok (On size true)) image
turned_by image (stop e) = turned (stopped e) image

-- how the last turn ends; any other has no end
abbrev pub ending_of : Result Turn Fault → Result Ending Fault
ending_of (Ok (On size over)) = Ok Part
ending_of (Ok (Stop e)) = Ok e
ending_of (Err f) = Err f

pub ending_stopped : (e : Result Ending Fault) → ending_of (stopped e) ≡ e
ending_stopped (Ok e) = refl
ending_stopped (Err f) = refl
