-- How playing a recording ends is found again from the number of its refusal: two endings with the same are the same.
use Rattle.std.specs.Prelude.{ℕ, ◌≡◌, refl, eqb, Result, Ok, Err}
use Rattle.std.proofs.Common.{◌∙◌, ap, sym}
use Rattle.base.specs.Pick.{pick}
use Rattle.line.specs.Event.{number_of}
use Rattle.line.specs.declared.Refusal.{Refusal}
use Rattle.line.specs.declared.Refusal.TheVariants.{OutOfRange, WrongSize, NoSuchEvent, NoSuchOutside}
use Rattle.card.specs.declared.Fault.TheVariants.{TooMany, UnknownKind, WrongLength}
use Rattle.recording.specs.Reading.{number_of_fault}
use Rattle.recording.specs.Playing.{Ends, ended, part, refusal, ends_of}
use Rattle.recording.specs.declared.Ending.{Ending}
use Rattle.recording.specs.declared.Ending.TheVariants as ending
use Rattle.recording.specs.declared.Fault.{Fault}
use Rattle.recording.specs.declared.Fault.TheVariants.{OnCard, CardAfterEvent, UnusedBits, OnLine}
use Rattle.coincide.specs.Answered.{refusal_from, refusal-from}

-- why, from its number
fault_from : ℕ → Fault
fault_from r =
    pick (eqb r 1) (OnCard TooMany)
    (pick (eqb r 2) (OnCard UnknownKind)
    (pick (eqb r 3) (OnCard WrongLength)
    (pick (eqb r 9) CardAfterEvent
    (pick (eqb r 10) UnusedBits
    (OnLine (refusal_from r))))))

-- no refusal of the line has the number of another fault
line_fault : (r : Refusal) → fault_from (number_of r) ≡ OnLine (refusal_from (number_of r))
unfolding fault_from pick
line_fault OutOfRange = refl
line_fault WrongSize = refl
line_fault NoSuchEvent = refl
line_fault NoSuchOutside = refl

fault-from : (f : Fault) → fault_from (number_of_fault f) ≡ f
unfolding fault_from pick
fault-from (OnCard TooMany) = refl
fault-from (OnCard UnknownKind) = refl
fault-from (OnCard WrongLength) = refl
fault-from CardAfterEvent = refl
fault-from UnusedBits = refl
fault-from (OnLine r) = line_fault r ∙ ap (λ (x : Refusal). OnLine x) (refusal-from r)

-- an ending from it
ending_from : Ends → Result Ending Fault
ending_from ended = Ok ending.End
ending_from part = Ok ending.Part
ending_from (refusal r) = Err (fault_from r)

ending-from : (e : Result Ending Fault) → ending_from (ends_of e) ≡ e
unfolding ending_from
ending-from (Ok ending.End) = refl
ending-from (Ok ending.Part) = refl
ending-from (Err f) = ap (λ (x : Fault). (Err x)) (fault-from f)

pub ends_once : (a b : Result Ending Fault) → ends_of a ≡ ends_of b → a ≡ b
ends_once a b e = sym (ending-from a) ∙ ap ending_from e ∙ ending-from b
