-- What a search answers is found again from 01's number for it: two answers with the same are the same.
use Rattle.std.specs.Prelude.{false, Result, Ok, Err, ◌≡◌, refl, eqb}
use Rattle.std.proofs.Common.{◌∙◌, ap, sym}
use Rattle.base.specs.Pick.{pick}
use Rattle.line.specs.Event.{number_of}
use Rattle.line.specs.declared.Refusal.{Refusal}
use Rattle.line.specs.declared.Refusal.TheVariants.{OutOfRange, WrongSize, NoSuchEvent, NoSuchOutside}
use Rattle.search.specs.Search.{Searched, complete, refused, searched}
use Rattle.search.specs.declared.Fault.{Fault}
use Rattle.search.specs.declared.Fault.TheVariants.{TooFewPlaces, Refused}
use Rattle.coincide.specs.Answered.{refusal_from, refusal-from}

-- an answer from its number
search_from : Searched → Result (Unit {0}) Fault
search_from complete = Ok tt
search_from (refused r) = Err (pick (eqb r 4) TooFewPlaces (Refused (refusal_from r)))

no_four : (r : Refusal) → eqb (number_of r) 4 ≡ false
no_four OutOfRange = refl
no_four WrongSize = refl
no_four NoSuchEvent = refl
no_four NoSuchOutside = refl

search-from : (a : Result (Unit {0}) Fault) → search_from (searched a) ≡ a
unfolding search_from pick
search-from (Ok x) = refl
search-from (Err TooFewPlaces) = refl
search-from (Err (Refused r)) = rw (no_four r) (ap (λ (x : Refusal). Err (Refused x)) (refusal-from r))

pub searched_once : (a b : Result (Unit {0}) Fault) → searched a ≡ searched b → a ≡ b
searched_once a b e = sym (search-from a) ∙ ap search_from e ∙ search-from b
