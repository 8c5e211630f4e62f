-- What set-up answers is found again from 01's number for it, with the number of chips or the offset: two answers with the same are the same.
use Rattle.std.specs.Prelude.{◌≡◌, ℕ, refl, eqb, Result, Ok, Err}
use Rattle.std.proofs.Common.{◌∙◌, ap, sym}
use Rattle.base.specs.Pick.{pick}
use Rattle.card.specs.Card.{fault_number, Carded, chips, refused, carded}
use Rattle.card.specs.declared.Fault.{Fault}
use Rattle.card.specs.declared.Fault.TheVariants.{TooMany, UnknownKind, WrongLength}
use Rattle.card.specs.declared.Refused.{Refused}

-- a fault from its number
fault_from : ℕ → Fault
fault_from n = pick (eqb n 1) TooMany (pick (eqb n 2) UnknownKind WrongLength)

fault-from : (f : Fault) → fault_from (fault_number f) ≡ f
unfolding fault_from pick
fault-from TooMany = refl
fault-from UnknownKind = refl
fault-from WrongLength = refl

-- an answer from its number and place
card_from : Carded → Result ℕ Refused
card_from (chips n) = Ok n
card_from (refused r at) = Err (record { fault = fault_from r; at = at })

card-from : (a : Result ℕ Refused) → card_from (carded a) ≡ a
unfolding card_from
card-from (Ok n) = refl
card-from (Err r) = λ j. Err (record { fault = fault-from r.fault j; at = r.at })

pub fault_number_once : (f g : Fault) → fault_number f ≡ fault_number g → f ≡ g
fault_number_once f g e = sym (fault-from f) ∙ ap fault_from e ∙ fault-from g

pub carded_once : (a b : Result ℕ Refused) → carded a ≡ carded b → a ≡ b
carded_once a b e = sym (card-from a) ∙ ap card_from e ∙ card-from b
