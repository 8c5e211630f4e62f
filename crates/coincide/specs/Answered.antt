-- What an event answers is found again from 01's number or bus bit for it, and what a run of slots answers from 01's number or how many
-- slots it put: two answers with the same are the same.
use Rattle.std.specs.Prelude.{ℕ, ◌≡◌, refl, eqb, Result, Ok, Err, Bool}
use Rattle.std.proofs.Common.{◌∙◌, ap, sym}
use Rattle.base.specs.Pick.{pick}
use Rattle.line.specs.Event.{Answered, bit, refused, number_of, answered}
use Rattle.line.specs.Slots.{Slotted, put, refused as refusedRun, slotted}
use Rattle.line.specs.declared.Refusal.{Refusal}
use Rattle.line.specs.declared.Refusal.TheVariants.{OutOfRange, WrongSize, NoSuchEvent, NoSuchOutside}

-- a refusal from its number
pub refusal_from : ℕ → Refusal
refusal_from r = pick (eqb r 8) OutOfRange (pick (eqb r 5) WrongSize (pick (eqb r 6) NoSuchEvent NoSuchOutside))

pub refusal-from : (r : Refusal) → refusal_from (number_of r) ≡ r
unfolding refusal_from pick
refusal-from OutOfRange = refl
refusal-from WrongSize = refl
refusal-from NoSuchEvent = refl
refusal-from NoSuchOutside = refl

-- an answer from its number or bit
answer_from : Answered → Result Bool Refusal
answer_from (bit b) = Ok b
answer_from (refused r) = Err (refusal_from r)

answer-from : (a : Result Bool Refusal) → answer_from (answered a) ≡ a
unfolding answer_from
answer-from (Ok b) = refl
answer-from (Err r) = ap (λ (x : Refusal). Err x) (refusal-from r)

pub answered_once : (a b : Result Bool Refusal) → answered a ≡ answered b → a ≡ b
answered_once a b e = sym (answer-from a) ∙ ap answer_from e ∙ answer-from b

-- the answer of a run, likewise
run_from : Slotted → Result ℕ Refusal
run_from (put n) = Ok n
run_from (refusedRun r) = Err (refusal_from r)

run-from : (a : Result ℕ Refusal) → run_from (slotted a) ≡ a
unfolding run_from
run-from (Ok n) = refl
run-from (Err r) = ap (λ (x : Refusal). Err x) (refusal-from r)

pub slotted_once : (a b : Result ℕ Refusal) → slotted a ≡ slotted b → a ≡ b
slotted_once a b e = sym (run-from a) ∙ ap run_from e ∙ run-from b
