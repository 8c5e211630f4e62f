-- What holds at every slot of a history, and a test of it that is computed; and what a chip keeps over such a history.
use Rattle.std.specs.Prelude.{ℕ, Bool, true, List, [], ◌∷◌, ◌≡◌, Result, Ok, Err}
use Rattle.line.specs.declared.Refusal.{Refusal}
use Rattle.base.specs.Bits.{both}
use Rattle.base.specs.Both.{both_holds}
use Rattle.chip.specs.Chip.{Whole, outside_of}
use Rattle.line.specs.Line.{value_of, act_of, after_plan}
use Rattle.line.specs.Event.{plan_on}
use Rattle.line.specs.declared.Event.{Event}
use Rattle.line.specs.declared.Plan.{Plan}
use Rattle.line.specs.declared.Plan.TheVariants as plan
use Rattle.line.specs.declared.Act.TheVariants.{Take, Reset, PowerOn}
use Rattle.histories.specs.Histories.{at, after_of, run}
use Rattle.histories.specs.Place.{map-at, outside-at}

-- what an event comes to is no slot, or one of a bit that has Q
abbrev pub AtSlot : (Bool → Type 0) → Result Plan Refusal → Type 0
AtSlot Q (Err r) = Unit
AtSlot Q (Ok (plan.Slot b)) = Q b
AtSlot Q (Ok plan.Reset) = Unit
AtSlot Q (Ok plan.PowerOn) = Unit
AtSlot Q (Ok (plan.Outside i l)) = Unit

-- every slot of a history, by the host's bit and the line at that time
abbrev pub AtSlots : (Bool → List Whole → Type 0) → List Event → List Whole → Type 0
AtSlots Q [] L = Unit
AtSlots Q (e ∷ es) L = AtSlot (λ (b : Bool). Q b L) (plan_on e L) × AtSlots Q es (after_of e L)

-- the same as a test
abbrev pub at_slot : (Bool → Bool) → Result Plan Refusal → Bool
at_slot t (Err r) = true
at_slot t (Ok (plan.Slot b)) = t b
at_slot t (Ok plan.Reset) = true
at_slot t (Ok plan.PowerOn) = true
at_slot t (Ok (plan.Outside i l)) = true

abbrev pub at_slots : (Bool → List Whole → Bool) → List Event → List Whole → Bool
at_slots t [] L = true
at_slots t (e ∷ es) L = both (at_slot (λ (b : Bool). t b L) (plan_on e L)) (at_slots t es (after_of e L))

-- where the test says so, it holds
module _ (t : Bool → List Whole → Bool) (Q : Bool → List Whole → Type 0) (so : (b : Bool) (L : List Whole) → t b L ≡ true → Q b L) where
  at-slot : (p : Result Plan Refusal) (L : List Whole) → at_slot (λ (b : Bool). t b L) p ≡ true → AtSlot (λ (b : Bool). Q b L) p
  at-slot (Err r) L e = tt
  at-slot (Ok (plan.Slot b)) L e = so b L e
  at-slot (Ok plan.Reset) L e = tt
  at-slot (Ok plan.PowerOn) L e = tt
  at-slot (Ok (plan.Outside i l)) L e = tt

  pub at-slots : (es : List Event) (L : List Whole) → at_slots t es L ≡ true → AtSlots Q es L
  at-slots [] L h = tt
  at-slots (e ∷ es) L h =
      let k = both_holds (at_slot (λ (b : Bool). t b L) (plan_on e L)) (at_slots t es (after_of e L)) h in
      (at-slot (plan_on e L) L k.0, at-slots es (after_of e L) k.1)

-- what chip i keeps: over slots that have Q, and over all other events
module _ (i : ℕ) (P : Whole → Type 0) (Q : Bool → List Whole → Type 0)
    (slot : (b : Bool) (L : List Whole) → P (at i L) → Q b L → P (act_of (Take (value_of b L)) (at i L)))
    (reset : (w : Whole) → P w → P (act_of Reset w)) (power_on : (w : Whole) → P w → P (act_of PowerOn w))
    (outside : (l : ℕ) (w : Whole) → P w → P (outside_of l w)) where
  -- one event
  plan_kept : (p : Result Plan Refusal) (L : List Whole) → P (at i L) → AtSlot (λ (b : Bool). Q b L) p → P (at i (after_plan p L))
  plan_kept (Err r) L h q = h
  plan_kept (Ok (plan.Slot b)) L h q = map-at P (act_of (Take (value_of b L))) i L h (slot b L h q)
  plan_kept (Ok plan.Reset) L h q = map-at P (act_of Reset) i L h (reset (at i L) h)
  plan_kept (Ok plan.PowerOn) L h q = map-at P (act_of PowerOn) i L h (power_on (at i L) h)
  plan_kept (Ok (plan.Outside j l)) L h q = outside-at P i j l L h (outside l (at i L) h)

  event_kept : (e : Event) (L : List Whole) → P (at i L) → AtSlot (λ (b : Bool). Q b L) (plan_on e L) → P (at i (after_of e L))
  unfolding after_of
  event_kept e L h q = plan_kept (plan_on e L) L h q

  -- it keeps it over a history in which every slot has Q
  pub slots_kept : (es : List Event) (L : List Whole) → P (at i L) → AtSlots Q es L → P (at i (run es L))
  slots_kept [] L h n = h
  slots_kept (e ∷ es) L h (q, n) = slots_kept es (after_of e L) (event_kept e L h q) n

  -- so at every slot holds what follows from both
  module _ (R : Bool → List Whole → Type 0) (then : (b : Bool) (L : List Whole) → P (at i L) → Q b L → R b L) where
    at_slot_too : (p : Result Plan Refusal) (L : List Whole) → P (at i L) → AtSlot (λ (b : Bool). Q b L) p → AtSlot (λ (b : Bool). R b L) p
    at_slot_too (Err r) L h q = tt
    at_slot_too (Ok (plan.Slot b)) L h q = then b L h q
    at_slot_too (Ok plan.Reset) L h q = tt
    at_slot_too (Ok plan.PowerOn) L h q = tt
    at_slot_too (Ok (plan.Outside j l)) L h q = tt

    pub at_slots_too : (es : List Event) (L : List Whole) → P (at i L) → AtSlots Q es L → AtSlots R es L
    at_slots_too [] L h n = tt
    at_slots_too (e ∷ es) L h (q, n) = (at_slot_too (plan_on e L) L h q, at_slots_too es (after_of e L) (event_kept e L h q) n)
