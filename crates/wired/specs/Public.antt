-- Demand 2, "the line shows the wired AND": of the public event, over a table and its buffers that neither 8 nor 5 refuses. An event is
-- what its number says, whatever its other fields hold.
use Rattle.std.specs.Prelude.{ℕ, ◌<◌, Bool, true, false, List, [], ◌∷◌, ◌⊎◌, ◌≡◌, refl, length, Ok, Err, Result}
use Rattle.line.specs.declared.Refusal.{Refusal}
use Rattle.std.proofs.Common.{arith, true≢false, inl, inr, ◌∙◌, sym}
use Rattle.std.proofs.Math.Path.{ap}
use Rattle.base.specs.Pick.{pick}
use Rattle.base.specs.Exactly.{Iff}
use Rattle.chip.specs.Chip.{Whole, takes_of}
use Rattle.line.specs.Line.{value_of, absent, act_of, after_plan}
use Rattle.line.specs.Event.{Answered, bit, refused, outside_fits, asked_by, plan_by, plan_event, plan_on, answer_by, answer_plan}
use Rattle.line.specs.Events.{event_with, outside_event}
use Rattle.line.specs.Refusals.{presence}
use Rattle.line.specs.declared.Act.TheVariants.{Take}
use Rattle.line.specs.declared.Event.{Event}
use Rattle.line.specs.declared.Refusal.TheVariants.{NoSuchOutside}
use Rattle.line.specs.declared.Plan.{Plan}
use Rattle.line.specs.declared.Plan.TheVariants as plan
use Rattle.line.specs.Attached.{Attached, says_of, leaves_of, Stands, line_from}
use Rattle.histories.specs.Histories.{at, answer_of, after_of}
use Rattle.histories.specs.Place.{at_map}
use Rattle.line.proofs.Standing.{line_length}
use Rattle.histories.specs.Standing.{says_is, line_after}
use Rattle.wired.specs.Wired.{AllSendOne, value_exactly}

-- "Events: 0 and 1, a slot in which the host writes that bit"
abbrev pub Writes : Bool → Event → Type 0
Writes b e = e.number ≡ pick b 1 0

-- an answer that is a bit: 1 exactly if A, 0 exactly if B
pub record Shows (A B : Type 0) (a : Answered) : Type 0 where
  pub a_bit : (a ≡ bit true) ⊎ (a ≡ bit false)
  pub one : Iff (a ≡ bit true) A
  pub zero : Iff (a ≡ bit false) B

-- a bit has one value
same_bit : (v u : Bool) → bit v ≡ bit u → v ≡ u
same_bit v u e = cc

-- a bit shows what its value tells apart
shows : {A B : Type 0} (v : Bool) → (v ≡ true → A) → (v ≡ false → B) → (A → B → ⊥) → Shows A B (bit v)
shows true f g n = record {
  a_bit = inl refl;
  one = ((λ e. f refl), (λ a. refl));
  zero = ((λ e. absurd (true≢false (same_bit true false e))), (λ b. absurd (n (f refl) b)));
}
shows false f g n = record {
  a_bit = inr refl;
  one = ((λ e. absurd (true≢false (sym (same_bit false true e)))), (λ a. absurd (n a (g refl))));
  zero = ((λ e. g refl), (λ b. refl));
}

-- what an event comes to on a line, by its number
slot_plan : (b : Bool) (e : Event) (L : List Whole) → Writes b e → plan_on e L ≡ Ok (plan.Slot b)
unfolding plan_event outside_fits asked_by pick
slot_plan true e L h = rw h
slot_plan false e L h = rw h

reset_plan : (e : Event) (L : List Whole) → e.number ≡ 2 → plan_on e L ≡ Ok plan.Reset
unfolding plan_event outside_fits asked_by pick
reset_plan e L h = rw h

power_on_plan : (e : Event) (L : List Whole) → e.number ≡ 3 → plan_on e L ≡ Ok plan.PowerOn
unfolding plan_event outside_fits asked_by pick
power_on_plan e L h = rw h

-- outside levels that are not refused by 7 answer 1
abbrev OneOr7 : Result Plan Refusal → List Whole → Type 0
OneOr7 q L = (answer_plan q L ≡ refused 7 → ⊥) → answer_plan q L ≡ bit true

outside_by : (i x : ℕ) (L : List Whole) → OneOr7 (plan_on (outside_event i x) L) L
unfolding plan_event asked_by pick
outside_by i x L = fitting (outside_fits (outside_event i x) _ _)
  where
    fitting : (t : Bool) → OneOr7 (plan_by (pick t (Ok tt) (Err NoSuchOutside)) (Ok (plan.Outside i x))) L
    fitting true n = refl
    fitting false n = absurd (n refl)

-- a line without a chip
absent_none : (L : List Whole) → absent L ≡ true → length L ≡ 0
absent_none [] e = refl
absent_none (w ∷ L) e = absurd (true≢false (sym e))

absent_some : (L : List Whole) → absent L ≡ false → 0 < length L
absent_some [] e = absurd (true≢false e)
absent_some (w ∷ L) e = omega arith

module _ (l : Attached) (s : Stands l) where
  -- what is answered by what the event comes to
  says_by : (e : Event) (q : Result Plan Refusal) → plan_on e (line_from l) ≡ q → says_of e l ≡ answer_plan q (line_from l)
  unfolding answer_of
  says_by e q h = says_is l s e ∙ ap (λ (p : Result Plan Refusal). answer_plan p (line_from l)) h

  pub slot_says : (b : Bool) (e : Event) → Writes b e → says_of e l ≡ answer_by (plan.Slot b) (line_from l)
  slot_says b e h = says_by e (Ok (plan.Slot b)) (slot_plan b e (line_from l) h)

  -- "A slot's value is the AND of the host's bit and the bit of each chip that is sending": a slot answers 1 exactly if the host's bit and
  -- the bit of every chip is 1, and otherwise 0; "a chip with nothing to send sends 1" (`nothing_sends_1`), so these are the chips that send
  pub slot_shows_and : (b : Bool) (e : Event) → Writes b e
      → Shows ((b ≡ true) × AllSendOne (line_from l)) ((b ≡ true) × AllSendOne (line_from l) → ⊥) (says_of e l)
  slot_shows_and b e h =
      let x = value_exactly b (line_from l) in
      rw (slot_says b e h) (shows (value_of b (line_from l)) x.0 (λ z a. true≢false (sym (x.1 a) ∙ z)) (λ a n. n a))

  -- "Reset answers 0 if any chip is there, otherwise 1."
  pub reset_shows_presence : (e : Event) → e.number ≡ 2 → Shows (l.count ≡ 0) (0 < l.count) (says_of e l)
  reset_shows_presence e h =
      let n = line_length l s in
      rw (says_by e (Ok plan.Reset) (reset_plan e (line_from l) h), presence (line_from l))
      (shows (absent (line_from l)) (λ z. sym n ∙ absent_none (line_from l) z) (λ z. let k = absent_some (line_from l) z in omega arith) (λ a b. omega arith))

  -- "Events 3 and 4 answer 1.": power on, and outside levels that are not refused
  pub power_on_answers_1 : (e : Event) → e.number ≡ 3 → says_of e l ≡ bit true
  power_on_answers_1 e h = says_by e (Ok plan.PowerOn) (power_on_plan e (line_from l) h)

  pub outside_answers_1 : (e : Event) → e.number ≡ 4 → (says_of e l ≡ refused 7 → ⊥) → says_of e l ≡ bit true
  outside_answers_1 e h n =
      let a : says_of e l ≡ answer_plan (plan_on (outside_event e.chip e.outside) (line_from l)) (line_from l)
      = says_by e _ (λ j. plan_on (event_with (h j) e.chip e.outside) (line_from l)) in
      a ∙ outside_by e.chip e.outside (line_from l) (λ z. n (a ∙ z))

  -- "A receiving chip takes the slot's value, not the host's bit.": every chip of every line is after the slot what the answered bit makes
  -- of it, whatever the host wrote
  pub chips_take_the_bus : (b : Bool) (e : Event) → Writes b e → (v : Bool) → says_of e l ≡ bit v
      → (i : ℕ) → i < l.count → at i (line_from (leaves_of e l)) ≡ takes_of v (at i (line_from l))
  unfolding after_of
  chips_take_the_bus b e h v a i k =
      let L = line_from l in
      let u : value_of b L ≡ v = same_bit (value_of b L) v (sym (slot_says b e h) ∙ a) in
      ap (at i) (line_after l e s ∙ ap (λ (p : Result Plan Refusal). after_plan p L) (slot_plan b e L h))
      ∙ at_map (act_of (Take (value_of b L))) i L (rw (line_length l s) k)
      ∙ rw u
