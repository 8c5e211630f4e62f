-- Form: the event, chip by chip, for whoever carries a table: what each turn does, and what all of them come to.
use Rattle.std.specs.Prelude.{ℕ, zero, suc, ◌+◌, ◌-◌, ◌<◌, ◌≤◌, Bool, true, false, List, ◌≡◌, eqb, leb, get_or, set, Result, Ok, Err}
use Rattle.line.specs.declared.Refusal.{Refusal}
use Rattle.std.proofs.Common.{arith}
use Rattle.base.specs.Along.{along}
use Rattle.base.specs.Pick.{pick}
use Rattle.base.specs.Bits.{both}
use Rattle.chip.specs.Chip.{Whole, whole, outside_chip}
use Rattle.chip.specs.Range.{in_range}
use Rattle.chip.specs.Kinds.{image_size, pad_size}
use Rattle.chip.specs.declared.Chip.{Chip}
use Rattle.line.specs.Bridge.{act_at, bit_at}
use Rattle.chip.specs.With.{no_chip}
use Rattle.line.specs.Event.{judge, table_tests, plan_event, plan_by}
use Rattle.line.specs.Layout.{Lent, lent}
use Rattle.line.specs.Line.{act_of, host_of}
use Rattle.line.specs.Slots.{run_fits}
use Rattle.line.specs.declared.Act.TheVariants as act
use Rattle.line.specs.declared.Event.{Event}
use Rattle.line.specs.declared.Spot.{Spot}
use Rattle.line.specs.declared.Survey.{Survey}
use Rattle.line.specs.declared.Bus.{Bus}
use Rattle.line.specs.declared.Plan.{Plan}
use Rattle.line.specs.declared.Plan.TheVariants as plan

-- where the first chip stands
abbrev pub first_spot : Spot
first_spot = record { place = 0; image = 0; pad = 0 }

-- past a chip of a kind; further than any line goes, a spot stays where it is
unfoldable pub spot_after : ℕ → Spot → Spot
spot_after kind p =
    pick (leb p.place 65535)
    (pick (leb p.image 65535)
    (pick (leb p.pad 65535)
    (record { place = p.place + 1; image = p.image + image_size kind; pad = p.pad + pad_size kind })
    p) p) p

-- k chips from place i on, none of which changes
module _ {S : Type 0} (f : Chip → S → S) where
  unfoldable pub over : ℕ → ℕ → List Chip → S → S
  over zero i cs s = s
  over (suc k) i cs s = over k (i + 1) cs (f (get_or cs i no_chip) s)

-- a survey of the table: is every chip in range, which kind has the chip that an event names, and which sizes are asked
abbrev pub first_survey : Survey
first_survey = record { within = true; kind = 0; spot = first_spot }

unfoldable pub survey_chip : ℕ → Chip → Survey → Survey
survey_chip chip c s =
    record {
      within = both s.within (in_range c);
      kind = pick (eqb s.spot.place chip) c.kind s.kind;
      spot = spot_after c.kind s.spot;
    }

-- what a table is judged to that was surveyed: it has n chips, buffers of two sizes are lent with it, and more sizes fit or do not
unfoldable pub verdict_with : Survey → ℕ → ℕ → ℕ → Bool → Result (Unit {0}) Refusal
verdict_with s n images pads more =
    judge (table_tests (both (leb n 16) s.within) (both (both (eqb images s.spot.image) (eqb pads s.spot.pad)) more))

unfoldable pub verdict_by : Survey → ℕ → ℕ → ℕ → Result (Unit {0}) Refusal
verdict_by s n images pads = verdict_with s n images pads true

-- what a run of slots is judged to on it: bits and answers are of two sizes
unfoldable pub run_verdict_by : Survey → ℕ → ℕ → ℕ → ℕ → ℕ → ℕ → Result (Unit {0}) Refusal
run_verdict_by s n images pads slots bits answers = verdict_with s n images pads (run_fits slots bits answers)

-- what an event comes to on it
unfoldable pub plan_seen : Survey → ℕ → Event → ℕ → ℕ → Result Plan Refusal
plan_seen s n e images pads = plan_by (verdict_by s n images pads) (plan_event e n s.kind)

abbrev pub surveyed : ℕ → ℕ → List Chip → Survey
surveyed chip n cs = over (survey_chip chip) n 0 cs first_survey

-- the bit on the bus
abbrev pub first_bus : Plan → Bus
first_bus p = record { value = host_of p; spot = first_spot }

abbrev pub puts_at : Plan → Chip → Spot → List ℕ → List ℕ → Bool
puts_at (plan.Slot b) c p ms ss = bit_at c p.image p.pad ms ss
puts_at plan.Reset c p ms ss = false
puts_at plan.PowerOn c p ms ss = true
puts_at (plan.Outside i l) c p ms ss = true

unfoldable pub bus_with : Plan → Chip → Bus → List ℕ → List ℕ → Bus
bus_with d c s ms ss =
    record {
      value = both (puts_at d c s.spot ms ss) s.value;
      spot = spot_after c.kind s.spot;
    }

abbrev pub bus_over : Plan → ℕ → List Chip → List ℕ → List ℕ → Bus
bus_over d n cs ms ss = over (λ (c : Chip) (s : Bus). bus_with d c s ms ss) n 0 cs (first_bus d)

-- what one chip does, with what it leaves of the buffers
abbrev pub does_at : Plan → Bool → Chip → Spot → List ℕ → List ℕ → Whole
does_at (plan.Slot b) v c p ms ss = act_at (act_of (act.Take v)) c p.image p.pad ms ss
does_at plan.Reset v c p ms ss = act_at (act_of act.Reset) c p.image p.pad ms ss
does_at plan.PowerOn v c p ms ss = act_at (act_of act.PowerOn) c p.image p.pad ms ss
does_at (plan.Outside chip outside) v c p ms ss = whole (pick (eqb p.place chip) (outside_chip outside c) c) ms ss

-- a turn: the chip, where the next one stands, and the buffers
pub record Turn : Type 0 where
  pub chip : Chip
  pub spot : Spot
  pub images : List ℕ
  pub pads : List ℕ

abbrev pub turned : Chip → Spot → List ℕ → List ℕ → Turn
turned c p ms ss = record { chip = c; spot = p; images = ms; pads = ss }

unfoldable pub turn_of : Plan → Bool → Chip → Spot → List ℕ → List ℕ → Turn
turn_of d v c p ms ss =
    let x = does_at d v c p ms ss in
    turned x.chip (spot_after c.kind p) x.memory x.pad

-- the same of what an event comes to: one that is refused puts a 1 on the bus and does nothing
abbrev pub host_by : Result Plan Refusal → Bool
host_by (Ok d) = host_of d
host_by (Err r) = true

abbrev pub first_bus_by : Result Plan Refusal → Bus
first_bus_by (Ok d) = first_bus d
first_bus_by (Err r) = record { value = true; spot = first_spot }

abbrev pub puts_by : Result Plan Refusal → Chip → Spot → List ℕ → List ℕ → Bool
puts_by (Ok d) c p ms ss = puts_at d c p ms ss
puts_by (Err r) c p ms ss = true

abbrev pub bus_by : Result Plan Refusal → Chip → Bus → List ℕ → List ℕ → Bus
bus_by (Ok d) c s ms ss = bus_with d c s ms ss
bus_by (Err r) c s ms ss = record { value = s.value; spot = spot_after c.kind s.spot }

abbrev pub does_by : Result Plan Refusal → Bool → Chip → Spot → List ℕ → List ℕ → Whole
does_by (Ok d) v c p ms ss = does_at d v c p ms ss
does_by (Err r) v c p ms ss = whole c ms ss

abbrev pub turn_by : Result Plan Refusal → Bool → Chip → Spot → List ℕ → List ℕ → Turn
turn_by (Ok d) v c p ms ss = turn_of d v c p ms ss
turn_by (Err r) v c p ms ss = turned c (spot_after c.kind p) ms ss

-- k chips from place i on
unfoldable pub acts : Plan → Bool → ℕ → ℕ → Spot → List Chip → List ℕ → List ℕ → Lent
acts d v zero i p cs ms ss = lent cs ms ss
acts d v (suc k) i p cs ms ss =
    let x = turn_of d v (get_or cs i no_chip) p ms ss in
    acts d v k (i + 1) x.spot (set cs i x.chip) x.images x.pads

-- whether anything happens
abbrev pub happens_by : Result Plan Refusal → Bool
happens_by (Ok p) = true
happens_by (Err r) = false

-- what is answered
abbrev pub answer_for : Result Plan Refusal → Bool → Result Bool Refusal
answer_for (Ok p) v = Ok v
answer_for (Err r) v = Err r

-- what a match of the code found, taken to what it matched
pub puts-at : (c : Chip) (s : Spot) (ms ss : List ℕ) (q p : Plan) (r : Bool) → q ≡ p → r ≡ puts_at p c s ms ss → r ≡ puts_at q c s ms ss
puts-at c s ms ss q p r = along (λ (k : Plan). puts_at k c s ms ss) q p r

pub does-at : (v : Bool) (c : Chip) (s : Spot) (ms ss : List ℕ) (q p : Plan) (r : Whole) → q ≡ p → r ≡ does_at p v c s ms ss → r ≡ does_at q v c s ms ss
does-at v c s ms ss q p r = along (λ (k : Plan). does_at k v c s ms ss) q p r

pub plan_at : (d : Result Plan Refusal) (q p : Result (Unit {0}) Refusal) (r : Result Plan Refusal) → q ≡ p → r ≡ plan_by p d → r ≡ plan_by q d
plan_at d q p r = along (λ (k : Result (Unit {0}) Refusal). plan_by k d) q p r

pub answer_at : (v : Bool) (q p : Result Plan Refusal) (r : Result Bool Refusal) → q ≡ p → r ≡ answer_for p v → r ≡ answer_for q v
answer_at v q p r = along (λ (k : Result Plan Refusal). answer_for k v) q p r

pub turn_is : (d : Plan) (v : Bool) (c : Chip) (p : Spot) (ms ss : List ℕ) (a : Chip) (x y : List ℕ) (s : Spot) → whole a x y ≡ does_at d v c p ms ss → s ≡ spot_after c.kind p
    → turned a s x y ≡ turn_of d v c p ms ss
unfolding turn_of
turn_is d v c p ms ss a x y s h e = λ j. turned (h j).chip (e j) (h j).memory (h j).pad

pub turned_is : (d : Result Plan Refusal) (v : Bool) (c : Chip) (p : Spot) (ms ss : List ℕ) (a : Chip) (x y : List ℕ) (s : Spot) → whole a x y ≡ does_by d v c p ms ss → s ≡ spot_after c.kind p
    → turned a s x y ≡ turn_by d v c p ms ss
turned_is (Ok d) v c p ms ss a x y s h e = turn_is d v c p ms ss a x y s h e
turned_is (Err r) v c p ms ss a x y s h e = λ j. turned (h j).chip (e j) (h j).memory (h j).pad

-- the loops of the code: a turn, and the end
over_suc : {S : Type 0} (f : Chip → S → S) (k n i : ℕ) (cs : List Chip) (s r : S) → n - i ≡ suc k → r ≡ f (get_or cs i no_chip) s → over f (n - i) i cs s ≡ over f k (i + 1) cs r
unfolding over
over_suc f k n i cs s r e h = rw (e, h)

pub over_more : {S : Type 0} (f : Chip → S → S) (n i : ℕ) (cs : List Chip) (s r : S) → i < n → r ≡ f (get_or cs i no_chip) s → over f (n - i) i cs s ≡ over f (n - (i + 1)) (i + 1) cs r
over_more f n i cs s r h e = let k : n - i ≡ suc (n - (i + 1)) = omega arith in over_suc f (n - (i + 1)) n i cs s r k e

pub over_done : {S : Type 0} (f : Chip → S → S) (n i : ℕ) (cs : List Chip) (s : S) → n ≤ i → over f (n - i) i cs s ≡ s
unfolding over
over_done f n i cs s h = let e : n - i ≡ 0 = omega arith in rw e

acts_suc : (d : Plan) (v : Bool) (k n i : ℕ) (p q : Spot) (cs : List Chip) (ms ss : List ℕ) (r : Chip) (x y : List ℕ) → n - i ≡ suc k
    → turned r q x y ≡ turn_of d v (get_or cs i no_chip) p ms ss → acts d v (n - i) i p cs ms ss ≡ acts d v k (i + 1) q (set cs i r) x y
unfolding acts
acts_suc d v k n i p q cs ms ss r x y e h = rw (e, ← h)

pub acts_more : (d : Plan) (v : Bool) (n i : ℕ) (p q : Spot) (cs : List Chip) (ms ss : List ℕ) (r : Chip) (x y : List ℕ) → i < n
    → turned r q x y ≡ turn_of d v (get_or cs i no_chip) p ms ss → acts d v (n - i) i p cs ms ss ≡ acts d v (n - (i + 1)) (i + 1) q (set cs i r) x y
acts_more d v n i p q cs ms ss r x y h = let e : n - i ≡ suc (n - (i + 1)) = omega arith in acts_suc d v (n - (i + 1)) n i p q cs ms ss r x y e

pub acts_done : (d : Plan) (v : Bool) (n i : ℕ) (p : Spot) (cs : List Chip) (ms ss : List ℕ) → n ≤ i → acts d v (n - i) i p cs ms ss ≡ lent cs ms ss
unfolding acts
acts_done d v n i p cs ms ss h = let e : n - i ≡ 0 = omega arith in rw e
