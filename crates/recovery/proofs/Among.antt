-- A chip that is addressed by its code behaves as if it were alone on the line.
use Rattle.std.specs.Prelude.{ℕ, zero, suc, ◌^◌, ◌<◌, Bool, true, false, List, [], ◌∷◌, map, ◌≡◌, refl, length, get_or, Result, Ok, Err}
use Rattle.line.specs.declared.Refusal.{Refusal}
use Rattle.std.proofs.Common.{arith, not-suc-le-zero, ◌∙◌, ap, sym}
use Rattle.std.proofs.lemmas.List.{length-map}
use Rattle.base.specs.Pick.{pick_true}
use Rattle.base.specs.Bits.{both}
use Rattle.chip.specs.Kinds.{takes_outside}
use Rattle.chip.specs.Chip.{Whole, takes_of, sends_of, reset_of, power_on_chip, power_on_of, outside_chip, outside_of}
use Rattle.chip.specs.Level.{sends-in}
use Rattle.chip.specs.declared.Chip.{Chip}
use Rattle.chip.specs.declared.Level.TheVariants.{Waiting}
use Rattle.line.specs.Line.{value_of, absent, act_of, outside_at, after_plan}
use Rattle.line.specs.Layout.{chips_of}
use Rattle.line.specs.Prefix.{length_outside}
use Rattle.line.specs.Refusals.{presence, Comes, slot, reset, power_on, outside, refused, comes}
use Rattle.chip.specs.With.{no_chip}
use Rattle.line.specs.Event.{Answered, bit, refused as says, number_of, plan_event, plan_on, answer_plan}
use Rattle.line.specs.declared.Event.{Event}
use Rattle.line.specs.declared.Plan.{Plan}
use Rattle.line.specs.declared.Plan.TheVariants as plan
use Rattle.line.specs.declared.Act.TheVariants.{Take, Reset, PowerOn}
use Rattle.line.specs.Fitted.{length_chips}
use Rattle.histories.specs.Histories.{at, kinds_of, answer_of, after_of, run, answers, came}
use Rattle.line.specs.Named.{Named, act_named}
use Rattle.histories.specs.Place.{at_map, outside-at}
use Rattle.histories.specs.Kept.{run_kinds}
use Rattle.histories.specs.Standing.{at_chip}
use Rattle.recovery.specs.Sessions.{opening, to_come, Next, Addressed}
use Rattle.recovery.specs.Stays.{not_taken}
use Rattle.recovery.specs.Opening.{Silent, Waits, waiting_takes, opening_silent}

-- a chip that has another code, with these bits of an opening to come
pub record Other (code : ℕ) (bs : List Bool) (x : Whole) : Type 0 where
  pub differs : x.chip.code ≡ code → ⊥
  pub of_64_bits : x.chip.code < 2 ^ 64
  pub silent : Silent (Waits code) bs x

-- the DS28EC20 that has the code
pub record Own (code : ℕ) (bs : List Bool) (w : Whole) : Type 0 where
  pub has_code : w.chip.code ≡ code
  pub of_64_bits : w.chip.code < 2 ^ 64
  pub kind : w.chip.kind ≡ 1
  pub silent : Silent (Waits code) bs w

-- w is chip i of the line, and every other chip has another code
pub record Among (code : ℕ) (bs : List Bool) (w : Whole) (i : ℕ) (L : List Whole) : Type 0 where
  pub attached : i < length L
  pub own : at i L ≡ w
  pub others : (j : ℕ) → j < length L → (j ≡ i → ⊥) → Other code bs (at j L)

-- w is what stands at place i
pub among_at : {code : ℕ} {bs : List Bool} {w : Whole} {i : ℕ} {L : List Whole} → Among code bs w i L → at i L ≡ w
among_at m = m.own

-- the value of a slot in which a chip sends, and no other pulls the line down
abbrev pub own_value : Whole → Bool → Bool
own_value w v = both (sends_of w) v

-- the chip alone
abbrev pub own_after : Result Plan Refusal → Whole → Whole
own_after (Ok (plan.Slot v)) w = act_of (Take (own_value w v)) w
own_after (Ok plan.Reset) w = act_of Reset w
own_after (Ok plan.PowerOn) w = act_of PowerOn w
own_after (Ok (plan.Outside i l)) w = w
own_after (Err r) w = w

-- the chip alone, over a history
abbrev pub own_run : List (Result Plan Refusal) → Whole → Whole
own_run [] w = w
own_run (p ∷ ps) w = own_run ps (own_after p w)

-- outside levels leave a chip silent
silent_outside : (code : ℕ) (bs : List Bool) (l : ℕ) (x : Whole) → Silent (Waits code) bs x → Silent (Waits code) bs (outside_of l x)
unfolding outside_of outside_chip
silent_outside code [] l x s = s
silent_outside code (b ∷ bs) l x s = λ ls. s (l ∷ ls)

-- a chip that sends 1 leaves a slot the value that it has
pub both_one : (a v : Bool) → a ≡ true → both a v ≡ v
unfolding both
both_one a v e = pick_true a v false e

-- so do the chips of a line that all send 1
ones_value : (v : Bool) (L : List Whole) → ((j : ℕ) → j < length L → sends_of (at j L) ≡ true) → value_of v L ≡ v
ones_value v [] h = refl
ones_value v (x ∷ L) h = ap (λ (u : Bool). value_of u L) (both_one (sends_of x) v (h 0 (omega arith))) ∙ ones_value v L (λ j k. h (suc j) (omega arith))

-- where all but chip i send 1, a slot has the value that it would have if chip i were alone
alone_value : (v : Bool) (i : ℕ) (L : List Whole) → i < length L → ((j : ℕ) → j < length L → (j ≡ i → ⊥) → sends_of (at j L) ≡ true)
    → value_of v L ≡ own_value (at i L) v
alone_value v i [] l h = absurd (not-suc-le-zero l)
alone_value v zero (x ∷ L) l h = ones_value (own_value x v) L (λ j k. h (suc j) (omega arith) (λ e. omega arith))
alone_value v (suc i) (x ∷ L) l h =
    ap (λ (u : Bool). value_of u L) (both_one (sends_of x) v (h 0 (omega arith) (λ e. omega arith)))
    ∙ alone_value v i L (omega arith) (λ j k n. h (suc j) (omega arith) (λ e. n (omega arith)))

-- none but the chip itself sends
other_sends : (code : ℕ) (bs : List Bool) (x : Whole) → Other code bs x → sends_of x ≡ true
other_sends code [] x o = sends-in x Waiting (o.silent o.differs)
other_sends code (b ∷ bs) x o = (o.silent []).sends_one

-- a slot has the value that it would have if the chip were alone
among_value : {code : ℕ} {bs : List Bool} {w : Whole} {i : ℕ} {L : List Whole} (v : Bool) → Among code bs w i L → value_of v L ≡ own_value w v
among_value {code} {bs} {i} {L} v m =
    alone_value v i L m.attached (λ j h n. other_sends code bs (at j L) (m.others j h n)) ∙ ap (λ (w : Whole). own_value w v) m.own

-- an event that does the same to each chip
among_map : (code : ℕ) (bs cs : List Bool) (f : Whole → Whole) → ((x : Whole) → Other code bs x → Other code cs (f x))
    → {w : Whole} {i : ℕ} {L : List Whole} → Among code bs w i L → Among code cs (f w) i (map f L)
among_map code bs cs f each {i} {L} m =
    let e = length-map L f in
    record {
      attached = rw e m.attached;
      own = at_map f i L m.attached ∙ ap f m.own;
      others = λ j h n. let k : j < length L = rw e at h in rw (at_map f j L k) (each (at j L) (m.others j k n));
    }

-- outside levels do nothing that matters to a chip of another code
other_outside : (code : ℕ) (bs : List Bool) (l : ℕ) (x : Whole) → Other code bs x → Other code bs (outside_of l x)
unfolding outside_of outside_chip
other_outside code bs l x o = record { differs = o.differs; of_64_bits = o.of_64_bits; silent = silent_outside code bs l x o.silent }

-- those of one chip leave another
outside_elsewhere : (i j l : ℕ) (L : List Whole) → (takes_outside (at i L).chip.kind ≡ true → ⊥) → takes_outside (at j L).chip.kind ≡ true
    → at i (outside_at j l L) ≡ at i L
outside_elsewhere i j l [] n f = refl
outside_elsewhere zero zero l (x ∷ L) n f = absurd (n f)
outside_elsewhere (suc i) zero l (x ∷ L) n f = refl
outside_elsewhere zero (suc j) l (x ∷ L) n f = refl
outside_elsewhere (suc i) (suc j) l (x ∷ L) n f = outside_elsewhere i j l L n f

-- and they are not those of a DS28EC20
among_outside : {code : ℕ} {bs : List Bool} {w : Whole} {i : ℕ} {L : List Whole} (j l : ℕ) → w.chip.kind ≡ 1 → takes_outside (at j L).chip.kind ≡ true
    → Among code bs w i L → Among code bs w i (outside_at j l L)
among_outside {code} {bs} {w} {i} {L} j l e f m =
    let s = length_outside j l L in
    record {
      attached = rw s m.attached;
      own = outside_elsewhere i j l L (not_taken (at i L).chip.kind (ap (λ (u : Whole). u.chip.kind) m.own ∙ e)) f ∙ m.own;
      others = λ k h n. let o = m.others k (rw s at h) n in outside-at (Other code bs) k j l L o (other_outside code bs l (at k L) o);
    }

-- a chip of another code that keeps its name stays one
other_still : (code : ℕ) (bs cs : List Bool) (x y : Whole) → Named x y → Other code bs x → Silent (Waits code) cs y → Other code cs y
other_still code bs cs x y q o s = record { differs = λ e. o.differs (sym q.0 ∙ e); of_64_bits = rw q.0 o.of_64_bits; silent = s }

-- one that waits goes on waiting
other_slot : (code : ℕ) (u : Bool) (x : Whole) → Other code [] x → Other code [] (takes_of u x)
other_slot code u x o = rw (waiting_takes x u (o.silent o.differs)) o

-- a bit of the opening at a chip of another code
other_bit : (code : ℕ) (b : Bool) (bs : List Bool) (x : Whole) → Other code (b ∷ bs) x → Other code bs (takes_of b x)
other_bit code b bs x o = other_still code (b ∷ bs) bs x _ (act_named (Take b) x) o (o.silent []).leaves

-- a reset at a chip of another code
pub other_reset : (code : ℕ) → code < 2 ^ 64 → (x : Whole) → (x.chip.code ≡ code → ⊥) → x.chip.code < 2 ^ 64 → Other code (opening code) (reset_of x)
other_reset code g x n h =
    let k = (act_named Reset x).0 in
    record { differs = λ e. n (sym k ∙ e); of_64_bits = rw k h; silent = opening_silent code g x h }

-- power on at a chip of another code
other_power : (code : ℕ) (bs : List Bool) (x : Whole) → Other code bs x → Other code [] (power_on_of x)
unfolding power_on_of power_on_chip
other_power code bs x o = record { differs = o.differs; of_64_bits = o.of_64_bits; silent = λ k. refl }

-- the chip itself, where it keeps its code and its kind
own_still : (code : ℕ) (bs cs : List Bool) (w u : Whole) → Named w u → Own code bs w → (u.chip.code ≡ code → Silent (Waits code) cs u) → Own code cs u
own_still code bs cs w u q o s =
    let c = q.0 ∙ o.has_code in
    record { has_code = c; of_64_bits = rw q.0 o.of_64_bits; kind = q.1 ∙ o.kind; silent = s c }

-- one event, at the chip itself
own-after : (code : ℕ) (bs : List Bool) (e : Result Plan Refusal) (w : Whole) → Next bs e → Own code bs w → Own code (to_come code bs e) (own_after e w)
own-after code [] (Ok (plan.Slot v)) w a o = own_still code [] [] w _ (act_named (Take (own_value w v)) w) o (λ c n. absurd (n c))
own-after code (b ∷ bs) (Ok (plan.Slot v)) w a o =
    let s = o.silent [] in
    let u : own_value w v ≡ b = both_one (sends_of w) v s.sends_one ∙ a in
    rw u (own_still code (b ∷ bs) bs w _ (act_named (Take b) w) o (λ c. s.leaves))
own-after code bs (Ok plan.Reset) w a o =
    own_still code bs (opening code) w _ (act_named Reset w) o (λ c. opening_silent code (rw o.has_code at o.of_64_bits) w o.of_64_bits)
own-after code bs (Ok plan.PowerOn) w a o = own_still code bs [] w _ (act_named PowerOn w) o (λ c n. absurd (n c))
own-after code bs (Ok (plan.Outside j l)) w a o = o
own-after code bs (Err r) w a o = o

-- one event, on the line
among_after : (code : ℕ) (bs : List Bool) (w : Whole) (i : ℕ) (L : List Whole) {q : Result Plan Refusal} → Comes (chips_of L) q → Next bs q → Own code bs w → Among code bs w i L
    → Among code (to_come code bs q) (own_after q w) i (after_plan q L)
among_after code [] w i L (slot v) a o m =
    rw (among_value v m) (among_map code [] [] (act_of (Take (own_value w v))) (other_slot code (own_value w v)) m)
among_after code (b ∷ bs) w i L (slot v) a o m =
    let u : own_value w v ≡ b = both_one (sends_of w) v (o.silent []).sends_one ∙ a in
    rw (among_value v m, u) (among_map code (b ∷ bs) bs (act_of (Take b)) (other_bit code b bs) m)
among_after code bs w i L reset a o m =
    let g : code < 2 ^ 64 = rw o.has_code at o.of_64_bits in
    among_map code bs (opening code) (act_of Reset) (λ x p. other_reset code g x p.differs p.of_64_bits) m
among_after code bs w i L power_on a o m = among_map code bs [] (act_of PowerOn) (other_power code bs) m
among_after code bs w i L (outside j l f g n) a o m = among_outside j l o.kind (ap (λ (c : Chip). takes_outside c.kind) (at_chip j L) ∙ g) m
among_after code bs w i L (refused r) a o m = m

-- what is to come after a history
abbrev pub to_comes : ℕ → List Bool → List (Result Plan Refusal) → List Bool
to_comes code bs [] = bs
to_comes code bs (p ∷ ps) = to_comes code (to_come code bs p) ps

-- one event, by what it comes to
event_after : (code : ℕ) (bs : List Bool) (e : Event) (w : Whole) (i : ℕ) (L : List Whole) → Next bs (plan_on e L) → Own code bs w → Among code bs w i L
    → Among code (to_come code bs (plan_on e L)) (own_after (plan_on e L) w) i (after_of e L)
unfolding after_of
event_after code bs e w i L a o m = among_after code bs w i L (comes (chips_of L) e) a o m

-- THEOREM: while each session matches its code, the chip goes as if it were alone, and the others are silent
pub alone : (code : ℕ) (bs : List Bool) (es : List Event) (w : Whole) (i : ℕ) (L : List Whole) → Addressed code bs (came es L) → Own code bs w → Among code bs w i L
    → Among code (to_comes code bs (came es L)) (own_run (came es L) w) i (run es L)
alone code bs [] w i L a o m = m
alone code bs (e ∷ es) w i L (a, r) o m =
    let p = plan_on e L in
    alone code (to_come code bs p) es (own_after p w) i (after_of e L) r (own-after code bs p w a o) (event_after code bs e w i L a o m)

-- the kind of chip i
kind_at : (i : ℕ) (L : List Whole) → (get_or (chips_of L) i no_chip).kind ≡ get_or (kinds_of L) i 0
kind_at i [] = refl
kind_at zero (w ∷ L) = refl
kind_at (suc i) (w ∷ L) = kind_at i L

-- what an event comes to goes by the kinds of a line alone
abbrev plan_among : Event → List ℕ → Result Plan Refusal
plan_among e ks = plan_event e (length ks) (get_or ks e.chip 0)

plan-among : (e : Event) (L : List Whole) → plan_on e L ≡ plan_among e (kinds_of L)
plan-among e L = λ j. plan_event e ((length_chips L ∙ sym (length-map L (λ (w : Whole). w.chip.kind))) j) (kind_at e.chip L j)

-- and so does what a history comes to
pub came_alike : (es : List Event) (A B : List Whole) → kinds_of A ≡ kinds_of B → came es A ≡ came es B
came_alike [] A B k = refl
came_alike (e ∷ es) A B k =
    let one = plan-among e A ∙ ap (plan_among e) k ∙ sym (plan-among e B) in
    let rest = came_alike es (after_of e A) (after_of e B) (run_kinds (e ∷ []) A ∙ k ∙ sym (run_kinds (e ∷ []) B)) in
    λ j. one j ∷ rest j

-- the answers of the chip alone
abbrev pub own_answer : Result Plan Refusal → Whole → Answered
own_answer (Ok (plan.Slot v)) w = bit (own_value w v)
own_answer (Ok plan.Reset) w = bit false
own_answer (Ok plan.PowerOn) w = bit true
own_answer (Ok (plan.Outside i l)) w = bit true
own_answer (Err r) w = says (number_of r)

-- and over a history
abbrev pub own_answers : List (Result Plan Refusal) → Whole → List Answered
own_answers [] w = []
own_answers (p ∷ ps) w = own_answer p w ∷ own_answers ps (own_after p w)

-- a line with a chip on it is not empty
pub present : (i : ℕ) (L : List Whole) → i < length L → absent L ≡ false
present i [] h = absurd (not-suc-le-zero h)
present i (x ∷ L) h = refl

-- one event is answered as by the chip alone
answer_among : (code : ℕ) (bs : List Bool) (p : Result Plan Refusal) (w : Whole) (i : ℕ) (L : List Whole) → Among code bs w i L → answer_plan p L ≡ own_answer p w
answer_among code bs (Ok (plan.Slot v)) w i L m = ap bit (among_value v m)
answer_among code bs (Ok plan.Reset) w i L m = ap bit (presence L ∙ present i L m.attached)
answer_among code bs (Ok plan.PowerOn) w i L m = refl
answer_among code bs (Ok (plan.Outside j l)) w i L m = refl
answer_among code bs (Err r) w i L m = refl

event_answer : (code : ℕ) (bs : List Bool) (e : Event) (w : Whole) (i : ℕ) (L : List Whole) → Among code bs w i L → answer_of e L ≡ own_answer (plan_on e L) w
unfolding answer_of
event_answer code bs e w i L m = answer_among code bs (plan_on e L) w i L m

-- THEOREM: and the answers are those of the chip alone
pub alone_answers : (code : ℕ) (bs : List Bool) (es : List Event) (w : Whole) (i : ℕ) (L : List Whole) → Addressed code bs (came es L) → Own code bs w → Among code bs w i L
    → answers es L ≡ own_answers (came es L) w
alone_answers code bs [] w i L a o m = refl
alone_answers code bs (e ∷ es) w i L (a, r) o m =
    let p = plan_on e L in
    let first = event_answer code bs e w i L m in
    let rest = alone_answers code (to_come code bs p) es (own_after p w) i (after_of e L) r (own-after code bs p w a o) (event_after code bs e w i L a o m) in
    λ j. first j ∷ rest j
