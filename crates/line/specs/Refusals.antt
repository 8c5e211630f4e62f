-- Laws: what the code knows of a table and an event that are not refused, and what it puts together of an event.
use Rattle.std.specs.Prelude.{ℕ, ◌<◌, ◌≤◌, Bool, true, false, List, [], ◌∷◌, ◌++◌, ◌≡◌, eqb, ltb, leb, length, take, drop, get_or, Result, Ok, Err}
use native.Mathlib.Omega.{arith}
use Rattle.std.proofs.Common.{true≢false, ◌∙◌, ap, sym, eqb-true, ltb-true, ltb-false, leb-true, eq-eqb, take-append-drop, length-drop}
use Rattle.std.proofs.Math.Path.{refl}
use Rattle.std.proofs.lemmas.Bool.{eqb-false}
use Rattle.base.specs.Pick.{pick, pick_true, pick_if}
use Rattle.base.specs.Bits.{both}
use Rattle.base.specs.Both.{both_holds}
use Rattle.chip.specs.Chip.{Whole}
use Rattle.chip.specs.Kinds.{takes_outside, image_size, pad_size}
use Rattle.chip.specs.declared.Chip.{Chip}
use Rattle.line.specs.Line.{absent, bus_from, bus_of}
use Rattle.line.specs.Layout.{images_size, pads_size, split, chips_of, images_of, pads_of}
use Rattle.chip.specs.With.{no_chip}
use Rattle.line.specs.Event.{table_in_range, all_in_range, sizes_fit, Fits, outside_fits, verdict_of, judge, event_tests, asked_by, plan_by, plan_event, plan_in}
use Rattle.line.specs.declared.Event.{Event}
use Rattle.line.specs.declared.Refusal.{Refusal}
use Rattle.line.specs.declared.Refusal.TheVariants.{OutOfRange, WrongSize, NoSuchEvent, NoSuchOutside}
use Rattle.line.specs.declared.Plan.{Plan}
use Rattle.line.specs.declared.Plan.TheVariants as plan

-- a choice that comes out true by its first way
chosen : (s t : Bool) → pick s t false ≡ true → (s ≡ true) × (t ≡ true)
unfolding pick
chosen true t e = (refl, e)
chosen false t e = absurd (true≢false (sym e))

pub in_range_few : (n : ℕ) (cs : List Chip) → table_in_range n cs ≡ true → n ≤ 16
unfolding table_in_range
in_range_few n cs e = leb-true n 16 (chosen (leb n 16) (all_in_range (take n cs)) e).0

pub fit : (n : ℕ) (cs : List Chip) (ms ss : List ℕ) → table_in_range n cs ≡ true → sizes_fit n cs ms ss ≡ true → Fits n cs ms ss
unfolding sizes_fit
fit n cs ms ss e f =
    let b = both_holds (eqb (length ms) (images_size (take n cs))) (eqb (length ss) (pads_size (take n cs))) f in
    record {
      few = in_range_few n cs e;
      images = eqb-true (length ms) (images_size (take n cs)) b.0;
      pads = eqb-true (length ss) (pads_size (take n cs)) b.1;
    }

-- a line, put back as it was
none_left : (l : List ℕ) → length l ≡ 0 → [] ≡ l
none_left [] e = refl
none_left (x ∷ l) e = absurd (omega arith)

pub chips_split : (cs : List Chip) (ms ss : List ℕ) → chips_of (split cs ms ss) ≡ cs
chips_split [] ms ss = refl
chips_split (c ∷ cs) ms ss = ap (λ (l : List Chip). c ∷ l) (chips_split cs _ _)

pub images_split : (cs : List Chip) (ms ss : List ℕ) → length ms ≡ images_size cs → images_of (split cs ms ss) ≡ ms
images_split [] ms ss e = none_left ms e
images_split (c ∷ cs) ms ss e =
    ap (λ (l : List ℕ). take (image_size c.kind) ms ++ l) (images_split cs (drop (image_size c.kind) ms) (drop (pad_size c.kind) ss) (simp length-drop (omega arith)))
    ∙ take-append-drop (image_size c.kind) ms

pub pads_split : (cs : List Chip) (ms ss : List ℕ) → length ss ≡ pads_size cs → pads_of (split cs ms ss) ≡ ss
pads_split [] ms ss e = none_left ss e
pads_split (c ∷ cs) ms ss e =
    ap (λ (l : List ℕ). take (pad_size c.kind) ss ++ l) (pads_split cs (drop (image_size c.kind) ms) (drop (pad_size c.kind) ss) (simp length-drop (omega arith)))
    ∙ take-append-drop (pad_size c.kind) ss

-- "Reset answers 0 if any chip is there, otherwise 1."
bus_zero : (L : List Whole) → bus_from (λ (w : Whole). false) false L ≡ false
unfolding both pick
bus_zero [] = refl
bus_zero (w ∷ L) = bus_zero L

pub presence : (L : List Whole) → bus_of plan.Reset L ≡ absent L
unfolding both pick
presence [] = refl
presence (w ∷ L) = bus_zero L

-- a test that did not refuse holds
pub held : (t : Bool) (q : Result (Unit {0}) Refusal) (r : Refusal) → Ok tt ≡ pick t q (Err r) → (t ≡ true) × (Ok tt ≡ q)
unfolding pick
held true q r e = (refl, e)
held false q r e = absurd cc

-- a table that stands well, with its buffers
pub judged_well : (n : ℕ) (cs : List Chip) (ms ss : List ℕ) → Ok tt ≡ verdict_of n cs ms ss → (table_in_range n cs ≡ true) × (sizes_fit n cs ms ss ≡ true)
unfolding verdict_of
judged_well n cs ms ss h =
    let a = held (table_in_range n cs) _ OutOfRange h in
    (a.0, (held (sizes_fit n cs ms ss) _ WrongSize a.1).0)

pub well_judged : (n : ℕ) (cs : List Chip) (ms ss : List ℕ) → table_in_range n cs ≡ true → sizes_fit n cs ms ss ≡ true → verdict_of n cs ms ss ≡ Ok tt
unfolding verdict_of
well_judged n cs ms ss h k = simp (h, k, pick_true)

pub judged_fit : (n : ℕ) (cs : List Chip) (ms ss : List ℕ) → Ok tt ≡ verdict_of n cs ms ss → Fits n cs ms ss
judged_fit n cs ms ss h = let b = judged_well n cs ms ss h in fit n cs ms ss b.0 b.1

-- event 4 that fits names a chip that takes it, and two bits
outside_fit : (e : Event) (n kind : ℕ) → outside_fits e n kind ≡ true → e.number ≡ 4 → (e.chip < n) × ((takes_outside kind ≡ true) × (e.outside ≤ 3))
unfolding outside_fits
outside_fit e n kind h p =
    let x = both (takes_outside kind) (leb e.outside 3) in
    let k = sym (pick_true (eqb e.number 4) (both (ltb e.chip n) x) true (eq-eqb e.number 4 p)) ∙ h in
    let a = both_holds (ltb e.chip n) x k in
    let b = both_holds (takes_outside kind) (leb e.outside 3) a.1 in
    (ltb-true e.chip n a.0, (b.0, leb-true e.outside 3 b.1))

pub fit_small : (e : Event) (n kind : ℕ) → outside_fits e n kind ≡ true → e.number ≡ 4 → e.outside ≤ 3
fit_small e n kind h p = (outside_fit e n kind h p).1.1

-- what an event can come to: what it asks, with outside levels that fit; or a refusal, whatever it asks and whichever refusal
pub data Comes (cs : List Chip) : Result Plan Refusal → Type 0 where
  slot : (b : Bool) → Comes cs (Ok (plan.Slot b))
  reset : Comes cs (Ok plan.Reset)
  power_on : Comes cs (Ok plan.PowerOn)
  outside : (i l : ℕ) → i < length cs → takes_outside (get_or cs i no_chip).kind ≡ true → l ≤ 3 → Comes cs (Ok (plan.Outside i l))
  refused : (r : Refusal) → Comes cs (Err r)

module _ (cs : List Chip) (e : Event) where
  abbrev kind : ℕ
  kind = (get_or cs e.chip no_chip).kind

  -- where nothing refuses it
  asked_comes : leb e.number 4 ≡ true → outside_fits e (length cs) kind ≡ true → Comes cs (Ok (asked_by e))
  unfolding asked_by
  asked_comes h k =
      pick_if (λ (p : Plan). Comes cs (Ok p)) _ _ _ (λ a. slot _)
      (λ a. pick_if (λ (p : Plan). Comes cs (Ok p)) _ _ _ (λ b. reset)
      (λ b. pick_if (λ (p : Plan). Comes cs (Ok p)) _ _ _ (λ c. power_on)
      (λ c. let f = outside_fit e (length cs) kind k (four (leb-true e.number 4 h) (ltb-false e.number 2 a) (eqb-false e.number 2 b) (eqb-false e.number 3 c)) in
      outside e.chip e.outside f.0 f.1.0 f.1.1)))
    where
      four : {n : ℕ} → n ≤ 4 → 2 ≤ n → (n ≡ 2 → ⊥) → (n ≡ 3 → ⊥) → n ≡ 4
      four p q r s = omega arith

  -- by what its tests come to
  judged_comes : (v : Result (Unit {0}) Refusal) → v ≡ judge (event_tests e (length cs) kind) → Comes cs (plan_by v (Ok (asked_by e)))
  judged_comes (Err r) h = refused r
  judged_comes (Ok tt) h =
      let a = held (leb e.number 4) _ NoSuchEvent h in
      asked_comes a.0 (held (outside_fits e (length cs) kind) _ NoSuchOutside a.1).0

  pub comes : Comes cs (plan_in cs e)
  unfolding plan_event
  comes = judged_comes (judge (event_tests e (length cs) kind)) refl
