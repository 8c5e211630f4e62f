-- Laws: an event on a table goes by the places of its line alone, and leaves the places past them; and how many places are used.
use Rattle.std.specs.Prelude.{ℕ, zero, suc, ◌<◌, ◌≤◌, Bool, true, false, ◌≡◌, refl, eqb, ltb, leb, length, take, drop, Err, Result, Ok}
use Rattle.line.specs.declared.Refusal.{Refusal}
use Rattle.std.proofs.Common.{arith, ◌∙◌, sym, length-append, length-drop, length-take-le, ltb-true, ltb-false}
use mathlib.Core.List.{List, [], ◌∷◌, ◌++◌, append_assoc}
use Rattle.std.proofs.Math.Path.{ap}
use Rattle.std.proofs.lemmas.List.{length-map, take-append-le, drop-append-le}
use Rattle.std.proofs.lemmas.Bool.{lt-leb}
use Rattle.base.specs.Pick.{pick, pick_false}
use Rattle.base.specs.Bits.{both}
use Rattle.chip.specs.Chip.{Whole}
use Rattle.chip.specs.declared.Chip.{Chip}
use Rattle.line.specs.Line.{outside_at, after_by, after_plan}
use Rattle.line.specs.Layout.{capped, images_size, pads_size, images_asked, pads_asked, split, chips_of, images_of, pads_of, Lent, lent, line_of, lent_from}
use Rattle.line.specs.Event.{all_in_range, table_in_range, sizes_fit, judge, table_tests, verdict_of, Outcome, outcome, plan_in, plan_by, plan_of, answer_by, did, done_of, event_of}
use Rattle.line.specs.declared.Event.{Event}
use Rattle.line.specs.declared.Plan.{Plan}
use Rattle.line.specs.declared.Plan.TheVariants as plan
use Rattle.line.specs.declared.Refusal.TheVariants.{OutOfRange}

-- the same outcome on a table that has the places Z after its own
abbrev pub with_rest : List Chip → Outcome → Outcome
with_rest Z o = outcome o.answer o.count (lent (o.lent.chips ++ Z) o.lent.images o.lent.pads)

module _ (n : ℕ) (cs Z : List Chip) (l : n ≤ length cs) where
  line_rest : take n (cs ++ Z) ≡ take n cs
  line_rest = take-append-le n cs Z l

  pub range_rest : table_in_range n (cs ++ Z) ≡ table_in_range n cs
  unfolding table_in_range
  range_rest = ap (λ (k : List Chip). pick (leb n 16) (all_in_range k) false) line_rest

  pub images_rest : images_asked n (cs ++ Z) ≡ images_asked n cs
  unfolding images_asked
  images_rest = ap (λ (k : List Chip). pick (leb n 16) (images_size k) 0) line_rest

  pub pads_rest : pads_asked n (cs ++ Z) ≡ pads_asked n cs
  unfolding pads_asked
  pads_rest = ap (λ (k : List Chip). pick (leb n 16) (pads_size k) 0) line_rest

  pub sizes_rest : (ms ss : List ℕ) → sizes_fit n (cs ++ Z) ms ss ≡ sizes_fit n cs ms ss
  unfolding sizes_fit
  sizes_rest ms ss = ap (λ (k : List Chip). both (eqb (length ms) (images_size k)) (eqb (length ss) (pads_size k))) line_rest

  pub verdict_rest : (ms ss : List ℕ) → verdict_of n (cs ++ Z) ms ss ≡ verdict_of n cs ms ss
  unfolding verdict_of
  verdict_rest ms ss = λ j. judge (table_tests (range_rest j) (sizes_rest ms ss j))

  plan_rest : (e : Event) (ms ss : List ℕ) → plan_of n (cs ++ Z) e ms ss ≡ plan_of n cs e ms ss
  unfolding plan_of
  plan_rest e ms ss = λ j. plan_by (verdict_rest ms ss j) (plan_in (line_rest j) e)

  -- a line put back
  lent_rest : (M : List Whole) → lent_from n (cs ++ Z) M ≡ lent ((chips_of M ++ drop n cs) ++ Z) (images_of M) (pads_of M)
  lent_rest M = ap (λ (k : List Chip). lent k (images_of M) (pads_of M)) (ap (λ (k : List Chip). chips_of M ++ k) (drop-append-le n cs Z l) ∙ sym (append_assoc (chips_of M) (drop n cs) Z))

  did_rest : (p : Plan) (ms ss : List ℕ) → did p n (cs ++ Z) ms ss ≡ with_rest Z (did p n cs ms ss)
  did_rest p ms ss =
      ap (λ (k : List Chip). let L = split k ms ss in outcome (answer_by p L) n (lent_from n (cs ++ Z) (after_by p L))) line_rest
      ∙ ap (λ (g : Lent). outcome (answer_by p (line_of n cs ms ss)) n g) (lent_rest (after_by p (line_of n cs ms ss)))

  done_rest : (p : Result Plan Refusal) (ms ss : List ℕ) → done_of p n (cs ++ Z) ms ss ≡ with_rest Z (done_of p n cs ms ss)
  done_rest (Ok p) ms ss = did_rest p ms ss
  done_rest (Err r) ms ss = refl

  -- an event on a table with more places than those of cs
  pub event_rest : (e : Event) (ms ss : List ℕ) → event_of n (cs ++ Z) e ms ss ≡ with_rest Z (event_of n cs e ms ss)
  unfolding event_of
  event_rest e ms ss = ap (λ (p : Result Plan Refusal). done_of p n (cs ++ Z) ms ss) (plan_rest e ms ss) ∙ done_rest (plan_of n cs e ms ss) ms ss

-- a table of over 16 chips is refused by 8, whatever is lent with it
pub many_verdict : (n : ℕ) (cs : List Chip) (ms ss : List ℕ) → 16 < n → verdict_of n cs ms ss ≡ Err OutOfRange
unfolding verdict_of table_in_range pick
many_verdict n cs ms ss h = ap (λ (b : Bool). judge (table_tests b (sizes_fit n cs ms ss))) (pick_false (leb n 16) _ _ (lt-leb n 16 h))

-- at most 16 places are used, and no more than there are
pub capped_few : (places : ℕ) → (capped places ≤ 16) × (capped places ≤ places)
unfolding capped pick
capped_few places = go (ltb places 16) (ltb-true places 16) (ltb-false places 16)
  where
    go : (b : Bool) → (b ≡ true → places < 16) → (b ≡ false → 16 ≤ places) → (pick b places 16 ≤ 16) × (pick b places 16 ≤ places)
    go true f g = let h = f refl in (omega arith, omega arith)
    go false f g = let h = g refl in (omega arith, omega arith)

pub capped_is : (n : ℕ) → n ≤ 16 → capped n ≡ n
unfolding capped pick
capped_is n h = go (ltb n 16) (ltb-false n 16)
  where
    go : (b : Bool) → (b ≡ false → 16 ≤ n) → pick b n 16 ≡ n
    go true f = refl
    go false f = let k = f refl in omega arith

-- an outcome has n chips in m places
pub record Holds (n m : ℕ) (o : Outcome) : Type 0 where
  pub chips : o.count ≡ n
  pub places : length o.lent.chips ≡ m

pub length_split : (cs : List Chip) (ms ss : List ℕ) → length (split cs ms ss) ≡ length cs
length_split [] ms ss = refl
length_split (c ∷ cs) ms ss = ap suc (length_split cs _ _)

pub length_outside : (i l : ℕ) (L : List Whole) → length (outside_at i l L) ≡ length L
length_outside i l [] = refl
length_outside zero l (w ∷ L) = refl
length_outside (suc i) l (w ∷ L) = ap suc (length_outside i l L)

pub length_after : (p : Plan) (L : List Whole) → length (after_by p L) ≡ length L
length_after (plan.Slot b) L = length-map L _
length_after plan.Reset L = length-map L _
length_after plan.PowerOn L = length-map L _
length_after (plan.Outside i l) L = length_outside i l L

pub length_plan : (p : Result Plan Refusal) (L : List Whole) → length (after_plan p L) ≡ length L
length_plan (Ok p) L = length_after p L
length_plan (Err r) L = refl

-- every event keeps the number of chips and of places
module _ (n : ℕ) (cs : List Chip) (ms ss : List ℕ) (l : n ≤ length cs) where
  did_holds : (p : Plan) → Holds n (length cs) (did p n cs ms ss)
  did_holds p =
      record {
        chips = refl;
        places = let k = length_after p (line_of n cs ms ss) ∙ length_split (take n cs) ms ss ∙ length-take-le n cs l in
            simp (length-append, length-map, length-drop) (omega arith);
      }

  done_holds : (p : Result Plan Refusal) → Holds n (length cs) (done_of p n cs ms ss)
  done_holds (Ok p) = did_holds p
  done_holds (Err r) = record { chips = refl; places = refl }

pub event_holds : (n : ℕ) (cs : List Chip) (e : Event) (ms ss : List ℕ) → n ≤ length cs → Holds n (length cs) (event_of n cs e ms ss)
unfolding event_of
event_holds n cs e ms ss l = done_holds n cs ms ss l (plan_of n cs e ms ss)
