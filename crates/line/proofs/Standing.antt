-- Laws: a table that neither 8 nor 5 refuses is refused by neither after a run of slots, and what events and runs keep of its chips and
-- of its places.
use Rattle.std.specs.Prelude.{ℕ, zero, suc, ◌≤◌, Bool, true, List, [], ◌∷◌, ◌++◌, map, ◌≡◌, leb, length, take, Result, Ok, Err}
use Rattle.line.specs.declared.Refusal.{Refusal}
use Rattle.std.proofs.Common.{arith, true≢false, ◌∙◌, sym, length-drop, take-append-drop, length-take-le, take_at, drop_at, le-leb, eq-eqb}
use Rattle.std.proofs.Math.Bool.{false}
use Rattle.std.proofs.Math.Path.{refl, ap}
use Rattle.std.proofs.Math.ListN.{drop, length-append}
use Rattle.base.specs.Pick.{pick, pick_true, pick_if}
use Rattle.base.specs.Both.{both_holds, both_true'}
use Rattle.chip.specs.Chip.{Whole}
use Rattle.chip.specs.Range.{in_range}
use Rattle.chip.specs.Kinds.{image_size, pad_size}
use Rattle.chip.specs.declared.Chip.{Chip}
use Rattle.line.specs.Line.{value_of, act_of, outside_at, after_by, after_plan}
use Rattle.line.specs.Layout.{images_size, pads_size, split, chips_of, images_of, pads_of, lent, line_of, lent_from}
use Rattle.line.specs.Event.{all_in_range, table_in_range, sizes_fit, verdict_of, plan_by, plan_of, done_of, event_of}
use Rattle.line.specs.Attached.{Attached, attached, leaves_of, Stands, line_from, with_line}
use Rattle.line.specs.Fitted.{AllFitted, length_chips, images_length, pads_length, split_joined}
use Rattle.line.specs.Refusals.{chips_split, images_split, pads_split, fit, in_range_few, judged_well, Comes, slot, reset, power_on, outside, refused}
use Rattle.line.specs.Prefix.{length_split, length_after}
use Rattle.line.specs.Slots.{run_on}
use Rattle.line.specs.Runs.{run_keeps, run_full}
use Rattle.line.specs.Keeps.{in-range, range_in, Good, act_good, outside_good}
use Rattle.line.specs.declared.Act.{Act}
use Rattle.line.specs.declared.Act.TheVariants.{Take, Reset, PowerOn}
use Rattle.line.specs.declared.Plan.{Plan}
use Rattle.line.specs.declared.Plan.TheVariants as plan
use Rattle.line.specs.declared.Event.{Event}

-- every chip of a line is good
abbrev pub AllGood : List Whole → Type 0
AllGood [] = Unit
AllGood (w ∷ L) = Good w × AllGood L

-- what any event keeps of a line
map_good : (a : Act) (L : List Whole) → AllGood L → AllGood (map (act_of a) L)
map_good a [] g = tt
map_good a (w ∷ L) (g, h) = (act_good a w g, map_good a L h)

outside_all : (i l : ℕ) (L : List Whole) → l ≤ 3 → AllGood L → AllGood (outside_at i l L)
outside_all i l [] k g = tt
outside_all zero l (w ∷ L) k (g, h) = (outside_good l w k g, h)
outside_all (suc i) l (w ∷ L) k (g, h) = (g, outside_all i l L k h)

slot_good : (b : Bool) (L : List Whole) → AllGood L → AllGood (after_by (plan.Slot b) L)
slot_good b L g = map_good (Take (value_of b L)) L g

pub comes_good : {cs : List Chip} {q : Result Plan Refusal} → Comes cs q → (L : List Whole) → AllGood L → AllGood (after_plan q L)
comes_good (slot b) L g = slot_good b L g
comes_good reset L g = map_good Reset L g
comes_good power_on L g = map_good PowerOn L g
comes_good (outside i l h k m) L g = outside_all i l L m g
comes_good (refused r) L g = g

-- the line of a table that stands well is good
split_good : (cs : List Chip) (ms ss : List ℕ) → all_in_range cs ≡ true → length ms ≡ images_size cs → length ss ≡ pads_size cs → AllGood (split cs ms ss)
split_good [] ms ss h b t = tt
split_good (c ∷ cs) ms ss h b t =
    let p = both_holds (in_range c) (all_in_range cs) h in (
      record {
        range = in-range c p.0;
        memory = length-take-le (image_size c.kind) ms (omega arith);
        pad = length-take-le (pad_size c.kind) ss (omega arith);
      },
      split_good cs (drop (image_size c.kind) ms) (drop (pad_size c.kind) ss) p.1 (simp length-drop (omega arith)) (simp length-drop (omega arith)),
    )

in_line : (s t : Bool) → pick s t false ≡ true → t ≡ true
in_line s t q = pick_if (λ (b : Bool). b ≡ true → t ≡ true) s t false (λ u r. r) (λ u r. absurd (true≢false (sym r))) q

all-in-range : (n : ℕ) (cs : List Chip) → table_in_range n cs ≡ true → all_in_range (take n cs) ≡ true
unfolding table_in_range
all-in-range n cs h = in_line (leb n 16) (all_in_range (take n cs)) h

module _ (l : Attached) (s : Stands l) where
  first : length (take l.count l.lent.chips) ≡ l.count
  first = length-take-le l.count l.lent.chips s.places

  pub line_good : AllGood (line_from l)
  line_good =
      let f = fit l.count l.lent.chips l.lent.images l.lent.pads s.range s.sizes in
      split_good (take l.count l.lent.chips) l.lent.images l.lent.pads (all-in-range l.count l.lent.chips s.range) f.images f.pads

  pub line_length : length (line_from l) ≡ l.count
  line_length = length_split (take l.count l.lent.chips) l.lent.images l.lent.pads ∙ first

  pub put_back : with_line l (line_from l) ≡ l
  put_back =
      let f = fit l.count l.lent.chips l.lent.images l.lent.pads s.range s.sizes in
      let t = take l.count l.lent.chips in
      let a = ap (λ (k : List Chip). k ++ drop l.count l.lent.chips) (chips_split t l.lent.images l.lent.pads) ∙ take-append-drop l.count l.lent.chips in
      λ j. record { count = l.count; lent = lent (a j) (images_split t l.lent.images l.lent.pads f.images j) (pads_split t l.lent.images l.lent.pads f.pads j) }

-- a good line has the memories and scratchpads that its kinds ask for
good_fitted : (L : List Whole) → AllGood L → AllFitted L
good_fitted [] g = tt
good_fitted (w ∷ L) (g, h) = (record { memory = g.memory; pad = g.pad }, good_fitted L h)

chips_in_range : (L : List Whole) → AllGood L → all_in_range (chips_of L) ≡ true
chips_in_range [] g = refl
chips_in_range (w ∷ L) (g, h) = both_true' _ _ (range_in w.chip g.range) (chips_in_range L h)

module _ (l : Attached) (s : Stands l) (L : List Whole) (g : AllGood L) (k : length L ≡ l.count) where
  chips_first : take l.count (chips_of L ++ drop l.count l.lent.chips) ≡ chips_of L
  chips_first = take_at (chips_of L) (drop l.count l.lent.chips) l.count (length_chips L ∙ k)

  pub line_with : line_from (with_line l L) ≡ L
  line_with = ap (λ (c : List Chip). split c (images_of L) (pads_of L)) chips_first ∙ split_joined L (good_fitted L g)

  pub stands_with : Stands (with_line l L)
  unfolding table_in_range sizes_fit
  stands_with =
      record {
        range = pick_true (leb l.count 16) _ false (le-leb l.count 16 (in_range_few l.count l.lent.chips s.range)) ∙ ap all_in_range chips_first ∙ chips_in_range L g;
        sizes = both_true' _ _
            (eq-eqb (length (images_of L)) (images_size (take l.count (chips_of L ++ drop l.count l.lent.chips))) (images_length L (good_fitted L g) ∙ ap images_size (sym chips_first)))
            (eq-eqb (length (pads_of L)) (pads_size (take l.count (chips_of L ++ drop l.count l.lent.chips))) (pads_length L (good_fitted L g) ∙ ap pads_size (sym chips_first)));
        places = let a = length_chips L in simp length-append (omega arith);
      }

-- a table in which a line was replaced twice holds the second
pub again : (l : Attached) (L K : List Whole) → length L ≡ l.count → with_line (with_line l L) K ≡ with_line l K
again l L K k =
    ap (λ (c : List Chip). record { count = l.count; lent = lent (chips_of K ++ c) (images_of K) (pads_of K) })
    (drop_at (chips_of L) (drop l.count l.lent.chips) l.count (length_chips L ∙ k))

-- a table of 16 places that is judged well stands well
pub judged_stands : (n : ℕ) (cs : List Chip) (ms ss : List ℕ) → 16 ≤ length cs → Ok tt ≡ verdict_of n cs ms ss → Stands (attached n cs ms ss)
judged_stands n cs ms ss h e = let b = judged_well n cs ms ss e in let f = in_range_few n cs b.0 in record { range = b.0; sizes = b.1; places = omega arith }

-- so does the table that a run of slots leaves, and its line is that of the run
module _ (bs : List Bool) (l : Attached) (s : Stands l) where
  pub run_stands : Stands (with_line l (run_on bs (line_from l)).line)
  run_stands = stands_with l s (run_on bs (line_from l)).line (run_keeps AllGood slot_good bs (line_from l) (line_good l s)) (run_full bs (line_from l) ∙ line_length l s)

  pub run_line : line_from (with_line l (run_on bs (line_from l)).line) ≡ (run_on bs (line_from l)).line
  run_line = line_with l s (run_on bs (line_from l)).line (run_keeps AllGood slot_good bs (line_from l) (line_good l s)) (run_full bs (line_from l) ∙ line_length l s)

-- ---- the places of a table

-- a line in the places of its chips leaves as many places
with-places : (n : ℕ) (cs : List Chip) (L : List Whole) → length L ≡ n → n ≤ length cs → length (lent_from n cs L).chips ≡ length cs
with-places n cs L k h = let a = length_chips L in simp (length-append, length-drop) (omega arith)

module _ (n : ℕ) (cs : List Chip) (ms ss : List ℕ) (places : 16 ≤ length cs) where
  -- the line of a table that is judged well has as many chips as the table counts, and there is a place for each
  line_full : Ok tt ≡ verdict_of n cs ms ss → (length (line_of n cs ms ss) ≡ n) × (n ≤ length cs)
  line_full e = let s = judged_stands n cs ms ss places e in (line_length (attached n cs ms ss) s, s.places)

  -- a plan that is carried out leaves as many places
  after_places : (p : Plan) → (length (line_of n cs ms ss) ≡ n) × (n ≤ length cs) → length (lent_from n cs (after_by p (line_of n cs ms ss))).chips ≡ length cs
  after_places p f = with-places n cs (after_by p (line_of n cs ms ss)) (length_after p (line_of n cs ms ss) ∙ f.0) f.1

  -- so does any plan, a refused one too
  done_places : (p : Result Plan Refusal) → (length (line_of n cs ms ss) ≡ n) × (n ≤ length cs) → length (done_of p n cs ms ss).lent.chips ≡ length cs
  done_places (Ok p) f = after_places p f
  done_places (Err r) f = refl

  planned_places : (v : Result (Unit {0}) Refusal) (p : Result Plan Refusal) → v ≡ verdict_of n cs ms ss → length (done_of (plan_by v p) n cs ms ss).lent.chips ≡ length cs
  planned_places (Ok tt) p e = done_places p (line_full e)
  planned_places (Err r) p e = refl

  -- every event leaves as many places, and every run of slots on a table that is judged well
  pub event_places : (e : Event) → length (leaves_of e (attached n cs ms ss)).lent.chips ≡ length cs
  unfolding leaves_of event_of plan_of
  event_places e = planned_places (verdict_of n cs ms ss) _ refl

  pub run_places : (bs : List Bool) → Ok tt ≡ verdict_of n cs ms ss → length (lent_from n cs (run_on bs (line_of n cs ms ss)).line).chips ≡ length cs
  run_places bs e = with-places n cs (run_on bs (line_of n cs ms ss)).line (run_full bs (line_of n cs ms ss) ∙ (line_full e).0) (line_full e).1
