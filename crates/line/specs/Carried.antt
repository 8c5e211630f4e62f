-- Laws: what a carrier comes to, chip by chip, is the event.
use Rattle.std.specs.Prelude.{ℕ, zero, suc, ◌+◌, ◌*◌, ◌<◌, ◌≤◌, Bool, ◌≡◌, eqb, leb, get_or, set, Result, Ok, Err}
use Rattle.std.proofs.Common.{arith, zero-add, true≢false, ◌∙◌, leb-true, leb-false, eq-eqb, ne_eqb, le-leb, take-append-drop}
use Rattle.std.proofs.Math.Bool.{true, false}
use mathlib.Core.List.{List, [], ◌∷◌, ◌++◌, map, append_assoc}
use Rattle.std.proofs.Math.Path.{refl, ap, sym}
use Rattle.std.proofs.lemmas.Bool.{lt-leb}
use Rattle.std.proofs.Math.ListN.{length, take, drop, length-drop, length-append}
use Rattle.std.proofs.lemmas.List.{get_or_at, set_at}
use Rattle.std.proofs.Math.Seq.{length-take-le}
use Rattle.base.specs.Pick.{pick, pick_true, pick_false}
use Rattle.base.specs.Bits.{both}
use Rattle.base.specs.Both.{both_assoc, both_true, true_both}
use Rattle.chip.specs.Chip.{Whole, whole, outside_chip, outside_of}
use Rattle.chip.specs.Range.{in_range}
use Rattle.chip.specs.Kinds.{image_most, pad_most, image_size, pad_size}
use Rattle.chip.specs.Limits.{image_small, pad_small}
use Rattle.chip.specs.declared.Chip.{Chip}
use Rattle.line.specs.Line.{bus_from, act_of, outside_at, puts_of, host_of, bus_of}
use Rattle.line.specs.Layout.{Lent, capped, images_asked, pads_asked, images_size, pads_size, images_most, pads_most, split, chips_of, images_of, pads_of, lent, line_of, lent_from}
use Rattle.chip.specs.With.{no_chip}
use Rattle.line.specs.Event.{refused, number_of, answered, all_in_range, table_in_range, sizes_fit, judge, table_tests, verdict_of, Fits, Outcome, outcome, plan_event, plan_in, plan_by, plan_of, done_of, bit}
use Rattle.line.specs.Sizes.{act_sized}
use Rattle.line.specs.Bridge.{act-at, bit-at, regroup}
use Rattle.line.specs.Prefix.{capped_is}
use Rattle.line.specs.Refusals.{judged_fit}
use Rattle.line.specs.Carrier.{first_spot, spot_after, over, first_survey, survey_chip, surveyed, verdict_with, verdict_by, run_verdict_by, plan_seen, first_bus, puts_at, bus_with, bus_over, does_at, turn_of, acts, happens_by, answer_for}
use Rattle.line.specs.Slots.{run_fits, run_verdict}
use Rattle.line.specs.declared.Act.TheVariants as act
use Rattle.line.specs.declared.Event.{Event}
use Rattle.line.specs.declared.Refusal.{Refusal}
use Rattle.line.specs.declared.Spot.{Spot}
use Rattle.line.specs.declared.Survey.{Survey}
use Rattle.line.specs.declared.Bus.{Bus}
use Rattle.line.specs.declared.Plan.{Plan}
use Rattle.line.specs.declared.Plan.TheVariants as plan

-- where a walk of i chips has come to
abbrev spot : ℕ → ℕ → ℕ → Spot
spot i image pad = record { place = i; image = image; pad = pad }

pub record Near (i image pad : ℕ) : Type 0 where
  pub images : image ≤ i * image_most
  pub pads : pad ≤ i * pad_most

next_is : (i image pad kind : ℕ) → Near i image pad → i ≤ 16 → spot_after kind (spot i image pad) ≡ spot (i + 1) (image + image_size kind) (pad + pad_size kind)
unfolding spot_after
next_is i image pad kind h l =
    let b = h.images in
    let d = h.pads in
    simp (le-leb i 65535 (omega arith), le-leb image 65535 (omega arith), le-leb pad 65535 (omega arith), pick_true)

next_near : (i image pad kind : ℕ) → Near i image pad → Near (i + 1) (image + image_size kind) (pad + pad_size kind)
next_near i image pad kind h =
    let b = h.images in
    let d = h.pads in
    let x = image_small kind in
    let y = pad_small kind in
    record { images = omega arith; pads = omega arith }

near_first : Near 0 0 0
near_first = record { images = omega arith; pads = omega arith }

-- a walk over the first places is a walk over their list
module _ {S : Type 0} (f : Chip → S → S) where
  abbrev pub folded : List Chip → S → S
  folded [] s = s
  folded (c ∷ cs) s = folded cs (f c s)

  over_at : (Q P Z : List Chip) (i : ℕ) (s : S) → length P ≡ i → over f (length Q) i (P ++ (Q ++ Z)) s ≡ folded Q s
  unfolding over
  over_at [] P Z i s p = refl
  over_at (c ∷ Q) P Z i s p =
      (λ j. over f (length Q) (i + 1) (sym (append_assoc P (c ∷ []) (Q ++ Z)) j) (f (get_or_at P c (Q ++ Z) no_chip i p j) s))
      ∙ over_at Q (P ++ (c ∷ [])) Z (i + 1) (f c s) (simp length-append (omega arith))

  pub over_line : (n : ℕ) (cs : List Chip) (s : S) → n ≤ length cs → over f n 0 cs s ≡ folded (take n cs) s
  over_line n cs s l =
      (λ j. over f (sym (length-take-le n cs l) j) 0 (sym (take-append-drop n cs) j) s) ∙ over_at (take n cs) [] (drop n cs) 0 s refl

-- what a look finds
abbrev seeing : Bool → ℕ → ℕ → ℕ → ℕ → Survey
seeing fine kind i image pad = record { within = fine; kind = kind; spot = spot i image pad }

look_next : (chip : ℕ) (c : Chip) (fine : Bool) (kind i image pad : ℕ) → Near i image pad → i ≤ 16
    → survey_chip chip c (seeing fine kind i image pad) ≡ seeing (both fine (in_range c)) (pick (eqb i chip) c.kind kind) (i + 1) (image + image_size c.kind) (pad + pad_size c.kind)
unfolding survey_chip
look_next chip c fine kind i image pad h l =
    ap (λ (p : Spot). record { within = both fine (in_range c); kind = pick (eqb i chip) c.kind kind; spot = p }) (next_is i image pad c.kind h l)

-- the kind of the chip k places on, if it is there
abbrev kind_on : ℕ → ℕ → List Chip → ℕ → ℕ
kind_on chip i [] kind = kind
kind_on chip i (c ∷ cs) kind = kind_on chip (i + 1) cs (pick (eqb i chip) c.kind kind)

looks_are : (chip : ℕ) (cs : List Chip) (fine : Bool) (kind i image pad : ℕ) → Near i image pad → i + length cs ≤ 16
    → folded (survey_chip chip) cs (seeing fine kind i image pad) ≡ seeing (both fine (all_in_range cs)) (kind_on chip i cs kind) (i + length cs) (image + images_size cs) (pad + pads_size cs)
looks_are chip [] fine kind i image pad h l =
    λ j. seeing (sym (both_true fine) j) kind (e i j) (e image j) (e pad j)
  where
    e : (x : ℕ) → x ≡ x + 0
    e x = omega arith
looks_are chip (c ∷ cs) fine kind i image pad h l =
    ap (λ (x : Survey). folded (survey_chip chip) cs x) (look_next chip c fine kind i image pad h (omega arith))
    ∙ looks_are chip cs _ _ (i + 1) (image + image_size c.kind) (pad + pad_size c.kind) (next_near i image pad c.kind h) (omega arith)
    ∙ (λ j. seeing (both_assoc fine (in_range c) (all_in_range cs) j) (kind_on chip (i + 1) cs (pick (eqb i chip) c.kind kind))
    (f i (length cs) j) (e image (image_size c.kind) (images_size cs) j) (e pad (pad_size c.kind) (pads_size cs) j))
  where
    e : (x y z : ℕ) → x + y + z ≡ x + (y + z)
    e x y z = omega arith

    f : (x z : ℕ) → x + 1 + z ≡ x + suc z
    f x z = omega arith

kind_passed : (chip i : ℕ) (cs : List Chip) (kind : ℕ) → chip < i → kind_on chip i cs kind ≡ kind
kind_passed chip i [] kind h = refl
kind_passed chip i (c ∷ cs) kind h =
    ap (λ (x : ℕ). kind_on chip (i + 1) cs x) (pick_false (eqb i chip) c.kind kind (ne_eqb i chip (λ (q : i ≡ chip). omega arith)))
    ∙ kind_passed chip (i + 1) cs kind (omega arith)

kind_is : (k chip i : ℕ) (cs : List Chip) → i + k ≡ chip → kind_on chip i cs 0 ≡ (get_or cs k no_chip).kind
kind_is zero chip i [] e = refl
kind_is (suc k) chip i [] e = refl
kind_is zero chip i (c ∷ cs) e =
    ap (λ (x : ℕ). kind_on chip (i + 1) cs x) (pick_true (eqb i chip) c.kind 0 (eq-eqb i chip (omega arith))) ∙ kind_passed chip (i + 1) cs c.kind (omega arith)
kind_is (suc k) chip i (c ∷ cs) e =
    ap (λ (x : ℕ). kind_on chip (i + 1) cs x) (pick_false (eqb i chip) c.kind 0 (ne_eqb i chip (λ (q : i ≡ chip). omega arith)))
    ∙ kind_is k chip (i + 1) cs (omega arith)

-- a look over the first n places, where these are few
abbrev pub Surveyed : ℕ → ℕ → List Chip → Survey → Type 0
Surveyed chip n cs l = n ≤ 16 → (n ≤ length cs) × (l ≡ folded (survey_chip chip) (take n cs) first_survey)

module _ (chip n : ℕ) (cs : List Chip) (ms ss : List ℕ) (l : Survey) (h : Surveyed chip n cs l) where
  look_is : n ≤ 16 → l ≡ seeing (both true (all_in_range (take n cs))) (kind_on chip 0 (take n cs) 0) (0 + length (take n cs)) (0 + images_size (take n cs)) (0 + pads_size (take n cs))
  look_is few = let q = h few in let k = length-take-le n cs q.0 in q.1 ∙ looks_are chip (take n cs) true 0 0 0 0 near_first (omega arith)

  named_is : n ≤ 16 → l.kind ≡ (get_or (take n cs) chip no_chip).kind
  named_is few = ap (λ (x : Survey). x.kind) (look_is few) ∙ kind_is chip chip 0 (take n cs) (zero-add chip)

  pub images_are : n ≤ 16 → l.spot.image ≡ images_size (take n cs)
  images_are few = ap (λ (x : Survey). x.spot.image) (look_is few) ∙ zero-add _

  pub pads_are : n ≤ 16 → l.spot.pad ≡ pads_size (take n cs)
  pads_are few = ap (λ (x : Survey). x.spot.pad) (look_is few) ∙ zero-add _

  few_range : n ≤ 16 → both (leb n 16) l.within ≡ table_in_range n cs
  unfolding table_in_range both
  few_range few = λ j. pick (leb n 16) ((ap (λ (x : Survey). x.within) (look_is few) ∙ true_both (all_in_range (take n cs))) j) false

  few_sizes : n ≤ 16 → both (eqb (length ms) l.spot.image) (eqb (length ss) l.spot.pad) ≡ sizes_fit n cs ms ss
  unfolding sizes_fit
  few_sizes few = λ j. both (eqb (length ms) (images_are few j)) (eqb (length ss) (pads_are few j))

  many_range : 16 < n → (both (leb n 16) l.within ≡ false) × (table_in_range n cs ≡ false)
  unfolding table_in_range both
  many_range k = (simp (lt-leb n 16 k, pick_false), simp (lt-leb n 16 k, pick_false))

  -- 8, then 5 by the sizes and by those that a run asks
  tests_are : (more : Bool) → verdict_with l n (length ms) (length ss) more ≡ judge (table_tests (table_in_range n cs) (both (sizes_fit n cs ms ss) more))
  unfolding verdict_with
  tests_are more = go (leb n 16) refl
    where
      none : (x y : Bool) → judge (table_tests false x) ≡ judge (table_tests false y)
      none x y = pick_false false _ _ refl ∙ sym (pick_false false _ _ refl)

      go : (b : Bool) → leb n 16 ≡ b
          → judge (table_tests (both (leb n 16) l.within) (both (both (eqb (length ms) l.spot.image) (eqb (length ss) l.spot.pad)) more)) ≡ judge (table_tests (table_in_range n cs) (both (sizes_fit n cs ms ss) more))
      go true e = let few = leb-true n 16 e in λ j. judge (table_tests (few_range few j) (both (few_sizes few j) more))
      go false e = let m = many_range (leb-false n 16 e) in
          ap (λ (r : Bool). judge (table_tests r (both (both (eqb (length ms) l.spot.image) (eqb (length ss) l.spot.pad)) more))) m.0 ∙ none _ _
          ∙ sym (ap (λ (r : Bool). judge (table_tests r (both (sizes_fit n cs ms ss) more))) m.1)

  pub stands_is : verdict_by l n (length ms) (length ss) ≡ verdict_of n cs ms ss
  unfolding verdict_by verdict_of
  stands_is = tests_are true ∙ ap (λ (b : Bool). judge (table_tests (table_in_range n cs) b)) (both_true (sizes_fit n cs ms ss))

  -- the same of a run of slots
  pub run_stands_is : (slots : ℕ) (bits answers : List ℕ) → run_verdict_by l n (length ms) (length ss) slots (length bits) (length answers) ≡ run_verdict n cs slots bits answers ms ss
  unfolding run_verdict_by run_verdict
  run_stands_is slots bits answers = tests_are (run_fits slots (length bits) (length answers))

-- the plan, by a survey
planned : (n : ℕ) (cs : List Chip) (e : Event) (ms ss : List ℕ) (l : Survey) → Surveyed e.chip n cs l → (q : Result (Unit {0}) Refusal) → q ≡ verdict_of n cs ms ss
    → plan_by q (plan_event e n l.kind) ≡ plan_by q (plan_in (take n cs) e)
planned n cs e ms ss l h (Err r) k = refl
planned n cs e ms ss l h (Ok tt) k =
    let few = (judged_fit n cs ms ss k).few in
    λ j. plan_event e (sym (length-take-le n cs (h few).0) j) (named_is e.chip n cs ms ss l h few j)

pub plan_is : (n : ℕ) (cs : List Chip) (e : Event) (ms ss : List ℕ) (l : Survey) → Surveyed e.chip n cs l → plan_seen l n e (length ms) (length ss) ≡ plan_of n cs e ms ss
unfolding plan_seen plan_of
plan_is n cs e ms ss l h =
    let s = stands_is e.chip n cs ms ss l h in
    planned n cs e ms ss l h (verdict_by l n (length ms) (length ss)) s
    ∙ ap (λ (q : Result (Unit {0}) Refusal). plan_by q (plan_in (take n cs) e)) s

-- what one chip puts on the bus
module _ (c : Chip) (i image pad : ℕ) (A B S T : List ℕ) (p : length A ≡ image) (q : length S ≡ pad) (h : image_size c.kind ≤ length B) (k : pad_size c.kind ≤ length T) where
  abbrev cut : Whole
  cut = whole c (take (image_size c.kind) B) (take (pad_size c.kind) T)

  puts_is : (d : Plan) → puts_at d c (spot i image pad) (A ++ B) (S ++ T) ≡ puts_of d cut
  puts_is (plan.Slot b) = bit-at c image pad A B S T p q h k
  puts_is plan.Reset = refl
  puts_is plan.PowerOn = refl
  puts_is (plan.Outside place l) = refl

abbrev summed : Bool → ℕ → ℕ → ℕ → Bus
summed v i image pad = record { value = v; spot = spot i image pad }

-- the bit on the bus
module _ (d : Plan) where
  bus_over_are : (Q : List Chip) (v : Bool) (i image pad : ℕ) (A B S T : List ℕ) → length A ≡ image → length S ≡ pad → length B ≡ images_size Q → length T ≡ pads_size Q
      → Near i image pad → i + length Q ≤ 16
      → (folded (λ (c : Chip) (s : Bus). bus_with d c s (A ++ B) (S ++ T)) Q (summed v i image pad)).value ≡ bus_from (puts_of d) v (split Q B T)
  unfolding bus_with
  bus_over_are [] v i image pad A B S T p q b t near l = refl
  bus_over_are (c ∷ Q) v i image pad A B S T p q b t near l =
      let n = image_size c.kind in
      let k = pad_size c.kind in
      let x = puts_of d (whole c (take n B) (take k T)) in
      let lm : length (take n B) ≡ n = length-take-le n B (omega arith) in
      let ls : length (take k T) ≡ k = length-take-le k T (omega arith) in
      (λ j. (folded (λ (c : Chip) (s : Bus). bus_with d c s (A ++ B) (S ++ T)) Q (record { value = both (puts_is c i image pad A B S T p q (omega arith) (omega arith) d j) v; spot = next_is i image pad c.kind near (omega arith) j })).value)
      ∙ (λ j. (folded (λ (c : Chip) (s : Bus). bus_with d c s (regroup A B n j) (regroup S T k j)) Q (summed (both x v) (i + 1) (image + n) (pad + k))).value)
      ∙ bus_over_are Q (both x v) (i + 1) (image + n) (pad + k) (A ++ take n B) (drop n B) (S ++ take k T) (drop k T)
      (simp length-append (omega arith)) (simp length-append (omega arith)) (simp length-drop (omega arith)) (simp length-drop (omega arith))
      (next_near i image pad c.kind near) (omega arith)

-- what one chip of a line does, at its place
abbrev pub done_by : Plan → Bool → ℕ → Whole → Whole
done_by (plan.Slot b) v i w = act_of (act.Take v) w
done_by plan.Reset v i w = act_of act.Reset w
done_by plan.PowerOn v i w = act_of act.PowerOn w
done_by (plan.Outside place l) v i w = whole (pick (eqb i place) (outside_chip l w.chip) w.chip) w.memory w.pad

done_sized : (d : Plan) (v : Bool) (i : ℕ) (w : Whole) → (length (done_by d v i w).memory ≡ length w.memory) × (length (done_by d v i w).pad ≡ length w.pad)
done_sized (plan.Slot b) v i w = act_sized (act.Take v) w
done_sized plan.Reset v i w = act_sized act.Reset w
done_sized plan.PowerOn v i w = act_sized act.PowerOn w
done_sized (plan.Outside place l) v i w = (refl, refl)

-- every chip, from place i on
abbrev pub all_done : (ℕ → Whole → Whole) → ℕ → List Whole → List Whole
all_done f i [] = []
all_done f i (w ∷ L) = f i w ∷ all_done f (i + 1) L

pub done_map : (f : Whole → Whole) (i : ℕ) (L : List Whole) → all_done (λ j. f) i L ≡ map f L
done_map f i [] = refl
done_map f i (w ∷ L) = ap (λ (K : List Whole). f w ∷ K) (done_map f (i + 1) L)

done_past : (place l i : ℕ) (v : Bool) (L : List Whole) → place < i → all_done (done_by (plan.Outside place l) v) i L ≡ L
done_past place l i v [] h = refl
done_past place l i v (w ∷ L) h =
    λ j. whole (pick_false (eqb i place) (outside_chip l w.chip) w.chip (ne_eqb i place (λ (q : i ≡ place). omega arith)) j) w.memory w.pad ∷ done_past place l (i + 1) v L (omega arith) j

pub done_outside : (k place l i : ℕ) (v : Bool) (L : List Whole) → i + k ≡ place → all_done (done_by (plan.Outside place l) v) i L ≡ outside_at k l L
unfolding outside_of
done_outside k place l i v [] e = refl
done_outside zero place l i v (w ∷ L) e =
    λ j. whole (pick_true (eqb i place) (outside_chip l w.chip) w.chip (eq-eqb i place (omega arith)) j) w.memory w.pad ∷ done_past place l (i + 1) v L (omega arith) j
done_outside (suc k) place l i v (w ∷ L) e =
    λ j. whole (pick_false (eqb i place) (outside_chip l w.chip) w.chip (ne_eqb i place (λ (q : i ≡ place). omega arith)) j) w.memory w.pad ∷ done_outside k place l (i + 1) v L (omega arith) j

-- one chip of the walk
split_back : (n : ℕ) (A B : List ℕ) → A ++ B ≡ A ++ (take n B ++ drop n B)
split_back n A B = ap (λ (l : List ℕ). A ++ l) (sym (take-append-drop n B))

module _ (c : Chip) (i image pad : ℕ) (A B S T : List ℕ) (p : length A ≡ image) (q : length S ≡ pad) (h : image_size c.kind ≤ length B) (k : pad_size c.kind ≤ length T) where
  abbrev Does : Plan → Bool → Type 0
  Does d v =
      let x = done_by d v i (whole c (take (image_size c.kind) B) (take (pad_size c.kind) T)) in
      does_at d v c (spot i image pad) (A ++ B) (S ++ T) ≡ whole x.chip (A ++ (x.memory ++ drop (image_size c.kind) B)) (S ++ (x.pad ++ drop (pad_size c.kind) T))

  does_is : (d : Plan) (v : Bool) → Does d v
  does_is (plan.Slot b) v = act-at (act_of (act.Take v)) c image pad A B S T p q h k
  does_is plan.Reset v = act-at (act_of act.Reset) c image pad A B S T p q h k
  does_is plan.PowerOn v = act-at (act_of act.PowerOn) c image pad A B S T p q h k
  does_is (plan.Outside place l) v = λ j. whole (pick (eqb i place) (outside_chip l c) c) (split_back (image_size c.kind) A B j) (split_back (pad_size c.kind) S T j)

-- the walk
module _ (d : Plan) (v : Bool) where
  acts_one : (k i image pad : ℕ) (cs : List Chip) (ms ss : List ℕ) (c r : Chip) (x y : List ℕ) → Near i image pad → i ≤ 16 → get_or cs i no_chip ≡ c → does_at d v c (spot i image pad) ms ss ≡ whole r x y
      → acts d v (suc k) i (spot i image pad) cs ms ss ≡ acts d v k (i + 1) (spot (i + 1) (image + image_size c.kind) (pad + pad_size c.kind)) (set cs i r) x y
  unfolding acts turn_of
  acts_one k i image pad cs ms ss c r x y near l e h =
      (λ j. let z = does_at d v (e j) (spot i image pad) ms ss in acts d v k (i + 1) (spot_after (e j).kind (spot i image pad)) (set cs i z.chip) z.memory z.pad)
      ∙ (λ j. acts d v k (i + 1) (next_is i image pad c.kind near l j) (set cs i (h j).chip) (h j).memory (h j).pad)

  acts_are : (Q P Z : List Chip) (i image pad : ℕ) (A B S T : List ℕ) → length P ≡ i → length A ≡ image → length S ≡ pad → length B ≡ images_size Q → length T ≡ pads_size Q
      → Near i image pad → i + length Q ≤ 16
      → acts d v (length Q) i (spot i image pad) (P ++ (Q ++ Z)) (A ++ B) (S ++ T)
      ≡ (let L = all_done (done_by d v) i (split Q B T) in lent (P ++ (chips_of L ++ Z)) (A ++ images_of L) (S ++ pads_of L))
  unfolding acts
  acts_are [] P Z i image pad A [] S [] p q r b t near l = refl
  acts_are [] P Z i image pad A (x ∷ B) S T p q r b t near l = absurd (omega arith)
  acts_are [] P Z i image pad A [] S (x ∷ T) p q r b t near l = absurd (omega arith)
  acts_are (c ∷ Q) P Z i image pad A B S T p q r b t near l =
      let m = take (image_size c.kind) B in
      let s = take (pad_size c.kind) T in
      let x = done_by d v i (whole c m s) in
      let lm : length x.memory ≡ image_size c.kind = (done_sized d v i (whole c m s)).0 ∙ length-take-le (image_size c.kind) B (omega arith) in
      let ls : length x.pad ≡ pad_size c.kind = (done_sized d v i (whole c m s)).1 ∙ length-take-le (pad_size c.kind) T (omega arith) in
      acts_one (length Q) i image pad (P ++ (c ∷ (Q ++ Z))) (A ++ B) (S ++ T) c x.chip (A ++ (x.memory ++ drop (image_size c.kind) B)) (S ++ (x.pad ++ drop (pad_size c.kind) T))
      near (omega arith) (get_or_at P c (Q ++ Z) no_chip i p) (does_is c i image pad A B S T q r (omega arith) (omega arith) d v)
      ∙ (λ j. acts d v (length Q) (i + 1) (spot (i + 1) (image + image_size c.kind) (pad + pad_size c.kind))
      ((set_at P c (Q ++ Z) x.chip i p ∙ sym (append_assoc P (x.chip ∷ []) (Q ++ Z))) j)
      (sym (append_assoc A x.memory (drop (image_size c.kind) B)) j) (sym (append_assoc S x.pad (drop (pad_size c.kind) T)) j))
      ∙ acts_are Q (P ++ (x.chip ∷ [])) Z (i + 1) (image + image_size c.kind) (pad + pad_size c.kind) (A ++ x.memory) (drop (image_size c.kind) B) (S ++ x.pad) (drop (pad_size c.kind) T)
      (simp length-append (omega arith)) (simp length-append (omega arith)) (simp length-append (omega arith)) (simp length-drop (omega arith)) (simp length-drop (omega arith))
      (next_near i image pad c.kind near) (omega arith)
      ∙ (simp append_assoc)

-- who puts 1 on the bus leaves it
pub bus_one : (L : List Whole) → bus_from (λ (w : Whole). true) true L ≡ true
unfolding both pick
bus_one [] = refl
bus_one (w ∷ L) = bus_one L

-- what the walks of a plan come to, where k places of a table of n chips are walked
module _ (n k : ℕ) (cs : List Chip) (ms ss : List ℕ) where
  abbrev pub valued : Plan → Bool
  valued d = (bus_over d k cs ms ss).value

  abbrev pub walked : Plan → Outcome
  walked d = outcome (bit (valued d)) n (acts d (valued d) k 0 first_spot cs ms ss)

  -- what the walks leave: the bit on the bus, and the chips with their buffers; a refused event leaves them as they were
  abbrev pub Walks : Result Plan Refusal → Bool → Lent → Type 0
  Walks (Ok d) v g = (v ≡ valued d) × (g ≡ acts d v k 0 first_spot cs ms ss)
  Walks (Err r) v g = g ≡ lent cs ms ss

  -- refused, nothing is walked
  abbrev pub walked_by : Result Plan Refusal → Outcome
  walked_by (Ok d) = walked d
  walked_by (Err r) = outcome (refused (number_of r)) n (lent cs ms ss)

  module _ (l : n ≤ length cs) (ok : Fits n cs ms ss) (few : k ≡ n) where
    abbrev pub L : List Whole
    L = line_of n cs ms ss

    places : length (take n cs) ≡ n
    places = length-take-le n cs l

    pub valued_is : (d : Plan) → valued d ≡ bus_of d L
    valued_is d =
        let f = ok.few in
        let p = places in
        ap (λ (m : ℕ). (bus_over d m cs ms ss).value) few
        ∙ ap (λ (s : Bus). s.value) (over_line (λ (c : Chip) (s : Bus). bus_with d c s ms ss) n cs (first_bus d) l)
        ∙ bus_over_are d (take n cs) (host_of d) 0 0 0 [] ms [] ss refl refl ok.images ok.pads near_first (omega arith)

    acted_is : (d : Plan) (v : Bool) → acts d v k 0 first_spot cs ms ss ≡ lent_from n cs (all_done (done_by d v) 0 L)
    acted_is d v =
        let f = ok.few in
        let p = places in
        (λ j. acts d v ((few ∙ sym places) j) 0 first_spot (sym (take-append-drop n cs) j) ms ss)
        ∙ acts_are d v (take n cs) [] (drop n cs) 0 0 0 [] ms [] ss refl refl refl ok.images ok.pads near_first (omega arith)

    pub both_are : (d : Plan) (M : List Whole) → all_done (done_by d (bus_of d L)) 0 L ≡ M → (v : Bool) → valued d ≡ v → acts d (valued d) k 0 first_spot cs ms ss ≡ lent_from n cs M
    both_are d M h v e = acted_is d (valued d) ∙ ap (λ (b : Bool). lent_from n cs (all_done (done_by d b) 0 L)) (valued_is d) ∙ ap (λ (K : List Whole). lent_from n cs K) h

-- a plan by which nothing happens, and one by which something does
pub refused_done : (p : Result Plan Refusal) (v : Bool) (n : ℕ) (cs : List Chip) (ms ss : List ℕ) → happens_by p ≡ false → outcome (answered (answer_for p v)) n (lent cs ms ss) ≡ done_of p n cs ms ss
refused_done (Ok p) v n cs ms ss e = absurd (true≢false e)
refused_done (Err r) v n cs ms ss e = refl

pub happens_few : (n : ℕ) (cs : List Chip) (e : Event) (ms ss : List ℕ) → happens_by (plan_of n cs e ms ss) ≡ true → n ≤ 16
unfolding plan_of
happens_few n cs e ms ss h = go (verdict_of n cs ms ss) refl h
  where
    go : (q : Result (Unit {0}) Refusal) → q ≡ verdict_of n cs ms ss → happens_by (plan_by q (plan_in (take n cs) e)) ≡ true → n ≤ 16
    go (Ok tt) f k = (judged_fit n cs ms ss f).few
    go (Err r) f k = absurd (true≢false (sym k))

-- the most that is asked, and what is asked of over 16 chips
take_few : (n : ℕ) (cs : List Chip) → length (take n cs) ≤ n
take_few zero cs = omega arith
take_few (suc n) [] = omega arith
take_few (suc n) (c ∷ cs) = let h = take_few n cs in omega arith

images_few : (cs : List Chip) → images_size cs ≤ length cs * image_most
images_few [] = omega arith
images_few (c ∷ cs) = let h = images_few cs in let k = image_small c.kind in omega arith

pads_few : (cs : List Chip) → pads_size cs ≤ length cs * pad_most
pads_few [] = omega arith
pads_few (c ∷ cs) = let h = pads_few cs in let k = pad_small c.kind in omega arith

pub images-most : (n : ℕ) (cs : List Chip) → n ≤ 16 → images_size (take n cs) ≤ images_most
images-most n cs h = let a = images_few (take n cs) in let b = take_few n cs in omega arith

pub pads-most : (n : ℕ) (cs : List Chip) → n ≤ 16 → pads_size (take n cs) ≤ pads_most
pads-most n cs h = let a = pads_few (take n cs) in let b = take_few n cs in omega arith

pub images_none : (n : ℕ) (cs : List Chip) → 16 < n → 0 ≡ images_asked n cs
unfolding images_asked
images_none n cs h = sym (pick_false (leb n 16) _ _ (lt-leb n 16 h))

pub pads_none : (n : ℕ) (cs : List Chip) → 16 < n → 0 ≡ pads_asked n cs
unfolding pads_asked
pads_none n cs h = sym (pick_false (leb n 16) _ _ (lt-leb n 16 h))

-- a table by value: 16 places, of which at most 16 are walked
module _ (n : ℕ) (cs : List Chip) (full : length cs ≡ 16) where
  pub table_few : n ≤ 16 → (n ≤ length cs) × (capped n ≡ n)
  table_few h = (omega arith, capped_is n h)

  pub table_surveyed : (chip : ℕ) (l : Survey) → l ≡ surveyed chip (capped n) cs → Surveyed chip n cs l
  table_surveyed chip l e few =
      (omega arith, e ∙ ap (λ (k : ℕ). surveyed chip k cs) (capped_is n few) ∙ over_line (survey_chip chip) n cs first_survey (omega arith))

  pub table_images : (l : Survey) → l ≡ surveyed 0 (capped n) cs → n ≤ 16 → (l.spot.image ≡ images_asked n cs) × (l.spot.image ≤ images_most)
  unfolding images_asked
  table_images l e few =
      let h = images_are 0 n cs [] [] l (table_surveyed 0 l e) few in
      let k = images-most n cs few in
      (h ∙ sym (pick_true (leb n 16) _ _ (le-leb n 16 few)), omega arith)

  pub table_pads : (l : Survey) → l ≡ surveyed 0 (capped n) cs → n ≤ 16 → (l.spot.pad ≡ pads_asked n cs) × (l.spot.pad ≤ pads_most)
  unfolding pads_asked
  table_pads l e few =
      let h = pads_are 0 n cs [] [] l (table_surveyed 0 l e) few in
      let k = pads-most n cs few in
      (h ∙ sym (pick_true (leb n 16) _ _ (le-leb n 16 few)), omega arith)
