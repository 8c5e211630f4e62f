-- Laws: what the walks of a plan over a table come to is what the line does, and the event.
use Rattle.std.specs.Prelude.{ℕ, ◌≤◌, Bool, List, ◌++◌, ◌≡◌, length, take, drop, Result, Ok, Err}
use Rattle.line.specs.declared.Refusal.{Refusal}
use Rattle.std.proofs.Common.{zero-add, ◌∙◌, refl, ap, drop_at}
use Rattle.std.proofs.lemmas.List.{length-map}
use Rattle.chip.specs.Chip.{Whole}
use Rattle.chip.specs.declared.Chip.{Chip}
use Rattle.line.specs.Line.{value_of, act_of, bus_of, after_by}
use Rattle.line.specs.Layout.{capped, chips_of, images_of, pads_of, Lent, lent, line_of, lent_from}
use Rattle.line.specs.Event.{bit, answered, refused, number_of, verdict_of, Fits, outcome, plan_in, plan_by, plan_of, did, done_of, event_of}
use Rattle.line.specs.Fitted.{map_fitted, length_chips}
use Rattle.line.specs.Prefix.{capped_is}
use Rattle.line.specs.Refusals.{judged_fit}
use Rattle.line.specs.Carrier.{first_spot, first_survey, survey_chip, surveyed, plan_seen, bus_over, acts, answer_for}
use Rattle.line.specs.Carried as carried
use Rattle.line.specs.Carried.{Surveyed, over_line, walked, walked_by, Walks, plan_is, done_map, done_outside, bus_one}
use Rattle.line.specs.RunTables.{Carrying, carrying_fits, carrying_line, carrying_places}
use Rattle.line.specs.declared.Act.TheVariants as act
use Rattle.line.specs.declared.Event.{Event}
use Rattle.line.specs.declared.Plan.{Plan}
use Rattle.line.specs.declared.Plan.TheVariants as plan
use Rattle.line.specs.declared.Survey.{Survey}

module _ (n k : ℕ) (cs : List Chip) (ms ss : List ℕ) where
  abbrev valued : Plan → Bool
  valued d = carried.valued n k cs ms ss d

  module _ (l : n ≤ length cs) (ok : Fits n cs ms ss) (few : k ≡ n) where
    abbrev L : List Whole
    L = line_of n cs ms ss

    valued_is : (d : Plan) → valued d ≡ bus_of d L
    valued_is d = carried.valued_is n k cs ms ss l ok few d

    both_are : (d : Plan) (M : List Whole) → carried.all_done (carried.done_by d (bus_of d L)) 0 L ≡ M → (v : Bool) → valued d ≡ v → acts d (valued d) k 0 first_spot cs ms ss ≡ lent_from n cs M
    both_are d M h v e = carried.both_are n k cs ms ss l ok few d M h v e

    -- a slot: the bit on the bus, and the line that it leaves
    pub slot_walked : (b : Bool) → (valued (plan.Slot b) ≡ value_of b L) × (acts (plan.Slot b) (valued (plan.Slot b)) k 0 first_spot cs ms ss ≡ lent_from n cs (after_by (plan.Slot b) L))
    slot_walked b = (valued_is (plan.Slot b), both_are (plan.Slot b) _ (done_map (act_of (act.Take (bus_of (plan.Slot b) L))) 0 L) _ refl)

    fine_walked : (d : Plan) → walked n k cs ms ss d ≡ did d n cs ms ss
    fine_walked (plan.Slot b) = λ j. outcome (bit ((slot_walked b).0 j)) n ((slot_walked b).1 j)
    fine_walked plan.Reset = λ j. outcome (bit (valued_is plan.Reset j)) n (both_are plan.Reset _ (done_map (act_of act.Reset) 0 L) _ refl j)
    fine_walked plan.PowerOn = λ j. outcome (bit ((valued_is plan.PowerOn ∙ bus_one L) j)) n (both_are plan.PowerOn _ (done_map (act_of act.PowerOn) 0 L) _ refl j)
    fine_walked (plan.Outside i x) =
        λ j. outcome (bit ((valued_is (plan.Outside i x) ∙ bus_one L) j)) n (both_are (plan.Outside i x) _ (done_outside i i x 0 (bus_of (plan.Outside i x) L) L (zero-add i)) _ refl j)

  module _ (h : n ≤ 16 → (n ≤ length cs) × (k ≡ n)) where
    judged_walked : (d : Result Plan Refusal) (q : Result (Unit {0}) Refusal) → q ≡ verdict_of n cs ms ss → walked_by n k cs ms ss (plan_by q d) ≡ done_of (plan_by q d) n cs ms ss
    judged_walked d (Err r) e = refl
    judged_walked (Err r) (Ok tt) e = refl
    judged_walked (Ok d) (Ok tt) e =
        let ok = judged_fit n cs ms ss e in
        fine_walked (h ok.few).0 ok (h ok.few).1 d

    pub plan_walked : (e : Event) → walked_by n k cs ms ss (plan_of n cs e ms ss) ≡ event_of n cs e ms ss
    unfolding plan_of event_of
    plan_walked e = judged_walked (plan_in (take n cs) e) (verdict_of n cs ms ss) refl

    -- the event, by a survey
    pub event_planned : (e : Event) (l : Survey) (p : Result Plan Refusal) → Surveyed e.chip n cs l → p ≡ plan_seen l n e (length ms) (length ss)
        → walked_by n k cs ms ss p ≡ event_of n cs e ms ss
    event_planned e l p s h = ap (walked_by n k cs ms ss) (h ∙ plan_is n cs e ms ss l s) ∙ plan_walked e

    -- the event, from what the walks leave
    walked_all : (d : Result Plan Refusal) (v : Bool) (g : Lent) → Walks n k cs ms ss d v g → outcome (answered (answer_for d v)) n g ≡ walked_by n k cs ms ss d
    walked_all (Ok p) v g w =
        ap (λ (x : Lent). outcome (bit v) n x) w.1 ∙ ap (λ (b : Bool). outcome (bit b) n (acts p b k 0 first_spot cs ms ss)) w.0
    walked_all (Err r) v g w = ap (λ (x : Lent). outcome (refused (number_of r)) n x) w

    pub event_walked : (e : Event) (l : Survey) (d : Result Plan Refusal) (v : Bool) (a : Result Bool Refusal) (m : ℕ) (g : Lent) → Surveyed e.chip n cs l → d ≡ plan_seen l n e (length ms) (length ss)
        → Walks n k cs ms ss d v g → a ≡ answer_for d v → m ≡ n → outcome (answered a) m g ≡ event_of n cs e ms ss
    event_walked e l d v a m g hl hd hw ha hm =
        (λ j. outcome (answered (ha j)) (hm j) g) ∙ walked_all d v g hw ∙ event_planned e l d hl hd

-- the event of any carrier, by what its walks over the used places come to
module _ (n : ℕ) (cs : List Chip) (ms ss : List ℕ) (h : n ≤ 16 → n ≤ length cs) (e : Event) (l : Survey) (s : l ≡ surveyed e.chip (capped n) cs) where
  placed : n ≤ 16 → (n ≤ length cs) × (capped n ≡ n)
  placed few = (h few, capped_is n few)

  seen : Surveyed e.chip n cs l
  seen few = (h few, s ∙ ap (λ (k : ℕ). surveyed e.chip k cs) (capped_is n few) ∙ over_line (survey_chip e.chip) n cs first_survey (h few))

  pub carried_refused : (r : Refusal) → Err r ≡ plan_seen l n e (length ms) (length ss) → outcome (refused (number_of r)) n (lent cs ms ss) ≡ event_of n cs e ms ss
  carried_refused r p = event_planned n (capped n) cs ms ss placed e l (Err r) seen p

  pub carried_done : (d : Plan) → Ok d ≡ plan_seen l n e (length ms) (length ss) → (v : Bool) (m : ℕ) (ds : List Chip) (xs ys : List ℕ) → v ≡ (bus_over d (capped n) cs ms ss).value
      → lent ds xs ys ≡ acts d v (capped n) 0 first_spot cs ms ss → m ≡ n → outcome (bit v) m (lent ds xs ys) ≡ event_of n cs e ms ss
  carried_done d p v m ds xs ys f g k =
      (λ j. outcome (bit v) (k j) (g j))
      ∙ ap (λ (b : Bool). outcome (bit b) n (acts d b (capped n) 0 first_spot cs ms ss)) f
      ∙ event_planned n (capped n) cs ms ss placed e l (Ok d) seen p

-- a slot of a run, by the walks of the code
module _ (n : ℕ) (cs₀ : List Chip) (L : List Whole) (m : ℕ) (cs : List Chip) (ms ss : List ℕ) (g : Carrying n cs₀ L m cs ms ss) where
  pub carrying_slot : (b v : Bool) (p : ℕ) (ds : List Chip) (xs ys : List ℕ) → v ≡ (bus_over (plan.Slot b) (capped m) cs ms ss).value
      → lent ds xs ys ≡ acts (plan.Slot b) v (capped m) 0 first_spot cs ms ss → p ≡ m → (v ≡ value_of b L) × Carrying n cs₀ (after_by (plan.Slot b) L) p ds xs ys
  carrying_slot b v p ds xs ys e h q =
      let f = carrying_fits n cs₀ L m cs ms ss g in
      let k = slot_walked m (capped m) cs ms ss (carrying_places n cs₀ L m cs ms ss g) f (capped_is m f.few) b in
      let K = after_by (plan.Slot b) L in
      let line = carrying_line n cs₀ L m cs ms ss g in (
        e ∙ k.0 ∙ ap (λ (M : List Whole). value_of b M) line,
        record {
          number = q ∙ g.number;
          held = h ∙ ap (λ (w : Bool). acts (plan.Slot b) w (capped m) 0 first_spot cs ms ss) e ∙ k.1
              ∙ ap (λ (M : List Whole). lent_from m cs (after_by (plan.Slot b) M)) line
              ∙ (λ j. lent (chips_of K ++ drop (g.number j) (g.held j).chips) (images_of K) (pads_of K))
              ∙ ap (λ (z : List Chip). lent (chips_of K ++ z) (images_of K) (pads_of K)) (drop_at (chips_of L) (drop n cs₀) n (length_chips L ∙ g.full));
          fitted = map_fitted (act.Take (value_of b L)) L g.fitted;
          full = length-map L _ ∙ g.full;
          few = g.few;
          places = g.places;
        },
      )
