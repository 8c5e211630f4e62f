-- Form: a look over a table's bytes: a survey of its chips, where the bytes are a table of at most 16 whose fields lie in their ranges; and what that comes to.
use Rattle.std.specs.Prelude.{ℕ, ◌*◌, ◌/◌, ◌<◌, ◌≤◌, Bool, true, false, List, Option, Some, None, Result, ◌≡◌, refl, eqb, leb, length, get_or}
use Rattle.std.proofs.Common.{arith, ◌∙◌, ap, sym, eq-eqb}
use Rattle.std.proofs.lemmas.Bool.{leb-true, leb-false, lt-leb, le-leb}
use Rattle.base.specs.Pick.{pick, pick_true, pick_false}
use Rattle.base.specs.Bits.{both}
use Rattle.base.specs.Both.{both_holds, both_true', both_false}
use Rattle.chip.specs.With.{no_chip}
use Rattle.line.specs.Slots.{run_fits}
use Rattle.line.specs.Carrier.{plan_seen, run_verdict_by}
use Rattle.line.specs.declared.Event.{Event}
use Rattle.line.specs.declared.Plan.{Plan}
use Rattle.line.specs.declared.Refusal.{Refusal}
use Rattle.line.specs.declared.Survey.{Survey}
use Rattle.packed.specs.Packed.{record_size, packed_table, unpacked_from}
use Rattle.packed.specs.Laws.{same_true, table_length, from_length}
use Rattle.toemsakun.specs.Standing.{stand_as, survey_of, Judging, judging_end, survey_end}
use Rattle.toemsakun.specs.Judging.{plan_bytes, refused_by8, plan_found, plan_long}
use Rattle.toemsakun.specs.Verdicts.{refused8, verdict_bytes, verdict_found, verdict_long}

-- the bytes are a table of at most 16 chips whose fields lie in their ranges
abbrev pub stands_whole : List ℕ → Bool
stands_whole bs = both (leb (length bs / record_size) 16) (stand_as (unpacked_from (length bs / record_size) bs) bs)

-- a survey of their chips, by the chip that an event names
abbrev pub survey_in : ℕ → List ℕ → Option Survey
survey_in chip bs = pick (stands_whole bs) (Some (survey_of chip (unpacked_from (length bs / record_size) bs))) None

-- what the loop over the records comes to
module _ (bs : List ℕ) (chip : ℕ) where
  abbrev count : ℕ
  count = length bs / record_size

  pub survey_made : (i : ℕ) (ok w : Bool) (image pad kind : ℕ) → Judging count bs i ok image pad → count ≤ i → w ≡ both ok (eqb (length bs) (count * record_size)) → w ≡ true
      → kind ≡ (get_or (unpacked_from count bs) chip no_chip).kind
      → ◌≡◌ {A = Option Survey} (Some (record { within = true; kind = kind; spot = record { place = count; image = image; pad = pad } })) (survey_in chip bs)
  survey_made i ok w image pad kind g h e t k =
      let stands = sym (judging_end count bs i ok image pad g h) ∙ sym e ∙ t in
      ap (λ (l : Survey). Some l) (survey_end count bs i ok image pad g h chip kind k)
      ∙ sym (pick_true (stands_whole bs) _ _ (both_true' _ _ (le-leb count 16 g.few) stands))

  pub survey_short : (i : ℕ) (ok w : Bool) (image pad : ℕ) → Judging count bs i ok image pad → count ≤ i → w ≡ both ok (eqb (length bs) (count * record_size)) → w ≡ false
      → ◌≡◌ {A = Option Survey} None (survey_in chip bs)
  survey_short i ok w image pad g h e t =
      let fails = sym (judging_end count bs i ok image pad g h) ∙ sym e ∙ t in
      sym (pick_false (stands_whole bs) _ _ (ap (both (leb count 16)) fails ∙ both_false _))

  pub survey_many : 16 < count → ◌≡◌ {A = Option Survey} None (survey_in chip bs)
  unfolding both pick
  survey_many h = sym (pick_false (stands_whole bs) _ _ (ap (λ (b : Bool). both b (stand_as (unpacked_from count bs) bs)) (lt-leb count 16 h)))

  -- what is known where there is a survey
  pub record Surveyed (l : Survey) : Type 0 where
    pub few : count ≤ 16
    pub judged : both true (eqb (length bs) (count * record_size)) ≡ stand_as (unpacked_from count bs) bs
    pub whole : true ≡ both true (eqb (length bs) (count * record_size))
    pub found : l ≡ survey_of chip (unpacked_from count bs)
    pub place : l.spot.place ≡ count

  pub surveyed : (l : Survey) → Some l ≡ survey_in chip bs → Surveyed l
  unfolding pick
  surveyed l e = go (stands_whole bs) refl e
    where
      go : (b : Bool) → stands_whole bs ≡ b → Some l ≡ pick b (Some (survey_of chip (unpacked_from count bs))) None → Surveyed l
      go false t f = cc
      go true t f =
          let cs = unpacked_from count bs in
          let h = both_holds (leb count 16) (stand_as cs bs) t in
          let packs : packed_table cs ≡ bs = same_true (packed_table cs) bs (both_holds _ _ h.1).0 in
          let long = ap (λ (x : List ℕ). length x) packs in
          let k = table_length cs in
          let m = from_length count bs in
          let size : eqb (length bs) (count * record_size) ≡ true = eq-eqb (length bs) (count * record_size) (omega arith) in
          let found : l ≡ survey_of chip cs = cc in
          let whole : both true (eqb (length bs) (count * record_size)) ≡ true = both_true' true _ refl size in
          record { few = leb-true count 16 h.0; judged = whole ∙ sym h.1; whole = sym whole; found = found; place = ap (λ (x : Survey). x.spot.place) found ∙ m }

  pub unsurveyed : None ≡ survey_in chip bs → stands_whole bs ≡ false
  unfolding pick
  unsurveyed e = go (stands_whole bs) refl e
    where
      go : (b : Bool) → stands_whole bs ≡ b → None ≡ pick b (Some (survey_of chip (unpacked_from count bs))) None → stands_whole bs ≡ false
      go false t f = t
      go true t f = cc

-- where there is no survey, there are over 16 records, or they are no table of chips in range
module _ (bs : List ℕ) (chip : ℕ) (s : None ≡ survey_in chip bs) where
  pub record Short : Type 0 where
    pub few : count bs chip ≤ 16
    pub judged : both false (eqb (length bs) (count bs chip * record_size)) ≡ stand_as (unpacked_from (count bs chip) bs) bs
    pub whole : false ≡ both false (eqb (length bs) (count bs chip * record_size))

  pub none_for : {A : Type 0} (x y : A) → (16 < count bs chip → x ≡ y) → (Short → x ≡ y) → x ≡ y
  unfolding both pick
  none_for x y many short = go (leb (count bs chip) 16) refl (unsurveyed bs chip s)
    where
      go : (b : Bool) → leb (count bs chip) 16 ≡ b → both b (stand_as (unpacked_from (count bs chip) bs) bs) ≡ false → x ≡ y
      go true t f = short (record { few = leb-true (count bs chip) 16 t; judged = sym f; whole = refl })
      go false t f = many (leb-false (count bs chip) 16 t)

-- what an event comes to by it, and a run of slots
module _ (bs : List ℕ) (e : Event) (ms ss : List ℕ) where
  pub plan_some : (l : Survey) (p : Result Plan Refusal) → Some l ≡ survey_in e.chip bs → p ≡ plan_seen l l.spot.place e (length ms) (length ss) → p ≡ plan_bytes bs e ms ss
  plan_some l p s h =
      let k = surveyed bs e.chip l s in
      plan_found bs e ms ss (count bs e.chip) true true l p refl k.judged k.whole k.found
      (h ∙ ap (λ (n : ℕ). plan_seen l n e (length ms) (length ss)) k.place ∙ sym (pick_true true _ _ refl))

  pub plan_none : None ≡ survey_in e.chip bs → refused_by8 ≡ plan_bytes bs e ms ss
  plan_none s =
      none_for bs e.chip s refused_by8 (plan_bytes bs e ms ss) (plan_long bs e ms ss)
      (λ (k : Short bs e.chip s). plan_found bs e ms ss (count bs e.chip) false false (survey_of e.chip (unpacked_from (count bs e.chip) bs)) refused_by8 refl k.judged k.whole refl (sym (pick_false false _ _ refl)))

module _ (bs ms ss : List ℕ) (slots bits answers : ℕ) where
  pub verdict_some : (l : Survey) (v : Result (Unit {0}) Refusal) → Some l ≡ survey_in 0 bs → v ≡ run_verdict_by l l.spot.place (length ms) (length ss) slots bits answers
      → v ≡ verdict_bytes bs ms ss (run_fits slots bits answers)
  verdict_some l v s h =
      let k = surveyed bs 0 l s in
      verdict_found bs (count bs 0) true true refl k.few k.judged k.whole ms ss l slots bits answers v k.found
      (h ∙ ap (λ (n : ℕ). run_verdict_by l n (length ms) (length ss) slots bits answers) k.place ∙ sym (pick_true true _ _ refl))

  pub verdict_none : None ≡ survey_in 0 bs → refused8 ≡ verdict_bytes bs ms ss (run_fits slots bits answers)
  verdict_none s =
      none_for bs 0 s refused8 (verdict_bytes bs ms ss (run_fits slots bits answers)) (verdict_long bs ms ss (run_fits slots bits answers))
      (λ (k : Short bs 0 s). verdict_found bs (count bs 0) false false refl k.few k.judged k.whole ms ss (survey_of 0 (unpacked_from (count bs 0) bs)) slots bits answers refused8 refl (sym (pick_false false _ _ refl)))
