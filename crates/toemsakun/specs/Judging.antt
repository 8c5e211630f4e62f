-- Laws: what an event comes to on bytes, as a loop over the records finds it.
use Rattle.std.specs.Prelude.{ℕ, ◌*◌, ◌/◌, ◌<◌, Bool, ◌≡◌, eqb, leb, length, take, Result, Err}
use Rattle.line.specs.declared.Refusal.{Refusal}
use native.Mathlib.Omega.{arith}
use Rattle.std.proofs.Math.Bool.{true, false}
use Rattle.std.proofs.Common.{true≢false, ◌∙◌}
use mathlib.Core.List.{List}
use Rattle.std.proofs.Math.Path.{refl, ap, sym}
use Rattle.std.proofs.Math.Seq.{take-length}
use Rattle.std.proofs.lemmas.Bool.{lt-leb}
use Rattle.base.specs.Pick.{pick, pick_true, pick_false, pick_same, pick_if}
use Rattle.base.specs.Bits.{both}
use Rattle.base.specs.Both.{both_true}
use Rattle.chip.specs.declared.Chip.{Chip}
use Rattle.line.specs.Event.{answered, outcome, judge, table_tests, verdict_of, all_in_range, table_in_range, sizes_fit, Outcome, plan_in, plan_by, plan_of, done_of, event_of}
use Rattle.line.specs.Layout.{lent, images_size, pads_size}
use Rattle.line.specs.Carrier.{verdict_with, verdict_by, plan_seen, happens_by, answer_for}
use Rattle.line.specs.Carried.{walked_by, refused_done, happens_few}
use Rattle.line.proofs.Walked.{plan_walked}
use Rattle.line.specs.declared.Refusal.TheVariants.{OutOfRange}
use Rattle.line.specs.declared.Event.{Event}
use Rattle.line.specs.declared.Survey.{Survey}
use Rattle.line.specs.declared.Plan.{Plan}
use Rattle.packed.specs.Packed.{record_size, unpacked_from, unpacked_table, is_table}
use Rattle.packed.specs.Laws.{table_is}
use Rattle.packed.specs.Places.{Table16}
use Rattle.toemsakun.specs.Library.{minus, event_left, answer_number, packed_outcome, event_bytes}
use Rattle.toemsakun.specs.Standing.{stand_as, survey_of, pick_and, chips_are, chips_count, whole_is}

-- what an event comes to on bytes and their buffers
abbrev pub refused_by8 : Result Plan Refusal
refused_by8 = Err OutOfRange

unfoldable pub plan_bytes : List ℕ → Event → List ℕ → List ℕ → Result Plan Refusal
plan_bytes bs e ms ss = let cs = unpacked_table bs in pick (is_table bs) (plan_of (length cs) cs e ms ss) refused_by8

-- by a survey of chips whose fields lie in their ranges, and where one does not
module _ (cs : List Chip) (e : Event) (ms ss : List ℕ) where
  seen_well : all_in_range cs ≡ true → plan_seen (survey_of e.chip cs) (length cs) e (length ms) (length ss) ≡ plan_of (length cs) cs e ms ss
  unfolding plan_seen plan_of verdict_by verdict_with verdict_of table_in_range sizes_fit both
  seen_well h =
      let cut = sym (take-length cs) in
      let fine : true ≡ all_in_range (take (length cs) cs) = sym h ∙ ap all_in_range cut in
      ap (λ (b : Bool). plan_by (judge (table_tests (both (leb (length cs) 16) true) b)) (plan_in cs e)) (both_true (both (eqb (length ms) (images_size cs)) (eqb (length ss) (pads_size cs))))
      ∙ λ j. plan_by (judge (table_tests (pick (leb (length cs) 16) (fine j) false) (both (eqb (length ms) (images_size (cut j))) (eqb (length ss) (pads_size (cut j)))))) (plan_in (cut j) e)

  seen_outside : all_in_range cs ≡ false → refused_by8 ≡ plan_of (length cs) cs e ms ss
  unfolding plan_of verdict_of table_in_range
  seen_outside h = simp (take-length, h, pick_same, pick_false)

  seen_is : pick (all_in_range cs) (plan_seen (survey_of e.chip cs) (length cs) e (length ms) (length ss)) refused_by8 ≡ plan_of (length cs) cs e ms ss
  seen_is = pick_if (λ (p : Result Plan Refusal). p ≡ plan_of (length cs) cs e ms ss) (all_in_range cs) _ _ seen_well seen_outside

pub plan_found : (bs : List ℕ) (e : Event) (ms ss : List ℕ) (n : ℕ) (ok whole : Bool) (l : Survey) (p : Result Plan Refusal) → n ≡ length bs / record_size
    → both ok (eqb (length bs) (n * record_size)) ≡ stand_as (unpacked_from n bs) bs → whole ≡ both ok (eqb (length bs) (n * record_size))
    → l ≡ survey_of e.chip (unpacked_from n bs) → p ≡ pick whole (plan_seen l n e (length ms) (length ss)) refused_by8 → p ≡ plan_bytes bs e ms ss
unfolding plan_bytes
plan_found bs e ms ss n ok whole l p q j w s h =
    let survey : l ≡ survey_of e.chip (unpacked_table bs) = s ∙ ap (survey_of e.chip) (chips_are bs n q) in
    h ∙ (λ k. pick (whole_is bs n q ok whole j w k) (plan_seen (survey k) (chips_count bs n q k) e (length ms) (length ss)) refused_by8)
    ∙ pick_and (is_table bs) (all_in_range (unpacked_table bs)) _ refused_by8
    ∙ ap (λ (x : Result Plan Refusal). pick (is_table bs) x refused_by8) (seen_is (unpacked_table bs) e ms ss)

many_planned : (n : ℕ) (cs : List Chip) (e : Event) (ms ss : List ℕ) → 16 < n → plan_of n cs e ms ss ≡ refused_by8
unfolding plan_of verdict_of table_in_range
many_planned n cs e ms ss h = simp (lt-leb n 16 h, pick_false)

pub plan_long : (bs : List ℕ) (e : Event) (ms ss : List ℕ) → 16 < length bs / record_size → refused_by8 ≡ plan_bytes bs e ms ss
unfolding plan_bytes
plan_long bs e ms ss h =
    let k = chips_count bs (length bs / record_size) refl in
    go (is_table bs) (many_planned (length (unpacked_table bs)) (unpacked_table bs) e ms ss (omega arith))
  where
    go : (t : Bool) → plan_of (length (unpacked_table bs)) (unpacked_table bs) e ms ss ≡ refused_by8 → refused_by8 ≡ pick t (plan_of (length (unpacked_table bs)) (unpacked_table bs) e ms ss) refused_by8
    go true e = sym (pick_true true _ _ refl ∙ e)
    go false e = sym (pick_false false _ _ refl)

-- an event on bytes, by what it comes to
module _ (bs : List ℕ) (e : Event) (ms ss : List ℕ) (p : Result Plan Refusal) (h : p ≡ plan_bytes bs e ms ss) where
  abbrev cs : List Chip
  cs = unpacked_table bs

  on_table : is_table bs ≡ true → p ≡ plan_of (length cs) cs e ms ss
  unfolding plan_bytes
  on_table t = h ∙ pick_true (is_table bs) _ _ t

  off_table : is_table bs ≡ false → p ≡ refused_by8
  unfolding plan_bytes
  off_table t = h ∙ pick_false (is_table bs) _ _ t

  module _ (any : happens_by p ≡ true) where
    is-table : is_table bs ≡ true
    is-table = go (is_table bs) refl
      where
        go : (t : Bool) → is_table bs ≡ t → is_table bs ≡ true
        go true e = e
        go false e = absurd (true≢false (sym any ∙ ap happens_by (off_table e)))

    pub any_table : Table16 bs
    any_table = record { few = happens_few (length cs) cs e ms ss (ap happens_by (sym (on_table is-table)) ∙ any); packs = table_is bs is-table }

    pub any_done : packed_outcome (walked_by (length cs) (length cs) cs ms ss p) ≡ event_bytes bs e ms ss
    unfolding event_bytes
    any_done =
        ap (λ (o : Outcome). packed_outcome o) (ap (walked_by (length cs) (length cs) cs ms ss) (on_table is-table) ∙ plan_walked (length cs) (length cs) cs ms ss (λ few. (omega arith, refl)) e)
        ∙ sym (pick_true (is_table bs) _ _ is-table)

  pub none_done : (a : Result Bool Refusal) → happens_by p ≡ false → a ≡ answer_for p true → event_left (answer_number (answered a)) bs ms ss ≡ event_bytes bs e ms ss
  unfolding event_bytes event_of
  none_done a none f = go (is_table bs) refl
    where
      go : (t : Bool) → is_table bs ≡ t → event_left (answer_number (answered a)) bs ms ss ≡ pick (is_table bs) (packed_outcome (done_of (plan_of (length cs) cs e ms ss) (length cs) cs ms ss)) (event_left (minus 8) bs ms ss)
      go true t =
          ap (λ (k : List ℕ). event_left (answer_number (answered a)) k ms ss) (sym (table_is bs t))
          ∙ ap (λ (x : Result Bool Refusal). packed_outcome (outcome (answered x) (length cs) (lent cs ms ss))) f
          ∙ ap (λ (o : Outcome). packed_outcome o) (refused_done p true (length cs) cs ms ss none)
          ∙ ap (λ (x : Result Plan Refusal). packed_outcome (done_of x (length cs) cs ms ss)) (on_table t)
          ∙ sym (pick_true (is_table bs) _ _ t)
      go false t =
          ap (λ (x : Result Bool Refusal). event_left (answer_number (answered x)) bs ms ss) (f ∙ ap (λ (x : Result Plan Refusal). answer_for x true) (off_table t))
          ∙ sym (pick_false (is_table bs) _ _ t)
