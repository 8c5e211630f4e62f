-- Laws: what bytes and their buffers are judged to, as the loop over the records finds it, where a run asks for more sizes.
use Rattle.std.specs.Prelude.{ℕ, ◌*◌, ◌/◌, ◌<◌, ◌≤◌, Bool, false, List, ◌≡◌, refl, eqb, leb, length, Result, Ok, Err}
use Rattle.line.specs.declared.Refusal.{Refusal}
use Rattle.std.proofs.Common.{arith, ◌∙◌, sym, le-leb}
use Rattle.std.proofs.Math.Bool.{true}
use Rattle.std.proofs.Math.Path.{ap}
use Rattle.std.proofs.Math.Seq.{take-length}
use Rattle.std.proofs.lemmas.Bool.{lt-leb}
use Rattle.base.specs.Pick.{pick, pick_true, pick_false, pick_same}
use Rattle.base.specs.Bits.{both}
use Rattle.base.specs.Both.{both_holds, true_both}
use Rattle.chip.specs.declared.Chip.{Chip}
use Rattle.line.specs.Event.{judge, table_tests, verdict_of, all_in_range, table_in_range, sizes_fit, Fits}
use Rattle.line.specs.Carrier.{verdict_with, run_verdict_by}
use Rattle.line.specs.Layout.{images_size, pads_size}
use Rattle.line.specs.Slots.{run_fits}
use Rattle.line.specs.Refusals.{fit, in_range_few, well_judged, held}
use Rattle.line.specs.declared.Refusal.TheVariants.{OutOfRange, WrongSize}
use Rattle.line.specs.declared.Survey.{Survey}
use Rattle.packed.specs.Packed.{record_size, unpacked_from, unpacked_table, is_table}
use Rattle.packed.specs.Laws.{table_is}
use Rattle.packed.specs.Places.{Table16}
use Rattle.toemsakun.specs.Standing.{stand_as, survey_of, pick_and, chips_are, chips_count, whole_is}

-- refused by 8
abbrev pub refused8 : Result (Unit {0}) Refusal
refused8 = Err OutOfRange

-- 8, then 5: bytes that are no table are refused by 8, and a run's own sizes by 5
unfoldable pub verdict_bytes : List ℕ → List ℕ → List ℕ → Bool → Result (Unit {0}) Refusal
verdict_bytes bs ms ss run =
    let cs = unpacked_table bs in
    pick (is_table bs) (judge (table_tests (table_in_range (length cs) cs) (both (sizes_fit (length cs) cs ms ss) run))) refused8

-- at most 16 chips are in range where each is
in_range_is : (cs : List Chip) → length cs ≤ 16 → table_in_range (length cs) cs ≡ all_in_range cs
unfolding table_in_range
in_range_is cs few = pick_true (leb (length cs) 16) _ _ (le-leb (length cs) 16 few) ∙ ap all_in_range (take-length cs)

-- the sizes that a survey found are the table's
pub sizes_found : (bs : List ℕ) (ms ss : List ℕ) (n chip : ℕ) (l : Survey) → n ≡ length bs / record_size → l ≡ survey_of chip (unpacked_from n bs)
    → both (eqb (length ms) l.spot.image) (eqb (length ss) l.spot.pad) ≡ sizes_fit (length (unpacked_table bs)) (unpacked_table bs) ms ss
unfolding sizes_fit
sizes_found bs ms ss n chip l q s =
    let found = s ∙ ap (survey_of chip) (chips_are bs n q) in
    let cut = sym (take-length (unpacked_table bs)) in
    (λ j. both (eqb (length ms) (found j).spot.image) (eqb (length ss) (found j).spot.pad))
    ∙ (λ j. both (eqb (length ms) (images_size (cut j))) (eqb (length ss) (pads_size (cut j))))

by_whole : (w f : Bool) → pick w (judge (table_tests true f)) refused8 ≡ judge (table_tests w f)
unfolding pick
by_whole true f = refl
by_whole false f = refl

module _ (bs : List ℕ) (n : ℕ) (ok whole : Bool) (q : n ≡ length bs / record_size) (few : n ≤ 16) (j : both ok (eqb (length bs) (n * record_size)) ≡ stand_as (unpacked_from n bs) bs)
    (w : whole ≡ both ok (eqb (length bs) (n * record_size))) where
  abbrev cs : List Chip
  cs = unpacked_table bs

  -- the bytes are a table, and not refused by 8
  pub judged_is : whole ≡ both (is_table bs) (table_in_range (length cs) cs)
  judged_is =
      let count = chips_count bs n q in
      whole_is bs n q ok whole j w ∙ ap (both (is_table bs)) (sym (in_range_is cs (omega arith)))

  -- the verdict of the code
  verdict_judged : (ms ss : List ℕ) (fits run : Bool) (v : Result (Unit {0}) Refusal) → fits ≡ sizes_fit (length cs) cs ms ss
      → v ≡ judge (table_tests whole (both fits run)) → v ≡ verdict_bytes bs ms ss run
  unfolding verdict_bytes
  verdict_judged ms ss fits run v f h =
      h ∙ (λ k. judge (table_tests (judged_is k) (both (f k) run)))
      ∙ pick_and (is_table bs) (table_in_range (length cs) cs) _ refused8

  pub verdict_found : (ms ss : List ℕ) (l : Survey) (slots bits answers : ℕ) (v : Result (Unit {0}) Refusal) → l ≡ survey_of 0 (unpacked_from n bs)
      → v ≡ pick whole (run_verdict_by l n (length ms) (length ss) slots bits answers) refused8 → v ≡ verdict_bytes bs ms ss (run_fits slots bits answers)
  unfolding run_verdict_by verdict_with
  verdict_found ms ss l slots bits answers v s h =
      let fits = both (eqb (length ms) l.spot.image) (eqb (length ss) l.spot.pad) in
      let run = run_fits slots bits answers in
      let within : both (leb n 16) l.within ≡ true = (λ k. both (le-leb n 16 few k) (s k).within) ∙ true_both true in
      verdict_judged ms ss fits run v (sizes_found bs ms ss n 0 l q s)
      (h ∙ ap (λ (b : Bool). pick whole (judge (table_tests b (both fits run))) refused8) within ∙ by_whole whole (both fits run))

-- over 16 records
pub verdict_long : (bs ms ss : List ℕ) (run : Bool) → 16 < length bs / record_size → refused8 ≡ verdict_bytes bs ms ss run
unfolding verdict_bytes table_in_range
verdict_long bs ms ss run h =
    let k = chips_count bs (length bs / record_size) refl in
    simp (lt-leb (length (unpacked_table bs)) 16 (omega arith), pick_false, pick_same)

-- what is known where nothing is refused
pub record Stands (bs ms ss : List ℕ) (run : Bool) : Type 0 where
  pub table : is_table bs ≡ true
  pub places : Table16 bs
  pub fits : Fits (length (unpacked_table bs)) (unpacked_table bs) ms ss
  pub well : verdict_of (length (unpacked_table bs)) (unpacked_table bs) ms ss ≡ Ok tt
  pub run-fits : run ≡ true

pub verdict_well : (bs ms ss : List ℕ) (run : Bool) → Ok tt ≡ verdict_bytes bs ms ss run → Stands bs ms ss run
unfolding verdict_bytes
verdict_well bs ms ss run h =
    let cs = unpacked_table bs in
    let a = held (is_table bs) _ OutOfRange h in
    let b = held (table_in_range (length cs) cs) _ OutOfRange a.1 in
    let c = both_holds (sizes_fit (length cs) cs ms ss) run (held (both (sizes_fit (length cs) cs ms ss) run) _ WrongSize b.1).0 in
    record {
      table = a.0;
      places = record { few = in_range_few (length cs) cs b.0; packs = table_is bs a.0 };
      fits = fit (length cs) cs ms ss b.0 c.0;
      well = well_judged (length cs) cs ms ss b.0 c.0;
      run-fits = c.1;
    }
