-- A run of slots on a table goes by the places of its line alone, and leaves the places past them; so `tk_slots` on the bytes of chips is
-- `line::take_slots` on a table of these chips, packed.
use Rattle.std.specs.Prelude.{ℕ, ◌≤◌, Bool, List, [], ◌∷◌, ◌++◌, ◌≡◌, refl, ℤ, length, take, drop, Result, Ok, Err}
use Rattle.line.specs.declared.Refusal.{Refusal}
use Rattle.std.proofs.Common.{arith, append_assoc, ◌∙◌, sym, length-append, length-drop, length-take-le}
use Rattle.std.proofs.Math.Path.{ap}
use Rattle.std.proofs.lemmas.List.{length-map, take-append-le, drop-append-le}
use Rattle.base.specs.Bits.{both}
use Rattle.base.specs.Pick.{pick_true}
use Rattle.chip.specs.Chip.{Whole}
use Rattle.chip.specs.declared.Chip.{Chip}
use Rattle.line.specs.Event.{judge, table_tests}
use Rattle.line.specs.Layout.{lent, split, chips_of, images_of, pads_of, line_of, lent_from}
use Rattle.line.specs.Line.{after_by}
use Rattle.line.specs.Prefix.{range_rest, sizes_rest, length_split, length_after}
use Rattle.line.specs.Slots.{bytes_from, host_bits, run_on, run_fits, put, slotted, RunOutcome, run_outcome, run_verdict, run_by, slots_of}
use Rattle.line.specs.declared.Plan.TheVariants as plan
use Rattle.packed.specs.Packed.{packed_table, is_table}
use Rattle.packed.specs.Laws.{unpacked-table, of_table}
use Rattle.toemsakun.specs.Library.{SlotsLeft, slots_left, slots_number, packed_run, slots_bytes}

-- a run keeps the number of chips on a line
run_full : (bs : List Bool) (L : List Whole) → length (run_on bs L).line ≡ length L
run_full [] L = refl
run_full (b ∷ bs) L = run_full bs (after_by (plan.Slot b) L) ∙ length_after (plan.Slot b) L

-- and of chips and places in a table
pub record RunHolds (n m : ℕ) (o : RunOutcome) : Type 0 where
  pub chips : o.count ≡ n
  pub places : length o.lent.chips ≡ m

-- the same outcome on a table that has the places Z after its own
abbrev run_rest : List Chip → RunOutcome → RunOutcome
run_rest Z o = run_outcome o.answer o.answers o.count (lent (o.lent.chips ++ Z) o.lent.images o.lent.pads)

module _ (n : ℕ) (cs : List Chip) (l : n ≤ length cs) (slots : ℕ) (bits out ms ss : List ℕ) where
  by_holds : (v : Result (Unit {0}) Refusal) → RunHolds n (length cs) (run_by v n cs slots bits out ms ss)
  by_holds (Err r) = record { chips = refl; places = refl }
  by_holds (Ok tt) =
      record {
        chips = refl;
        places = let k = run_full (host_bits slots bits) (line_of n cs ms ss) ∙ length_split (take n cs) ms ss ∙ length-take-le n cs l in
            simp (length-append, length-map, length-drop) (omega arith);
      }

  pub slots_hold : RunHolds n (length cs) (slots_of n cs slots bits out ms ss)
  unfolding slots_of
  slots_hold = by_holds (run_verdict n cs slots bits out ms ss)

  -- a run on a table with more places than those of cs
  module _ (Z : List Chip) where
    judged_rest : run_verdict n (cs ++ Z) slots bits out ms ss ≡ run_verdict n cs slots bits out ms ss
    unfolding run_verdict
    judged_rest = λ j. judge (table_tests (range_rest n cs Z l j) (both (sizes_rest n cs Z l ms ss j) (run_fits slots (length bits) (length out))))

    by_rest : (v : Result (Unit {0}) Refusal) → run_by v n (cs ++ Z) slots bits out ms ss ≡ run_rest Z (run_by v n cs slots bits out ms ss)
    by_rest (Err r) = refl
    by_rest (Ok tt) =
        let bs = host_bits slots bits in
        let r = run_on bs (line_of n cs ms ss) in
        let d : drop n (cs ++ Z) ≡ drop n cs ++ Z = drop-append-le n cs Z l in
        ap (λ (k : List Chip). let q = run_on bs (split k ms ss) in run_outcome (put (length q.bits)) (bytes_from (length out) q.bits) n (lent_from n (cs ++ Z) q.line)) (take-append-le n cs Z l)
        ∙ ap (λ (k : List Chip). run_outcome (put (length r.bits)) (bytes_from (length out) r.bits) n (lent k (images_of r.line) (pads_of r.line)))
        (ap (λ (k : List Chip). chips_of r.line ++ k) d ∙ sym (append_assoc (chips_of r.line) (drop n cs) Z))

    slots_rest : slots_of n (cs ++ Z) slots bits out ms ss ≡ run_rest Z (slots_of n cs slots bits out ms ss)
    unfolding slots_of
    slots_rest = ap (λ (v : Result (Unit {0}) Refusal). run_by v n (cs ++ Z) slots bits out ms ss) judged_rest ∙ by_rest (run_verdict n cs slots bits out ms ss)

-- a run on the bytes of chips is the run on the chips, packed
pub slots_packed : (cs : List Chip) (slots : ℕ) (bits out ms ss : List ℕ)
    → slots_bytes (packed_table cs) bits out slots ms ss ≡ packed_run (slots_of (length cs) cs slots bits out ms ss)
unfolding slots_bytes
slots_packed cs slots bits out ms ss = rw (pick_true (is_table (packed_table cs)) _ _ (of_table _ cs refl).0, unpacked-table cs)

-- THEOREM: what `line::take_slots` leaves of a table of the chips cs with the places Z past them, and `tk_slots` of the bytes of cs: the same
-- answer by its number, the same answers, images and scratchpads, as many chips, and the bytes of the chips that the table has then; Z stays
pub slots_agree : (cs Z : List Chip) (slots : ℕ) (bits out ms ss : List ℕ) (a : Result ℕ Refusal) (n : ℕ) (ds : List Chip) (us is ps : List ℕ) (b : ℤ) (vs t js qs : List ℕ)
    → run_outcome (slotted a) us n (lent ds is ps) ≡ slots_of (length cs) (cs ++ Z) slots bits out ms ss
    → slots_left b vs t js qs ≡ slots_bytes (packed_table cs) bits out slots ms ss
    → (b ≡ slots_number (slotted a)) × (us ≡ vs) × (n ≡ length cs) × ((ks : List Chip) × (ds ≡ ks ++ Z) × (t ≡ packed_table ks)) × (is ≡ js) × (ps ≡ qs)
slots_agree cs Z slots bits out ms ss a n ds us is ps b vs t js qs p q =
    let o = slots_of (length cs) cs slots bits out ms ss in
    let r = p ∙ slots_rest (length cs) cs (omega arith) slots bits out ms ss Z in
    let u = q ∙ slots_packed cs slots bits out ms ss in (
      ap (λ (x : SlotsLeft). x.answer) u ∙ sym (ap (λ (x : RunOutcome). slots_number x.answer) r),
      ap (λ (x : RunOutcome). x.answers) r ∙ sym (ap (λ (x : SlotsLeft). x.answers) u),
      ap (λ (x : RunOutcome). x.count) r ∙ (slots_hold (length cs) cs (omega arith) slots bits out ms ss).chips,
      (o.lent.chips, ap (λ (x : RunOutcome). x.lent.chips) r, ap (λ (x : SlotsLeft). x.table) u),
      ap (λ (x : RunOutcome). x.lent.images) r ∙ sym (ap (λ (x : SlotsLeft). x.images) u),
      ap (λ (x : RunOutcome). x.lent.pads) r ∙ sym (ap (λ (x : SlotsLeft). x.pads) u),
    )
