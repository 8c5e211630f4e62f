-- Laws: slots in place on a table's bytes come to what the plain forms come to, packed again.
use Rattle.std.specs.Prelude.{ℕ, ◌<◌, ◌≤◌, Bool, true, false, List, ◌++◌, ◌≡◌, refl, pos, length, take, drop, Result, Ok, Err}
use Rattle.std.proofs.Common.{arith, le_refl, true≢false, ◌∙◌}
use Rattle.std.proofs.Math.Path.{ap, sym}
use Rattle.std.proofs.Math.Seq.{drop-length}
use Rattle.base.specs.Pick.{pick_true, pick_false}
use Rattle.chip.specs.Chip.{Whole}
use Rattle.chip.specs.declared.Chip.{Chip}
use Rattle.line.specs.Line.{value_of, after_by}
use Rattle.line.specs.Layout.{chips_of, images_of, pads_of, Lent, lent, lent_from}
use Rattle.line.specs.Event.{bit, number_of, verdict_of, outcome, plan_by, plan_in, plan_of, done_of, event_of}
use Rattle.line.specs.Refusals.{judged_fit}
use Rattle.line.specs.RunTables.{carrying_start, RunWell, run_well, put_all}
use Rattle.line.specs.Runs.{InByte, Running}
use Rattle.line.specs.Slots.{host_bits, bytes_from, run_on, run_fits, run_verdict, run_by, slots_of}
use Rattle.line.specs.declared.Event.{Event}
use Rattle.line.specs.declared.Plan.{Plan}
use Rattle.line.specs.declared.Plan.TheVariants as plan
use Rattle.line.specs.declared.Refusal.{Refusal}
use Rattle.line.specs.declared.Refusal.TheVariants.{OutOfRange}
use Rattle.packed.specs.Packed.{unpacked_table, is_table}
use Rattle.packed.specs.Laws.{table_is}
use Rattle.toemsakun.specs.Judging.{refused_by8, plan_bytes}
use Rattle.toemsakun.specs.Library.{minus, event_left, answer_number, packed_outcome, event_bytes, slots_left, packed_run, slots_bytes}
use Rattle.toemsakun.specs.Slots.{Lined, line_in, Outside}
use Rattle.toemsakun.specs.Verdicts.{refused8, verdict_bytes, verdict_well}
use Rattle.toemsakun.specs.declared.slots.Range.{Range}

-- where the loop over the slots of a byte stands
pub record ByteBytes (bits count : ℕ) (bs₀ ms₀ ss₀ : List ℕ) (g : Range) (i host sum worth : ℕ) (bs ms ss : List ℕ) : Type 0 where
  pub byte : InByte bits count (line_in bs₀ ms₀ ss₀) i host sum worth (line_in bs ms ss)
  pub lined : Lined bs ms ss
  pub outside : Outside g bs
  pub table : length bs ≡ length bs₀
  pub images : length ms ≡ length ms₀
  pub pads : length ss ≡ length ss₀

-- slots are left exactly where a byte of host bits is
module _ (slots : ℕ) (bits answers₀ : List ℕ) (L₀ : List Whole) (at left : ℕ) (answers : List ℕ) (L : List Whole) (g : Running slots bits answers₀ L₀ at left answers L) where
  pub running_left : at < length bits → 0 < left
  running_left h = let a = g.asked in omega arith

  pub running_none : length bits ≤ at → left ≤ 0
  running_none h = let a = g.asked in omega arith

-- where the loop over the bytes stands
pub record RunBytes (slots : ℕ) (bits answers₀ bs₀ ms₀ ss₀ : List ℕ) (g : Range) (at left : ℕ) (answers bs ms ss : List ℕ) : Type 0 where
  pub running : Running slots bits answers₀ (line_in bs₀ ms₀ ss₀) at left answers (line_in bs ms ss)
  pub lined : Lined bs ms ss
  pub outside : Outside g bs
  pub table : length bs ≡ length bs₀
  pub images : length ms ≡ length ms₀
  pub pads : length ss ≡ length ss₀

-- bytes that hold a line, as the table and buffers that hold it in the place of another
module _ (bs ms ss bs' ms' ss' : List ℕ) (t : Lined bs' ms' ss') (L : List Whole) (e : line_in bs' ms' ss' ≡ L) where
  left_lent : lent (unpacked_table bs') ms' ss' ≡ lent_from (length (unpacked_table bs)) (unpacked_table bs) L
  left_lent =
      let cs = unpacked_table bs in
      let cs' = unpacked_table bs' in
      (carrying_start (length cs') cs' ms' ss' t.fits (le_refl (length cs'))).held
      ∙ (λ j. lent (chips_of (e j) ++ drop (length cs') cs') (images_of (e j)) (pads_of (e j)))
      ∙ ap (λ (z : List Chip). lent (chips_of L ++ z) (images_of L) (pads_of L)) (drop-length cs' ∙ sym (drop-length cs))

-- ---- a run of slots

module _ (bs bits answers : List ℕ) (slots : ℕ) (ms ss : List ℕ) where
  abbrev cs : List Chip
  cs = unpacked_table bs

  abbrev run : Bool
  run = run_fits slots (length bits) (length answers)

  -- on bytes that are a table, by the verdict
  on_table : is_table bs ≡ true → verdict_bytes bs ms ss run ≡ run_verdict (length cs) cs slots bits answers ms ss
  unfolding verdict_bytes run_verdict
  on_table t = pick_true (is_table bs) _ _ t

  table_bytes : is_table bs ≡ true → slots_bytes bs bits answers slots ms ss ≡ packed_run (slots_of (length cs) cs slots bits answers ms ss)
  unfolding slots_bytes
  table_bytes t = pick_true (is_table bs) _ _ t

  judged_bytes : (v : Result (Unit {0}) Refusal) → is_table bs ≡ true → v ≡ verdict_bytes bs ms ss run → slots_bytes bs bits answers slots ms ss ≡ packed_run (run_by v (length cs) cs slots bits answers ms ss)
  unfolding slots_of
  judged_bytes v t e = table_bytes t ∙ ap (λ (q : Result (Unit {0}) Refusal). packed_run (run_by q (length cs) cs slots bits answers ms ss)) (sym (e ∙ on_table t))

  -- on bytes that are none
  no_verdict : is_table bs ≡ false → verdict_bytes bs ms ss run ≡ refused8
  unfolding verdict_bytes
  no_verdict t = pick_false (is_table bs) _ _ t

  no_bytes : is_table bs ≡ false → slots_bytes bs bits answers slots ms ss ≡ slots_left (minus 8) answers bs ms ss
  unfolding slots_bytes
  no_bytes t = pick_false (is_table bs) _ _ t

  -- what a run knows that is not refused
  pub well_lined : Ok tt ≡ verdict_bytes bs ms ss run → Lined bs ms ss
  well_lined e = let w = verdict_well bs ms ss run e in record { table = w.places; fits = w.fits }

  pub well_fits : Ok tt ≡ verdict_bytes bs ms ss run → RunWell (length cs) cs slots bits answers ms ss
  well_fits e = run_well (length cs) cs slots bits answers ms ss (e ∙ on_table (verdict_well bs ms ss run e).table)

  -- all its slots were put on the line
  pub run_put : Ok tt ≡ verdict_bytes bs ms ss run → (out bs' ms' ss' : List ℕ) → out ≡ bytes_from (length answers) (run_on (host_bits slots bits) (line_in bs ms ss)).bits
      → line_in bs' ms' ss' ≡ (run_on (host_bits slots bits) (line_in bs ms ss)).line → Lined bs' ms' ss' → slots_left (pos slots) out bs' ms' ss' ≡ slots_bytes bs bits answers slots ms ss
  run_put e out bs' ms' ss' f h t =
      let L = (run_on (host_bits slots bits) (line_in bs ms ss)).line in
      ap (λ (b : List ℕ). slots_left (pos slots) out b ms' ss') (sym t.table.packs)
      ∙ ap packed_run (put_all (length cs) cs slots bits answers ms ss (well_fits e) out (length cs) (unpacked_table bs') ms' ss' f (left_lent bs ms ss bs' ms' ss' t L h) refl)
      ∙ sym (judged_bytes (Ok tt) (verdict_well bs ms ss run e).table e)

  -- it is refused
  pub run_refused : (r : Refusal) → Err r ≡ verdict_bytes bs ms ss run → slots_left (minus (number_of r)) answers bs ms ss ≡ slots_bytes bs bits answers slots ms ss
  run_refused r e = go (is_table bs) refl
    where
      -- the number of a refusal, 0 where there is none
      number : Result (Unit {0}) Refusal → ℕ
      number (Ok tt) = 0
      number (Err q) = number_of q

      go : (t : Bool) → is_table bs ≡ t → slots_left (minus (number_of r)) answers bs ms ss ≡ slots_bytes bs bits answers slots ms ss
      go true t = ap (λ (b : List ℕ). slots_left (minus (number_of r)) answers b ms ss) (sym (table_is bs t)) ∙ sym (judged_bytes (Err r) t e)
      go false t = ap (λ (n : ℕ). slots_left (minus n) answers bs ms ss) (ap number (e ∙ no_verdict t)) ∙ sym (no_bytes t)

-- ---- one slot

module _ (bs : List ℕ) (e : Event) (ms ss : List ℕ) (b : Bool) (h : Ok (plan.Slot b) ≡ plan_bytes bs e ms ss) where
  abbrev chips : List Chip
  chips = unpacked_table bs

  -- an event that comes to a slot is not refused
  other : (r : Refusal) → Ok (plan.Slot b) ≡ Err r → ⊥
  other r z = cc

  off_table : is_table bs ≡ false → plan_bytes bs e ms ss ≡ refused_by8
  unfolding plan_bytes
  off_table t = pick_false (is_table bs) _ _ t

  slot_table : is_table bs ≡ true
  slot_table = go (is_table bs) refl
    where
      go : (t : Bool) → is_table bs ≡ t → is_table bs ≡ true
      go true t = t
      go false t = absurd (other OutOfRange (h ∙ off_table t))

  slot_planned : Ok (plan.Slot b) ≡ plan_of (length chips) chips e ms ss
  unfolding plan_bytes
  slot_planned = h ∙ pick_true (is_table bs) _ _ slot_table

  slot_well : (v : Result (Unit {0}) Refusal) → v ≡ verdict_of (length chips) chips ms ss → Ok tt ≡ verdict_of (length chips) chips ms ss
  unfolding plan_of
  slot_well (Ok tt) k = k
  slot_well (Err r) k = absurd (other r (slot_planned ∙ ap (λ (q : Result (Unit {0}) Refusal). plan_by q (plan_in (take (length chips) chips) e)) (sym k)))

  pub slot_lined : Lined bs ms ss
  slot_lined =
      let f = judged_fit (length chips) chips ms ss (slot_well (verdict_of (length chips) chips ms ss) refl) in
      record { table = record { few = f.few; packs = table_is bs slot_table }; fits = f }

  -- what it leaves, in bytes
  pub slot_done : (v : Bool) (bs' ms' ss' : List ℕ) → v ≡ value_of b (line_in bs ms ss) → line_in bs' ms' ss' ≡ after_by (plan.Slot b) (line_in bs ms ss) → Lined bs' ms' ss'
      → event_left (answer_number (bit v)) bs' ms' ss' ≡ event_bytes bs e ms ss
  unfolding event_bytes event_of
  slot_done v bs' ms' ss' f k t =
      let L = after_by (plan.Slot b) (line_in bs ms ss) in
      (λ j. event_left (answer_number (bit (f j))) (sym t.table.packs j) ms' ss')
      ∙ ap (λ (g : Lent). packed_outcome (outcome (bit (value_of b (line_in bs ms ss))) (length chips) g)) (left_lent bs ms ss bs' ms' ss' t L k)
      ∙ ap (λ (p : Result Plan Refusal). packed_outcome (done_of p (length chips) chips ms ss)) slot_planned
      ∙ sym (pick_true (is_table bs) _ _ slot_table)
