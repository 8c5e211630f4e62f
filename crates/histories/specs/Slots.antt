-- A run of slots on a table that stands well is the history of that many slot events.
use Rattle.std.specs.Prelude.{ℕ, Bool, true, false, List, [], ◌∷◌, map, ◌≡◌, refl, length, Result, Ok, Err}
use Rattle.line.specs.declared.Refusal.{Refusal}
use Rattle.std.proofs.Common.{◌∙◌, sym}
use Rattle.std.proofs.Math.Path.{ap}
use Rattle.base.specs.Pick.{pick, pick_true, pick_false}
use Rattle.base.specs.Bits.{both}
use Rattle.base.specs.Both.{true_both, both_true'}
use Rattle.chip.specs.Chip.{Whole}
use Rattle.chip.specs.declared.Chip.{Chip}
use Rattle.line.specs.Event.{bit, asked_by, plan_event, plan_on, outside_fits, table_in_range, sizes_fit, answer_plan}
use Rattle.line.specs.Events.{slot_event}
use Rattle.line.specs.Line.{value_of, after_by, after_plan}
use Rattle.line.specs.Slots.{bytes_from, host_bits, run_on as ranOn, run_fits, put, refused, RunOutcome, run_outcome, run_verdict, run_by, slots_of}
use Rattle.line.specs.RunTables.{run_well, put_all}
use Rattle.line.specs.declared.Event.{Event}
use Rattle.line.specs.declared.Plan.{Plan}
use Rattle.line.specs.declared.Plan.TheVariants as plan
use Rattle.line.specs.declared.Refusal.TheVariants.{WrongSize}
use Rattle.line.specs.Attached.{Attached, Stands, line_from, with_line}
use Rattle.histories.specs.Histories.{answer_of, after_of, run, answers}
use Rattle.histories.specs.Sent.{slots}
use Rattle.histories.specs.Joined.{run_on, answers_on, answers_joined, run_left}

-- a run of slots on a table with its buffers
abbrev pub slots_on : ℕ → List ℕ → List ℕ → Attached → RunOutcome
slots_on n bits out l = slots_of l.count l.lent.chips n bits out l.lent.images l.lent.pads

-- what it leaves of them
abbrev pub left_by_run : RunOutcome → Attached
left_by_run o = record { count = o.count; lent = o.lent }

-- its events, one for each of the host's bits
abbrev pub events_of_run : ℕ → List ℕ → List Event
events_of_run n bits = slots (host_bits n bits)

-- a slot comes to itself
pub planned_slot : (b : Bool) (L : List Whole) → plan_on (slot_event b) L ≡ Ok (plan.Slot b)
unfolding plan_event outside_fits asked_by pick
planned_slot true L = refl
planned_slot false L = refl

after_slot : (b : Bool) (L : List Whole) → after_of (slot_event b) L ≡ after_by (plan.Slot b) L
unfolding after_of
after_slot b L = ap (λ (p : Result Plan Refusal). after_plan p L) (planned_slot b L)

answer_slot : (b : Bool) (L : List Whole) → answer_of (slot_event b) L ≡ bit (value_of b L)
unfolding answer_of
answer_slot b L = ap (λ (p : Result Plan Refusal). answer_plan p L) (planned_slot b L)

-- slot events on a line leave what the run leaves, and answer its bits
slots_leave : (bs : List Bool) (L : List Whole) → run (slots bs) L ≡ (ranOn bs L).line
slots_leave [] L = refl
slots_leave (b ∷ bs) L = ap (run (slots bs)) (after_slot b L) ∙ slots_leave bs (after_by (plan.Slot b) L)

slots_answer : (bs : List Bool) (L : List Whole) → answers (slots bs) L ≡ map bit (ranOn bs L).bits
slots_answer [] L = refl
slots_answer (b ∷ bs) L = λ j. answer_slot b L j ∷ (ap (answers (slots bs)) (after_slot b L) ∙ slots_answer bs (after_by (plan.Slot b) L)) j

-- on a table that stands well they leave the table with the line that the run leaves, and answer its bits
module _ (bs : List Bool) (l : Attached) (s : Stands l) where
  pub slots-left : run_on (slots bs) l ≡ with_line l (ranOn bs (line_from l)).line
  slots-left = run_left (slots bs) l s ∙ ap (with_line l) (slots_leave bs (line_from l))

  pub slots_answered : answers_on (slots bs) l ≡ map bit (ranOn bs (line_from l)).bits
  slots_answered = answers_joined (slots bs) l s ∙ slots_answer bs (line_from l)

-- a run is judged well where the table is in range and all sizes fit, and to 5 where one does not
module _ (n : ℕ) (cs : List Chip) (slots : ℕ) (bits out ms ss : List ℕ) where
  pub well_run : table_in_range n cs ≡ true → both (sizes_fit n cs ms ss) (run_fits slots (length bits) (length out)) ≡ true → run_verdict n cs slots bits out ms ss ≡ Ok tt
  unfolding run_verdict
  well_run h k = simp (h, k, pick_true)

  unfit_run : table_in_range n cs ≡ true → both (sizes_fit n cs ms ss) (run_fits slots (length bits) (length out)) ≡ false → run_verdict n cs slots bits out ms ss ≡ Err WrongSize
  unfolding run_verdict
  unfit_run h k = simp (h, k, pick_true, pick_false)

-- a run is a history: each of its events answers a bit, none is refused, and these bits, eight to a byte, are what is answered; as many slots
-- are put on the line as were asked for, and the table and its buffers are left as the history leaves them
pub record IsHistory (es : List Event) (n : ℕ) (out : List ℕ) (l : Attached) (o : RunOutcome) : Type 0 where
  pub bits : List Bool
  pub answered : answers_on es l ≡ map bit bits
  pub comes : o ≡ run_outcome (put n) (bytes_from (length out) bits) (run_on es l).count (run_on es l).lent

module _ (n : ℕ) (bits out : List ℕ) (l : Attached) (s : Stands l) where
  abbrev fits : Bool
  fits = run_fits n (length bits) (length out)

  by_verdict : (v : Result (Unit {0}) Refusal) → run_verdict l.count l.lent.chips n bits out l.lent.images l.lent.pads ≡ v
      → slots_on n bits out l ≡ run_by v l.count l.lent.chips n bits out l.lent.images l.lent.pads
  unfolding slots_of
  by_verdict v e = ap (λ (q : Result (Unit {0}) Refusal). run_by q l.count l.lent.chips n bits out l.lent.images l.lent.pads) e

  -- THEOREM: a run that fits is the history of its slot events
  pub slots_as_events : fits ≡ true → IsHistory (events_of_run n bits) n out l (slots_on n bits out l)
  slots_as_events h =
      let e = well_run l.count l.lent.chips n bits out l.lent.images l.lent.pads s.range (both_true' _ _ s.sizes h) in
      let bs = host_bits n bits in
      let r = ranOn bs (line_from l) in
      let w = run_well l.count l.lent.chips n bits out l.lent.images l.lent.pads (sym e) in
      let left = sym (slots-left bs l s) in
      record {
        bits = r.bits;
        answered = slots_answered bs l s;
        comes = by_verdict (Ok tt) e
            ∙ sym (put_all l.count l.lent.chips n bits out l.lent.images l.lent.pads w _ _ _ _ _ refl refl refl)
            ∙ (λ j. run_outcome (put n) (bytes_from (length out) r.bits) (left j).count (left j).lent);
      }

  -- any other is refused by 5, with nothing changed
  pub slots_refused : fits ≡ false → slots_on n bits out l ≡ run_outcome (refused 5) out l.count l.lent
  slots_refused h =
      by_verdict (Err WrongSize) (unfit_run l.count l.lent.chips n bits out l.lent.images l.lent.pads s.range
      (ap (λ (t : Bool). both t fits) s.sizes ∙ true_both fits ∙ h))
