-- Laws: what the events of a record are refused by is the number of a refusal of the line.
use Rattle.std.specs.Prelude.{ℕ, Bool, List, ◌≡◌, refl, eqb, Result, Ok, Err}
use Rattle.base.specs.Pick.{pick_both}
use Rattle.chip.specs.declared.Chip.{Chip}
use Rattle.line.specs.Attached.{Attached, says_of, verdict_at}
use Rattle.line.specs.Event.{number_of, plan_of, done_of, event_of}
use Rattle.line.specs.Slots.{host_bits}
use Rattle.line.specs.declared.Event.{Event}
use Rattle.line.specs.declared.Plan.{Plan}
use Rattle.line.specs.declared.Plan.TheVariants as plan
use Rattle.line.specs.declared.Refusal.{Refusal}
use Rattle.recording.specs.Playing.{Said, bits, none, Step, said_by, run_step, slots_step, record_step}
use Rattle.recording.specs.declared.Record.{Record}
use Rattle.recording.specs.declared.Record.TheVariants as record_of

-- a refusal of the line of this number, where there is a refusal
abbrev pub RefusalFor : Said → Type 0
RefusalFor (bits bs) = Unit
RefusalFor (none n) = (r : Refusal) × (number_of r ≡ n)

-- of an event, by its plan
plan_refusal : (p : Result Plan Refusal) (n : ℕ) (cs : List Chip) (ms ss : List ℕ) → RefusalFor (said_by (done_of p n cs ms ss).answer)
plan_refusal (Err r) n cs ms ss = (r, refl)
plan_refusal (Ok (plan.Slot b)) n cs ms ss = tt
plan_refusal (Ok plan.Reset) n cs ms ss = tt
plan_refusal (Ok plan.PowerOn) n cs ms ss = tt
plan_refusal (Ok (plan.Outside i x)) n cs ms ss = tt

event_refusal : (e : Event) (l : Attached) → RefusalFor (said_by (says_of e l))
unfolding says_of event_of
event_refusal e l = plan_refusal (plan_of l.count l.lent.chips e l.lent.images l.lent.pads) l.count l.lent.chips l.lent.images l.lent.pads

-- of a run of slots, by its verdict
run_refusal : (v : Result (Unit {0}) Refusal) (hs : List Bool) (l : Attached) → RefusalFor (run_step v hs l).said
run_refusal (Ok tt) hs l = tt
run_refusal (Err r) hs l = (r, refl)

slots_refusal : (count : ℕ) (bytes : List ℕ) (l : Attached) → RefusalFor (slots_step count bytes l).said
unfolding slots_step
slots_refusal count bytes l =
    pick_both (λ (d : Step). RefusalFor d.said) (eqb count 0) _ _ tt
    (run_refusal (verdict_at l) (host_bits count bytes) l)

-- of any record
pub record_refusal : (s : List ℕ) (r : Record) (l : Attached) → RefusalFor (record_step s r l).said
record_refusal s (record_of.Chip code kind) l = tt
record_refusal s (record_of.Slots count from to) l = slots_refusal count _ l
record_refusal s (record_of.Event e) l = event_refusal e l
