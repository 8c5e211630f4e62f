-- A line that stands well goes on standing well: refusals 8 and 5 never come up in a history from a good line, and what the public
-- event does to a table and its buffers is what happens to the line of whole chips.
use Rattle.std.specs.Prelude.{ℕ, zero, suc, ◌≡◌, refl, length, take, get_or, Result, Ok, Err}
use Rattle.line.specs.declared.Refusal.{Refusal}
use mathlib.Core.List.{List, [], ◌∷◌, map}
use Rattle.std.proofs.Common.{◌∙◌, sym}
use Rattle.std.proofs.Math.Path.{ap}
use Rattle.chip.specs.Chip.{Whole}
use Rattle.chip.specs.declared.Chip.{Chip}
use Rattle.line.specs.Line.{after_plan}
use Rattle.line.specs.Layout.{chips_of}
use Rattle.chip.specs.With.{no_chip}
use Rattle.line.specs.Event.{plan_in, plan_by, plan_of, plan_on, answer_plan, done_of, event_of}
use Rattle.line.specs.Refusals.{chips_split, well_judged, comes}
use Rattle.line.specs.Prefix.{length_plan}
use Rattle.line.specs.declared.Event.{Event}
use Rattle.line.specs.declared.Plan.{Plan}
use Rattle.line.specs.Attached.{Attached, says_of, leaves_of, left_by, Stands, line_from, with_line}
use Rattle.histories.specs.Histories.{at, codes_of, answer_of, after_of}
use Rattle.line.proofs.Standing.{AllGood, comes_good, line_good, line_length, put_back, line_with, stands_with}

-- the chips of a line, and of its table
pub at_chip : (i : ℕ) (L : List Whole) → (at i L).chip ≡ get_or (chips_of L) i no_chip
at_chip zero [] = refl
at_chip (suc i) [] = refl
at_chip zero (w ∷ L) = refl
at_chip (suc i) (w ∷ L) = at_chip i L

-- the codes of a line are those of its chips
pub codes_chips : (L : List Whole) → codes_of L ≡ map (λ (c : Chip). c.code) (chips_of L)
codes_chips [] = refl
codes_chips (w ∷ L) = ap (λ (cs : List ℕ). w.chip.code ∷ cs) (codes_chips L)

after_good : (e : Event) (L : List Whole) → AllGood L → AllGood (after_of e L)
unfolding after_of
after_good e L g = comes_good (comes (chips_of L) e) L g

pub after_length : (e : Event) (L : List Whole) → length (after_of e L) ≡ length L
unfolding after_of
after_length e L = length_plan (plan_on e L) L

module _ (l : Attached) (s : Stands l) where
  plan_same : (e : Event) → plan_of l.count l.lent.chips e l.lent.images l.lent.pads ≡ plan_on e (line_from l)
  unfolding plan_of
  plan_same e =
      ap (λ (v : Result (Unit {0}) Refusal). plan_by v (plan_in (take l.count l.lent.chips) e)) (well_judged l.count l.lent.chips l.lent.images l.lent.pads s.range s.sizes)
      ∙ ap (λ (cs : List Chip). plan_in cs e) (sym (chips_split (take l.count l.lent.chips) l.lent.images l.lent.pads))

  done_answer : (p : Result Plan Refusal) → (done_of p l.count l.lent.chips l.lent.images l.lent.pads).answer ≡ answer_plan p (line_from l)
  done_answer (Ok p) = refl
  done_answer (Err r) = refl

  done_leaves : (p : Result Plan Refusal) → left_by (done_of p l.count l.lent.chips l.lent.images l.lent.pads) ≡ with_line l (after_plan p (line_from l))
  done_leaves (Ok p) = refl
  done_leaves (Err r) = sym (put_back l s)

  -- the public event answers what happens on the line of whole chips ..
  pub says_is : (e : Event) → says_of e l ≡ answer_of e (line_from l)
  unfolding says_of event_of answer_of
  says_is e = done_answer (plan_of l.count l.lent.chips e l.lent.images l.lent.pads) ∙ ap (λ (p : Result Plan Refusal). answer_plan p (line_from l)) (plan_same e)

  -- .. and leaves it in the table and the buffers
  pub leaves_is : (e : Event) → leaves_of e l ≡ with_line l (after_of e (line_from l))
  unfolding leaves_of event_of after_of
  leaves_is e =
      done_leaves (plan_of l.count l.lent.chips e l.lent.images l.lent.pads) ∙ ap (λ (p : Result Plan Refusal). with_line l (after_plan p (line_from l))) (plan_same e)

-- a table that stands well stands well after every event, refused ones counted in
pub stands_after : (l : Attached) (e : Event) → Stands l → Stands (leaves_of e l)
stands_after l e s =
    rw (leaves_is l s e) (stands_with l s (after_of e (line_from l)) (after_good e (line_from l) (line_good l s)) (after_length e (line_from l) ∙ line_length l s))

-- the line of the table after an event is the line after the event
pub line_after : (l : Attached) (e : Event) → Stands l → line_from (leaves_of e l) ≡ after_of e (line_from l)
line_after l e s =
    ap line_from (leaves_is l s e)
    ∙ line_with l s (after_of e (line_from l)) (after_good e (line_from l) (line_good l s)) (after_length e (line_from l) ∙ line_length l s)
