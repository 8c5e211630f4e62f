-- A session that opens by matching the code of chip i: on the line the chip comes to what it comes to alone.
use Rattle.std.specs.Prelude.{ℕ, ◌<◌, Bool, true, false, List, [], ◌∷◌, ◌++◌, map, ◌≡◌, refl, length, Result}
use Rattle.std.proofs.Common.{◌∙◌, sym, subst}
use Rattle.std.proofs.Math.Path.{ap}
use Rattle.base.specs.Pick.{pick}
use Rattle.base.specs.Both.{both_holds}
use Rattle.rom.specs.declared.RomStep.TheVariants.{Command}
use Rattle.chip.specs.Chip.{Whole, level_reset, takes_of, sends_of, reset_chip, reset_of}
use Rattle.chip.specs.declared.Level.TheVariants.{Rom}
use Rattle.line.specs.Line.{act_of}
use Rattle.line.specs.Refusals.{presence}
use Rattle.line.specs.Event.{Answered, bit, asked_by, plan_event, outside_fits}
use Rattle.line.specs.Events.{slot_event, reset_event}
use Rattle.line.specs.declared.Act.TheVariants.{Reset}
use Rattle.line.specs.declared.Plan.{Plan}
use Rattle.line.specs.declared.Refusal.{Refusal}
use Rattle.histories.specs.Histories.{at, answer_of, after_of, run, answers, came}
use Rattle.histories.specs.Fed.{fed, sends_nothing}
use Rattle.histories.specs.Sent.{slots}
use Rattle.histories.specs.Slots.{planned_slot}
use Rattle.recovery.specs.Sessions.{opening, Addressed, slotted, match_session}
use Rattle.recovery.proofs.Among.{Own, Among, own_run, own_answers, to_comes, both_one, alone, present, alone_answers}
use Rattle.recovery.specs.Goes.{Goes, of_kind, ec20}
use Rattle.recovery.proofs.Installed.{Installed, reset_among, reset_own}

-- the host's own slots come to themselves
pub came_slots : (vs : List Bool) (L : List Whole) → came (slots vs) L ≡ slotted vs
came_slots [] L = refl
came_slots (v ∷ vs) L = let rest = came_slots vs (after_of (slot_event v) L) in λ j. planned_slot v L j ∷ rest j

-- slots of the bits to come, and of any bits after them, address the code
slotted_addressed : (code : ℕ) (bs vs : List Bool) → Addressed code bs (slotted (bs ++ vs))
slotted_addressed code [] [] = tt
slotted_addressed code [] (v ∷ vs) = (tt, slotted_addressed code [] vs)
slotted_addressed code (b ∷ bs) vs = (refl, slotted_addressed code bs vs)

pub addressed_slots : (code : ℕ) (bs vs : List Bool) (L : List Whole) → Addressed code bs (came (slots (bs ++ vs)) L)
addressed_slots code bs vs L = subst (Addressed code bs) (sym (came_slots (bs ++ vs) L)) (slotted_addressed code bs vs)

-- after them nothing is to come
comes_slots : (code : ℕ) (bs vs : List Bool) → to_comes code bs (slotted (bs ++ vs)) ≡ []
comes_slots code [] [] = refl
comes_slots code [] (v ∷ vs) = comes_slots code [] vs
comes_slots code (b ∷ bs) vs = comes_slots code bs vs

-- a chip that sends nothing in slots of given bits takes, alone, just these ..
fed_alone : (vs : List Bool) (w : Whole) → sends_nothing vs w ≡ true → own_run (slotted vs) w ≡ fed vs w
fed_alone [] w s = refl
fed_alone (v ∷ vs) w s =
    let h = both_holds (sends_of w) (sends_nothing vs (takes_of v w)) s in
    ap (λ (b : Bool). own_run (slotted vs) (takes_of b w)) (both_one (sends_of w) v h.0) ∙ fed_alone vs (takes_of v w) h.1

-- .. and each is answered as the host wrote it
answered_alone : (vs : List Bool) (w : Whole) → sends_nothing vs w ≡ true → own_answers (slotted vs) w ≡ map bit vs
answered_alone [] w s = refl
answered_alone (v ∷ vs) w s =
    let h = both_holds (sends_of w) (sends_nothing vs (takes_of v w)) s in
    ap (λ (b : Bool). bit b ∷ own_answers (slotted vs) (takes_of b w)) (both_one (sends_of w) v h.0)
    ∙ ap (λ (l : List Answered). bit v ∷ l) (answered_alone vs (takes_of v w) h.1)

-- what a reset leaves
pub reset_after : (L : List Whole) → after_of reset_event L ≡ map (act_of Reset) L
unfolding after_of plan_event outside_fits asked_by pick
reset_after L = refl

-- what it answers where a chip is attached
reset_answer : (i : ℕ) (L : List Whole) → i < length L → answer_of reset_event L ≡ bit false
unfolding answer_of plan_event outside_fits asked_by pick
reset_answer i L h = ap bit (presence L ∙ present i L h)

-- a DS28EC20 after a reset, with its kind written out
module _ (w : Whole) (e : w.chip.kind ≡ 1) where
  pub reset_is : reset_of w ≡ ec20 w.chip w.memory (Rom (Command 0 0)) w.chip.rc (level_reset w.chip w.chip.level) w.pad
  unfolding reset_of reset_chip
  reset_is = ap (λ (k : ℕ). of_kind w.chip w.memory k (Rom (Command 0 0)) w.chip.rc (level_reset w.chip w.chip.level) w.pad) e

-- a session that matches the code of chip i, silent all along, by which it comes, alone, to u
module _ (i : ℕ) (L : List Whole) (s : Installed i L) (code : ℕ) (e : (at i L).chip.code ≡ code) (vs : List Bool) (u : Whole)
    (goes : Goes (opening code ++ vs) (reset_of (at i L)) u) where
  -- chip i after the reset
  own : Own code (opening code) (reset_of (at i L))
  own = subst (λ (c : ℕ). Own c (opening c) (reset_of (at i L))) e (reset_own i L s)

  -- the line after the reset
  among : Among code (opening code) (reset_of (at i L)) i (map (act_of Reset) L)
  among = subst (λ (c : ℕ). Among c (opening c) (reset_of (at i L)) i (map (act_of Reset) L)) e (reset_among i L s)

  -- THEOREM: on the line chip i comes to u, among chips of other codes that wait
  pub session_among : Among code [] u i (run (match_session code vs) L)
  session_among =
      let sent = opening code ++ vs in
      let K = map (act_of Reset) L in
      subst (λ (M : List Whole). Among code [] u i (run (slots sent) M)) (sym (reset_after L))
      (subst (λ (w : Whole). Among code [] w i (run (slots sent) K)) (fed_alone sent _ goes.silent ∙ goes.comes)
      (subst (λ (bs : List Bool). Among code bs (own_run (slotted sent) (reset_of (at i L))) i (run (slots sent) K)) (comes_slots code (opening code) vs)
      (subst (λ (ps : List (Result Plan Refusal)). Among code (to_comes code (opening code) ps) (own_run ps (reset_of (at i L))) i (run (slots sent) K)) (came_slots sent K)
      (alone code (opening code) (slots sent) (reset_of (at i L)) i K (addressed_slots code (opening code) vs K) own among))))

  -- THEOREM: and every bit of the session is on the line as the host wrote it
  pub session_answers : answers (match_session code vs) L ≡ bit false ∷ map bit (opening code ++ vs)
  session_answers =
      let sent = opening code ++ vs in
      ap (λ (a : Answered). a ∷ answers (slots sent) (after_of reset_event L)) (reset_answer i L s.attached)
      ∙ ap (λ (K : List Whole). bit false ∷ answers (slots sent) K) (reset_after L)
      ∙ ap (λ (l : List Answered). bit false ∷ l)
      (alone_answers code (opening code) (slots sent) (reset_of (at i L)) i (map (act_of Reset) L) (addressed_slots code (opening code) vs _) own among
      ∙ ap (λ (ps : List (Result Plan Refusal)). own_answers ps (reset_of (at i L))) (came_slots sent (map (act_of Reset) L))
      ∙ answered_alone sent _ goes.silent)
