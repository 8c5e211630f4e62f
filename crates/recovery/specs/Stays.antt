-- What no event changes: a chip's code and kind, its good standing, and all of a DS28EC20's record that a session does not set.
use Rattle.std.specs.Prelude.{ℕ, ◌≤◌, Bool, true, false, List, ◌≡◌, refl}
use Rattle.std.proofs.Common.{true≢false, ◌∙◌, ap, sym}
use Rattle.base.specs.Pick.{pick, pick_false, pick_both, pick_if}
use Rattle.base.specs.Both.{both_holds}
use Rattle.ds2413.specs.Switch.{phase_in_range}
use Rattle.ds2413.specs.declared.Switch.{Switch}
use Rattle.scratchpad.specs.Registers.{registers}
use Rattle.chip.specs.Kinds.{has_switch, takes_outside}
use Rattle.chip.specs.With.{with_rc, with_level, with_registers, with_switch}
use Rattle.chip.specs.declared.ChipAfter.{ChipAfter}
use Rattle.chip.specs.Chip.{Whole, rom_slot, function_in, function_slot, memory_slot, level_takes, takes_of, reset_chip, reset_of, power_on_chip, power_on_of, outside_of}
use Rattle.chip.specs.Range.{level_in_range}
use Rattle.chip.specs.declared.Chip.{Chip}
use Rattle.chip.specs.declared.Level.{Level}
use Rattle.chip.specs.declared.Level.TheVariants.{Waiting, Rom, FunctionCommand, Memory, Pio}
use Rattle.line.specs.Line.{act_of}
use Rattle.line.specs.declared.Act.{Act}
use Rattle.line.specs.declared.Act.TheVariants.{Take, Reset, PowerOn}
use Rattle.line.specs.declared.Event.{Event}
use Rattle.histories.specs.Histories.{at, run}
use Rattle.line.specs.Named.{act_named}
use Rattle.line.specs.Keeps.{Good, act_good, outside_good, outside_named}
use Rattle.histories.specs.Kept.{Each, each_at, run_kept}

-- a chip's record without what a session sets: its level, RC, T and E/S
abbrev pub bare : Chip → Chip
bare c = with_level Waiting (with_rc false (with_registers (registers 0 0) c))

-- from a chip to the same chip later
pub record Stays (w u : Whole) : Type 0 where
  pub code : u.chip.code ≡ w.chip.code
  pub kind : u.chip.kind ≡ w.chip.kind
  pub good : Good w → Good u
  pub rest : Good w → w.chip.kind ≡ 1 → bare u.chip ≡ bare w.chip

-- a chip stays what it is
stays_same : (w : Whole) → Stays w w
stays_same w = record { code = refl; kind = refl; good = λ g. g; rest = λ g e. refl }

-- and from one time to the next
stays_onto : (w u x : Whole) → Stays w u → Stays u x → Stays w x
stays_onto w u x p q =
    record {
      code = q.code ∙ p.code;
      kind = q.kind ∙ p.kind;
      good = λ g. q.good (p.good g);
      rest = λ g e. q.rest (p.good g) (p.kind ∙ e) ∙ p.rest g e;
    }

-- a DS28EC20 has no latches
pub not_switch : (k : ℕ) → k ≡ 1 → has_switch k ≡ false
unfolding has_switch pick
not_switch k e = ap has_switch e

no_switch : (k : ℕ) → k ≡ 1 → has_switch k ≡ true → ⊥
no_switch k e f = true≢false (sym f ∙ not_switch k e)

-- and event 4 does not take it
pub not_taken : (k : ℕ) → k ≡ 1 → takes_outside k ≡ true → ⊥
unfolding takes_outside
not_taken k e f = no_switch k e f

-- a function command leaves the rest of a DS28EC20
function_rest : (c : Chip) (b : ℕ) → c.kind ≡ 1 → bare (function_in c b).chip ≡ bare c
unfolding function_in
function_rest c b e =
    pick_both (λ (t : ChipAfter). bare t.chip ≡ bare c) _ _ _ refl
    (pick_if (λ (t : ChipAfter). bare t.chip ≡ bare c) _ _ _ (λ f. absurd (no_switch c.kind e f)) (λ f. refl))

-- a slot leaves the rest of a DS28EC20
level_rest : (w : Whole) (v : Bool) (l : Level) → level_in_range w.chip.kind l ≡ true → w.chip.kind ≡ 1 → bare (level_takes w v l).chip ≡ bare w.chip
unfolding rom_slot function_slot memory_slot
level_rest w v Waiting h e = refl
level_rest w v (Rom s) h e = refl
level_rest w v (FunctionCommand count bits) h e = pick_both (λ (t : ChipAfter). bare t.chip ≡ bare w.chip) _ _ _ refl (function_rest w.chip _ e)
level_rest w v (Memory p) h e = refl
level_rest w v (Pio p) h e = absurd (no_switch w.chip.kind e (both_holds (has_switch w.chip.kind) (phase_in_range p) h).0)

-- so does every act
act_rest : (a : Act) (w : Whole) → Good w → w.chip.kind ≡ 1 → bare (act_of a w).chip ≡ bare w.chip
unfolding takes_of reset_of reset_chip power_on_of power_on_chip
act_rest (Take v) w g e = level_rest w v w.chip.level g.range.place e
act_rest Reset w g e = refl
act_rest PowerOn w g e = ap (λ (s : Switch). bare (with_switch s w.chip)) (pick_false (has_switch w.chip.kind) _ _ (not_switch w.chip.kind e))

-- every act
act_stays : (a : Act) (w : Whole) → Stays w (act_of a w)
act_stays a w = record { code = (act_named a w).0; kind = (act_named a w).1; good = act_good a w; rest = act_rest a w }

-- outside levels of a DS2413
outside_stays : (l : ℕ) (w : Whole) → takes_outside w.chip.kind ≡ true → l ≤ 3 → Stays w (outside_of l w)
outside_stays l w e h =
    record { code = (outside_named l w).0; kind = (outside_named l w).1; good = outside_good l w h; rest = λ g k. absurd (not_taken w.chip.kind k e) }

-- every chip over a history
run_each : (es : List Event) (L : List Whole) → Each Stays L (run es L)
run_each es L = run_kept Stays stays_same stays_onto act_stays outside_stays es L

-- chip i over a history
pub run_stays : (i : ℕ) (es : List Event) (L : List Whole) → Stays (at i L) (at i (run es L))
run_stays i es L = each_at (stays_same _) i (run_each es L)
