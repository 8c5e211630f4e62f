-- What every history keeps: a relation between a chip before and after that each act and each change of outside levels keeps holds
-- between every chip before a history and after it. So the codes, the kinds and the number of the chips are kept.
use Rattle.std.specs.Prelude.{ℕ, zero, suc, ◌≤◌, true, false, List, [], ◌∷◌, map, ◌≡◌, refl, length, Result}
use Rattle.line.specs.declared.Refusal.{Refusal}
use Rattle.std.proofs.Common.{◌∙◌, ap}
use Rattle.base.specs.Bits.{bit_of}
use Rattle.chip.specs.Kinds.{takes_outside}
use Rattle.chip.specs.Chip.{Whole, outside_of}
use Rattle.line.specs.Line.{value_of, act_of, outside_at, after_plan}
use Rattle.line.specs.Layout.{chips_of}
use Rattle.line.specs.Refusals.{Comes, slot, reset, power_on, outside, refused, comes}
use Rattle.chip.specs.declared.Chip.{Chip}
use Rattle.line.specs.declared.Event.{Event}
use Rattle.line.specs.declared.Act.{Act}
use Rattle.line.specs.declared.Plan.{Plan}
use Rattle.line.specs.declared.Act.TheVariants.{Take, Reset, PowerOn}
use Rattle.line.specs.Attached.{Attached, Stands, line_from}
use Rattle.histories.specs.Histories.{no_whole, at, codes_of, kinds_of, after_of, run}
use Rattle.chip.specs.RangeKept.{Clear, clear_bit}
use Rattle.line.specs.Named.{Named, act_named}
use Rattle.line.specs.Keeps.{outside_named}
use Rattle.line.proofs.Standing.{AllGood, line_good}
use Rattle.histories.specs.Standing.{at_chip, after_length}
use Rattle.histories.specs.Joined.{run_on, run_joined}
use Rattle.histories.specs.Calls.{Call, calls_on, events_of_calls, calls_run, stands_calls}

-- two lines of one length, chip by chip
pub data Each (R : Whole → Whole → Type 0) : List Whole → List Whole → Type 0 where
  none : Each R [] []
  more : {w u : Whole} {L M : List Whole} → R w u → Each R L M → Each R (w ∷ L) (u ∷ M)

-- chip i of both
pub each_at : {R : Whole → Whole → Type 0} {L M : List Whole} → R no_whole no_whole → (i : ℕ) → Each R L M → R (at i L) (at i M)
each_at s i none = s
each_at s zero (more r e) = r
each_at s (suc i) (more r e) = each_at s i e

-- what the relation says is the same of two chips is the same all along
each_map : {R : Whole → Whole → Type 0} {L M : List Whole} (f : Whole → ℕ) → ((w u : Whole) → R w u → f u ≡ f w) → Each R L M → map f M ≡ map f L
each_map f k none = refl
each_map f k (more {w = w} {u = u} r e) = λ j. k w u r j ∷ each_map f k e j

module _ (R : Whole → Whole → Type 0) (same : (w : Whole) → R w w) (onto : (w u x : Whole) → R w u → R u x → R w x)
    (act : (a : Act) (w : Whole) → R w (act_of a w)) (level : (l : ℕ) (w : Whole) → takes_outside w.chip.kind ≡ true → l ≤ 3 → R w (outside_of l w)) where
  -- a line and itself
  each_same : (L : List Whole) → Each R L L
  each_same [] = none
  each_same (w ∷ L) = more (same w) (each_same L)

  -- from one line to the next
  each_onto : {L M N : List Whole} → Each R L M → Each R M N → Each R L N
  each_onto none none = none
  each_onto (more {w = w} {u = u} r e) (more {u = x} q f) = more (onto w u x r q) (each_onto e f)

  -- an act of every chip
  each_act : (a : Act) (L : List Whole) → Each R L (map (act_of a) L)
  each_act a [] = none
  each_act a (w ∷ L) = more (act a w) (each_act a L)

  -- new outside levels of a DS2413
  each_level : (i l : ℕ) (L : List Whole) → takes_outside (at i L).chip.kind ≡ true → l ≤ 3 → Each R L (outside_at i l L)
  each_level i l [] e h = none
  each_level zero l (w ∷ L) e h = more (level l w e h) (each_same L)
  each_level (suc i) l (w ∷ L) e h = more (same w) (each_level i l L e h)

  -- one event
  comes_kept : (L : List Whole) {q : Result Plan Refusal} → Comes (chips_of L) q → Each R L (after_plan q L)
  comes_kept L (slot b) = each_act (Take (value_of b L)) L
  comes_kept L reset = each_act Reset L
  comes_kept L power_on = each_act PowerOn L
  comes_kept L (outside i l h k m) = each_level i l L (ap (λ (c : Chip). takes_outside c.kind) (at_chip i L) ∙ k) m
  comes_kept L (refused r) = each_same L

  after_kept : (e : Event) (L : List Whole) → Each R L (after_of e L)
  unfolding after_of
  after_kept e L = comes_kept L (comes (chips_of L) e)

  -- any history
  pub run_kept : (es : List Event) (L : List Whole) → Each R L (run es L)
  run_kept [] L = each_same L
  run_kept (e ∷ es) L = each_onto (after_kept e L) (run_kept es (after_of e L))

-- every chip over a history keeps its code and its kind
run_named : (es : List Event) (L : List Whole) → Each Named L (run es L)
run_named es L = run_kept Named (λ w. (refl, refl)) (λ w u x r q. (q.0 ∙ r.0, q.1 ∙ r.1)) act_named (λ l w e h. outside_named l w) es L

-- so a history leaves the codes of a line
pub run_codes : (es : List Event) (L : List Whole) → codes_of (run es L) ≡ codes_of L
run_codes es L = each_map (λ (w : Whole). w.chip.code) (λ w u s. s.0) (run_named es L)

-- its kinds
pub run_kinds : (es : List Event) (L : List Whole) → kinds_of (run es L) ≡ kinds_of L
run_kinds es L = each_map (λ (w : Whole). w.chip.kind) (λ w u s. s.1) (run_named es L)

-- and the number of its chips
pub run_length : (es : List Event) (L : List Whole) → length (run es L) ≡ length L
run_length [] L = refl
run_length (e ∷ es) L = run_length es (after_of e L) ∙ after_length e L

-- a history of the public event leaves the codes of a table's line, where the table stands well
pub run_on_codes : (es : List Event) (l : Attached) → Stands l → codes_of (line_from (run_on es l)) ≡ codes_of (line_from l)
run_on_codes es l s = ap codes_of (run_joined es l s) ∙ run_codes es (line_from l)

-- and so do calls with searches and runs of slots among them
pub calls_codes : (cs : List Call) (l : Attached) → Stands l → codes_of (line_from (calls_on cs l)) ≡ codes_of (line_from l)
calls_codes cs l s = ap (λ (k : Attached). codes_of (line_from k)) (calls_run cs l s) ∙ run_on_codes (events_of_calls cs l) l s

-- bit 6 of E/S is 0 in every chip of a good line, and at a place past it
good_clear : (i : ℕ) (L : List Whole) → AllGood L → Clear (at i L).chip.registers.es
good_clear i [] g = refl
good_clear zero (w ∷ L) (g, h) = g.range.clear
good_clear (suc i) (w ∷ L) (g, h) = good_clear i L h

-- THEOREM: "Bit 6 (BS in the chart) is never set by a rule here and reads 0.": of E/S of every chip, after any calls on a table that stands well
pub bit_6 : (cs : List Call) (l : Attached) → Stands l → (i : ℕ) → bit_of (at i (line_from (calls_on cs l))).chip.registers.es 6 ≡ false
bit_6 cs l s i = clear_bit _ (good_clear i (line_from (calls_on cs l)) (line_good (calls_on cs l) (stands_calls cs l s)))
