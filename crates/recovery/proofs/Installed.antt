-- A line whose codes all differ, with a DS28EC20 in one place; and every history leaves it so.
use Rattle.std.specs.Prelude.{ℕ, zero, suc, ◌^◌, ◌<◌, List, [], ◌∷◌, map, ◌≡◌, refl, length}
use Rattle.std.proofs.Common.{arith, not-suc-le-zero, ◌∙◌, sym}
use Rattle.std.proofs.lemmas.List.{length-map}
use Rattle.chip.specs.Chip.{Whole, reset_of}
use Rattle.line.specs.Line.{act_of}
use Rattle.line.specs.declared.Act.TheVariants.{Reset}
use Rattle.line.specs.declared.Event.{Event}
use Rattle.histories.specs.Below.{Codes, first_below, others_below}
use Rattle.histories.specs.Histories.{at, run, codes_of}
use Rattle.line.specs.Named.{act_named}
use Rattle.line.specs.Keeps.{Good}
use Rattle.histories.specs.Kept.{run_codes, run_length}
use Rattle.histories.specs.Place.{at_map}
use Rattle.recovery.specs.Sessions.{opening}
use Rattle.recovery.specs.Stays.{run_stays}
use Rattle.recovery.specs.Opening.{opening_silent}
use Rattle.recovery.proofs.Among.{Own, Among, other_reset}

-- none of the codes is this one
abbrev pub Without : ℕ → List ℕ → Type 0
Without code [] = Unit
Without code (c ∷ cs) = (c ≡ code → ⊥) × Without code cs

-- all of them differ
abbrev pub Differ : List ℕ → Type 0
Differ [] = Unit
Differ (c ∷ cs) = Without c cs × Differ cs

-- a line whose codes all differ; chip i is a DS28EC20, in range, with a memory and a scratchpad of its sizes
pub record Installed (i : ℕ) (L : List Whole) : Type 0 where
  pub attached : i < length L
  pub differ : Differ (codes_of L)
  pub codes : Codes (codes_of L)
  pub kind : (at i L).chip.kind ≡ 1
  pub good : Good (at i L)

-- every history leaves a line so
pub installed_run : (i : ℕ) (es : List Event) (L : List Whole) → Installed i L → Installed i (run es L)
installed_run i es L s =
    let k = run_stays i es L in
    record {
      attached = rw (run_length es L) s.attached;
      differ = rw (run_codes es L) s.differ;
      codes = rw (run_codes es L) s.codes;
      kind = k.kind ∙ s.kind;
      good = k.good s.good;
    }

-- a code that is not on the line is not that of chip i
without_at : (code i : ℕ) (L : List Whole) → i < length L → Without code (codes_of L) → (at i L).chip.code ≡ code → ⊥
without_at code i [] h n e = not-suc-le-zero h
without_at code zero (w ∷ L) h (n, r) e = n e
without_at code (suc i) (w ∷ L) h (n, r) e = without_at code i L (omega arith) r e

-- the code of chip i has 64 bits
pub codes_at : (i : ℕ) (L : List Whole) → i < length L → Codes (codes_of L) → (at i L).chip.code < 2 ^ 64
codes_at i [] h n = absurd (not-suc-le-zero h)
codes_at zero (w ∷ L) h n = first_below _ w.chip.code (codes_of L) n
codes_at (suc i) (w ∷ L) h n = codes_at i L (omega arith) (others_below _ w.chip.code (codes_of L) n)

-- two places of a line whose codes all differ have different codes
differ_at : (i j : ℕ) (L : List Whole) → i < length L → j < length L → Differ (codes_of L) → (j ≡ i → ⊥) → (at j L).chip.code ≡ (at i L).chip.code → ⊥
differ_at i j [] h k d n = absurd (not-suc-le-zero h)
differ_at zero zero (w ∷ L) h k d n = absurd (n refl)
differ_at zero (suc j) (w ∷ L) h k (d, r) n = without_at w.chip.code j L (omega arith) d
differ_at (suc i) zero (w ∷ L) h k (d, r) n = λ e. without_at w.chip.code i L (omega arith) d (sym e)
differ_at (suc i) (suc j) (w ∷ L) h k (d, r) n = differ_at i j L (omega arith) (omega arith) r (λ e. n (omega arith))

-- after a reset, chip i stands among chips of other codes
module _ (i : ℕ) (L : List Whole) (s : Installed i L) where
  -- on the line
  pub reset_among : Among (at i L).chip.code (opening (at i L).chip.code) (reset_of (at i L)) i (map (act_of Reset) L)
  reset_among =
      let e = length-map L (act_of Reset) in
      let g = codes_at i L s.attached s.codes in
      record {
        attached = rw e s.attached;
        own = at_map (act_of Reset) i L s.attached;
        others = λ j h n.
            let k : j < length L = rw e at h in
            rw (at_map (act_of Reset) j L k)
            (other_reset (at i L).chip.code g (at j L) (differ_at i j L s.attached k s.differ n) (codes_at j L k s.codes));
      }

  -- by itself
  pub reset_own : Own (at i L).chip.code (opening (at i L).chip.code) (reset_of (at i L))
  reset_own =
      let k = act_named Reset (at i L) in
      let g = codes_at i L s.attached s.codes in
      record { has_code = k.0; of_64_bits = rw k.0 g; kind = k.1 ∙ s.kind; silent = opening_silent (at i L).chip.code g (at i L) g }
