-- A chip that carries out no copy keeps its memory.
use Rattle.std.specs.Prelude.{ℕ, Bool, false, List, ◌≡◌}
use Rattle.std.proofs.Common.{true≢false, ◌∙◌}
use Rattle.std.proofs.Math.Path.{refl}
use Rattle.scratchpad.specs.declared.Deed.{Deed}
use Rattle.scratchpad.specs.declared.Deed.TheVariants.{Nothing, Put, Copy}
use Rattle.memory.specs.Memory.{done}
use Rattle.chip.specs.Chip.{Whole, chip_map, level_seen, level_takes_by, takes_of, reset_of, power_on_of, outside_of}
use Rattle.line.specs.Line.{value_of, act_of}
use Rattle.line.specs.declared.Event.{Event}
use Rattle.line.specs.declared.Act.TheVariants.{Take, Reset, PowerOn}
use Rattle.histories.specs.Histories.{at, run}
use Rattle.histories.specs.AtSlots.{slots_kept}
use Rattle.recovery.specs.CarriedOut.{is_copy, carries_out, NoCopy}

-- a slot that carries out no copy leaves the memory
module _ (w : Whole) where
  -- by the deed
  deed_stays : (d : Deed) → is_copy d ≡ false → (done (chip_map w.chip) w.memory w.pad d).memory ≡ w.memory
  deed_stays Nothing e = refl
  deed_stays (Put offset b) e = refl
  deed_stays (Copy t n) e = absurd (true≢false e)

  -- by the slot
  slot_stays : (v : Bool) → carries_out v w ≡ false → (act_of (Take v) w).memory ≡ w.memory
  unfolding takes_of carries_out
  slot_stays v e = let l = w.chip.level in deed_stays (level_takes_by w.chip v (level_seen w l) l).deed e

  -- a reset leaves the memory
  reset_stays : (act_of Reset w).memory ≡ w.memory
  unfolding reset_of
  reset_stays = refl

  -- power on leaves the memory
  power_stays : (act_of PowerOn w).memory ≡ w.memory
  unfolding power_on_of
  power_stays = refl

  -- outside levels leave the memory
  outside_stay : (l : ℕ) → (outside_of l w).memory ≡ w.memory
  unfolding outside_of
  outside_stay l = refl

-- THEOREM: a chip that carries out no copy in a history has the memory that it had
pub no_copy : (i : ℕ) (es : List Event) (L : List Whole) → NoCopy i es L → (at i (run es L)).memory ≡ (at i L).memory
no_copy i es L n =
    slots_kept i (λ (w : Whole). w.memory ≡ (at i L).memory) _
    (λ b K h q. slot_stays (at i K) (value_of b K) q ∙ h) (λ w h. reset_stays w ∙ h) (λ w h. power_stays w ∙ h) (λ l w h. outside_stay w l ∙ h)
    es L refl n
