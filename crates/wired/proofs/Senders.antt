-- What chips that send do in a slot, whatever its value.
use Rattle.std.specs.Prelude.{ℕ, ◌<◌, Bool, true, false, ◌≡◌, refl}
use Rattle.std.proofs.Common.{◌∙◌, sym}
use Rattle.chip.specs.Chip.{Whole, takes_of}
use Rattle.line.specs.Line.{value_of}
use Rattle.line.specs.declared.Event.{Event}
use Rattle.line.specs.Attached.{Attached, leaves_of, Stands, line_from}
use Rattle.histories.specs.Histories.{at}
use Rattle.wired.specs.Wired.{Sending, moves_on}
use Rattle.wired.specs.Public.{Writes, chips_take_the_bus, slot_says}

module _ (l : Attached) (s : Stands l) where
  -- "A sending chip moves on whatever the value.": by either bit it is the same after the slot
  pub senders_move_on : (b : Bool) (e : Event) → Writes b e → (i : ℕ) → i < l.count → Sending (at i (line_from l)).chip.level
      → (v : Bool) → at i (line_from (leaves_of e l)) ≡ takes_of v (at i (line_from l))
  senders_move_on b e h i k d v =
      chips_take_the_bus l s b e h (value_of b (line_from l)) (slot_says l s b e h) i k ∙ either (value_of b (line_from l)) v
    where
      w : Whole
      w = at i (line_from l)

      either : (x y : Bool) → takes_of x w ≡ takes_of y w
      either true true = refl
      either true false = moves_on w d
      either false true = sym (moves_on w d)
      either false false = refl
