-- Laws: every act keeps a chip's code and kind.
use Rattle.std.specs.Prelude.{Bool, ◌≡◌, refl}
use Rattle.base.specs.Pick.{pick_both}
use Rattle.chip.specs.Chip.{Whole, rom_slot, function_in, function_slot, memory_slot, switch_slot, level_takes, takes_of, reset_chip, reset_of, power_on_chip, power_on_of}
use Rattle.chip.specs.declared.ChipAfter.{ChipAfter}
use Rattle.chip.specs.declared.Level.{Level}
use Rattle.chip.specs.declared.Level.TheVariants.{Waiting, Rom, FunctionCommand, Memory, Pio}
use Rattle.line.specs.Line.{act_of}
use Rattle.line.specs.declared.Act.{Act}
use Rattle.line.specs.declared.Act.TheVariants.{Take, Reset, PowerOn}

-- code and kind stay
abbrev pub Named : Whole → Whole → Type 0
Named w u = (u.chip.code ≡ w.chip.code) × (u.chip.kind ≡ w.chip.kind)

level_named : (w : Whole) (v : Bool) (l : Level) → Named w (level_takes w v l)
unfolding rom_slot function_slot function_in memory_slot switch_slot
level_named w v Waiting = (refl, refl)
level_named w v (Rom s) = (refl, refl)
level_named w v (FunctionCommand count bits) = pick_both (λ (t : ChipAfter). (t.chip.code ≡ w.chip.code) × (t.chip.kind ≡ w.chip.kind)) _ _ _ (refl, refl)
    (pick_both (λ (t : ChipAfter). (t.chip.code ≡ w.chip.code) × (t.chip.kind ≡ w.chip.kind)) _ _ _ (refl, refl) (pick_both (λ (t : ChipAfter). (t.chip.code ≡ w.chip.code) × (t.chip.kind ≡ w.chip.kind)) _ _ _ (refl, refl) (refl, refl)))
level_named w v (Memory p) = (refl, refl)
level_named w v (Pio p) = (refl, refl)

pub act_named : (a : Act) (w : Whole) → Named w (act_of a w)
unfolding takes_of reset_of reset_chip power_on_of power_on_chip
act_named (Take v) w = level_named w v w.chip.level
act_named Reset w = (refl, refl)
act_named PowerOn w = (refl, refl)
