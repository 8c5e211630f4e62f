-- Laws: a dispatch over the steps, taken at the step that a match found.
use Rattle.std.specs.Prelude.{ℕ, Bool, ◌≡◌}
use Rattle.base.specs.Along.{along}
use Rattle.rom.specs.Rom.{rom_takes, rom_sends, rom_in_range}
use Rattle.rom.specs.declared.RomResult.{RomResult}
use Rattle.rom.specs.declared.RomStep.{RomStep}
use Rattle.rom.specs.declared.Knows.{Knows}

pub takes_at : (code : ℕ) (rc v : Bool) (k : Knows) (q p : RomStep) (r : RomResult) → q ≡ p → r ≡ rom_takes code rc v k p → r ≡ rom_takes code rc v k q
takes_at code rc v k q p r = along (λ (s : RomStep). rom_takes code rc v k s) q p r

pub sends-at : (code : ℕ) (q p : RomStep) (r : Bool) → q ≡ p → r ≡ rom_sends code p → r ≡ rom_sends code q
sends-at code q p r = along (λ (k : RomStep). rom_sends code k) q p r

pub in_range_at : (q p : RomStep) (r : Bool) → q ≡ p → r ≡ rom_in_range p → r ≡ rom_in_range q
in_range_at q p r = along (λ (k : RomStep). rom_in_range k) q p r
