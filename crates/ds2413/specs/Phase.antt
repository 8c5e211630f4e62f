-- Laws: a dispatch over the phases, taken at the phase that a match found.
use Rattle.std.specs.Prelude.{Bool, ◌≡◌}
use Rattle.base.specs.Along.{along}
use Rattle.ds2413.specs.Switch.{switch_takes, switch_sends, phase_in_range}
use Rattle.ds2413.specs.declared.Switch.{Switch}
use Rattle.ds2413.specs.declared.SwitchAfter.{SwitchAfter}
use Rattle.ds2413.specs.declared.SwitchPhase.{SwitchPhase}

pub takes_at : (c : Switch) (v : Bool) (q p : SwitchPhase) (s : SwitchAfter) → q ≡ p → s ≡ switch_takes c v p → s ≡ switch_takes c v q
takes_at c v q p s = along (λ (k : SwitchPhase). switch_takes c v k) q p s

pub sends-at : (q p : SwitchPhase) (s : Bool) → q ≡ p → s ≡ switch_sends p → s ≡ switch_sends q
sends-at q p s = along (λ (k : SwitchPhase). switch_sends k) q p s

pub in_range_at : (q p : SwitchPhase) (s : Bool) → q ≡ p → s ≡ phase_in_range p → s ≡ phase_in_range q
in_range_at q p s = along (λ (k : SwitchPhase). phase_in_range k) q p s
