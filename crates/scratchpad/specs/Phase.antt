-- Laws: a dispatch over the phases, taken at the phase that a match found.
use Rattle.std.specs.Prelude.{ℕ, Bool, ◌≡◌}
use Rattle.base.specs.Along.{along}
use Rattle.scratchpad.specs.Scratchpad.{memory_takes, memory_sends, memory_reset, memory_in_range, hand_of}
use Rattle.scratchpad.specs.declared.Registers.{Registers}
use Rattle.scratchpad.specs.declared.Sight.{Sight}
use Rattle.scratchpad.specs.declared.MemoryAfter.{MemoryAfter}
use Rattle.scratchpad.specs.declared.Hand.{Hand}
use Rattle.scratchpad.specs.declared.MemoryPhase.{MemoryPhase}

pub takes_at : (r : Registers) (v : Bool) (see : Sight) (q p : MemoryPhase) (s : MemoryAfter) → q ≡ p → s ≡ memory_takes r v see p → s ≡ memory_takes r v see q
takes_at r v see q p s = along (λ (k : MemoryPhase). memory_takes r v see k) q p s

pub sends-at : (r : Registers) (see : Sight) (q p : MemoryPhase) (s : Bool) → q ≡ p → s ≡ memory_sends r see p → s ≡ memory_sends r see q
sends-at r see q p s = along (λ (k : MemoryPhase). memory_sends r see k) q p s

pub reset_at : (r : Registers) (cut : Bool) (q p : MemoryPhase) (s : Registers) → q ≡ p → s ≡ memory_reset r cut p → s ≡ memory_reset r cut q
reset_at r cut q p s = along (λ (k : MemoryPhase). memory_reset r cut k) q p s

pub in_range_at : (last : ℕ) (q p : MemoryPhase) (s : Bool) → q ≡ p → s ≡ memory_in_range last p → s ≡ memory_in_range last q
in_range_at last q p s = along (λ (k : MemoryPhase). memory_in_range last k) q p s

pub hand_at : (t : ℕ) (q p : MemoryPhase) (s : Hand) → q ≡ p → s ≡ hand_of t p → s ≡ hand_of t q
hand_at t q p s = along (λ (k : MemoryPhase). hand_of t k) q p s
