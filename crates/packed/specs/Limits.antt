-- Form: include/toemsakun.h's table of steps, by numbers alone: which chips can be in a step, and the most that w, a, b and c then hold.
use Rattle.std.specs.Prelude.{ℕ, Bool, true, eqb, ltb, leb}
use Rattle.base.specs.Pick.{pick}
use Rattle.base.specs.Bits.{both}
use Rattle.memory.specs.Part.{map_of}
use Rattle.chip.specs.Kinds.{part_of, has_memory, has_switch}
use Rattle.packed.specs.declared.Step.{Step}
use Rattle.packed.specs.declared.Limits.{Limits}

-- the most of w, a, b and c; what a step does not name is 0, and what may be anything is at most all ones
abbrev pub up_to : ℕ → ℕ → ℕ → ℕ → Limits
up_to w a b c = record { w = w; a = a; b = b; c = c }

-- steps 1 to 4, of any chip; else 5
unfoldable pub any_limits : ℕ → Limits
any_limits number =
    pick (eqb number 1) (up_to 0 7 255 0)
    (pick (eqb number 2) (up_to 0 63 0 0)
    (pick (eqb number 3) (up_to 0 63 0 0)
    (pick (eqb number 4) (up_to 0 63 2 0)
    (up_to 0 7 255 0))))

-- steps 17 to 26, of a chip with a memory whose last address is given; else 16
unfoldable pub memory_limits : ℕ → ℕ → Limits
memory_limits last number =
    pick (eqb number 17) (up_to 65535 15 0 0)
    (pick (eqb number 18) (up_to 65535 31 7 255)
    (pick (eqb number 19) (up_to 65535 15 0 0)
    (pick (eqb number 20) (up_to 0 23 0 0)
    (pick (eqb number 21) (up_to 65535 31 7 0)
    (pick (eqb number 22) (up_to 65535 15 0 0)
    (pick (eqb number 23) (up_to 65535 7 255 0)
    (pick (eqb number 24) (up_to 0 1 0 0)
    (pick (eqb number 25) (up_to 65535 15 0 0)
    (pick (eqb number 26) (up_to last 7 0 0)
    (up_to 0 0 0 0))))))))))

-- steps 33 to 36, of a chip with a switch; else 32
unfoldable pub switch_limits : ℕ → Limits
switch_limits number =
    pick (eqb number 33) (up_to 0 7 255 0)
    (pick (eqb number 34) (up_to 65535 15 0 0)
    (pick (eqb number 35) (up_to 0 7 0 0)
    (pick (eqb number 36) (up_to 0 7 255 0)
    (up_to 0 0 0 0))))

-- of a chip of a kind, in a step that it can be in
unfoldable pub limits_of : ℕ → ℕ → Limits
limits_of kind number =
    pick (ltb number 6) (any_limits number)
    (pick (ltb number 27) (memory_limits (map_of (part_of kind)).last number)
    (switch_limits number))

-- a chip of a kind can be in a step
unfoldable pub can_be : ℕ → ℕ → Bool
can_be kind number =
    pick (ltb number 6) true
    (pick (ltb number 27) (both (ltb 15 number) (has_memory kind))
    (both (both (ltb number 37) (ltb 31 number)) (has_switch kind)))

-- no field of a step is over its limit
unfoldable pub within : Step → Limits → Bool
within s most =
    both (leb s.w most.w)
    (both (leb s.a most.a)
    (both (leb s.b most.b)
    (leb s.c most.c)))

-- a chip of a kind can be in a step with such fields; one that waits for a reset needs none
unfoldable pub step_stands : ℕ → Step → Bool
step_stands kind s =
    pick (eqb s.number 0) (within s (up_to 0 0 0 0))
    (both (can_be kind s.number) (within s (limits_of kind s.number)))
