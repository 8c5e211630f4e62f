-- Document 01, "DS2413".
use Rattle.std.specs.Prelude.{ℕ, ◌+◌, ◌-◌, ◌*◌, ◌/◌, ◌%◌, Bool, true, eqb, ltb, leb}
use Rattle.base.specs.Pick.{pick}
use Rattle.base.specs.Bits.{bit_of, both, filled}
use Rattle.ds2413.specs.declared.Switch.{Switch}
use Rattle.ds2413.specs.declared.SwitchAfter.{SwitchAfter}
use Rattle.ds2413.specs.declared.SwitchPhase.{SwitchPhase}
use Rattle.ds2413.specs.declared.SwitchPhase.TheVariants.{Ones, Status, Take, Confirm, Show}

-- the latches and the outside levels, bit 0 for PIOA and bit 1 for PIOB
abbrev pub switch : ℕ → ℕ → Switch
switch latches outside = record { latches = latches; outside = outside }

-- where a slot leaves the part
abbrev pub switch_after : Switch → SwitchPhase → SwitchAfter
switch_after c p = record { switch = c; phase = p }

-- "Two latches, 1 at power on; outside levels stay over it and are 1 at set-up."
abbrev pub switch_power_on : Switch → Switch
switch_power_on c = switch 3 c.outside

abbrev pub switch_set_up : Switch
switch_set_up = switch 3 3

-- new outside levels
abbrev pub switch_outside : ℕ → Switch → Switch
switch_outside l c = switch c.latches l

-- "Pin = latch AND outside level."
unfoldable pub pin_of : Switch → ℕ → Bool
pin_of c k = both (bit_of c.latches k) (bit_of c.outside k)

-- "Status: b0 pin A, b1 latch A, b2 pin B, b3 latch B, b7 to b4 the complement of b3 to b0."
unfoldable pub status_of : Switch → ℕ
status_of c =
    let low : ℕ = pick (pin_of c 0) 1 0 + pick (bit_of c.latches 0) 2 0 + pick (pin_of c 1) 4 0 + pick (bit_of c.latches 1) 8 0 in
    low + 16 * (15 - low)

-- the function command b, once its eight bits are in; "Any other: ones."
unfoldable pub switch_function : Switch → ℕ → SwitchPhase
switch_function c b =
    pick (eqb b 0xF5) (Status 0 (status_of c))
    (pick (eqb b 0x5A) (Take 0 0)
    Ones)

-- where the function command b leaves the part at its eighth bit
unfoldable pub switch_begins : Switch → ℕ → SwitchAfter
switch_begins c b = switch_after c (switch_function c b)

-- F5h: "status bytes without end, each sampled at the last bit of the byte before"
unfoldable pub status_sent : Switch → ℕ → ℕ → SwitchPhase
status_sent c count sample = pick (ltb count 7) (Status (count + 1) sample) (Status 0 (status_of c))

-- 5Ah: "a byte and its complement. If they agree, bit 0 goes to latch A and bit 1 to latch B .. If not, ones until reset
-- and the latches stay."
unfoldable pub pair_in : Switch → ℕ → SwitchAfter
pair_in c pair =
    pick (eqb (pair % 256 + pair / 256) 0xFF) (switch_after (switch (pair % 4) c.outside) (Confirm 0))
    (switch_after c Ones)

-- 5Ah, a bit of the byte or its complement
unfoldable pub pair_bit : Switch → ℕ → ℕ → Bool → SwitchAfter
pair_bit c count bits v =
    pick (ltb count 15) (switch_after c (Take (count + 1) (filled 0x8000 bits v)))
    (pair_in c (filled 0x8000 bits v))

-- 5Ah: "the chip sends AAh and a status sampled at AAh's last bit"
unfoldable pub confirmed : Switch → ℕ → SwitchPhase
confirmed c count = pick (ltb count 7) (Confirm (count + 1)) (Show 0 (status_of c))

-- 5Ah: "then takes the next pair"
unfoldable pub shown : ℕ → ℕ → SwitchPhase
shown count sample = pick (ltb count 7) (Show (count + 1) sample) (Take 0 0)

-- what a slot of the value v does at each phase; a sending chip moves on whatever the value
abbrev pub switch_takes : Switch → Bool → SwitchPhase → SwitchAfter
switch_takes c v Ones = switch_after c Ones
switch_takes c v (Status count sample) = switch_after c (status_sent c count sample)
switch_takes c v (Take count bits) = pair_bit c count bits v
switch_takes c v (Confirm count) = switch_after c (confirmed c count)
switch_takes c v (Show count sample) = switch_after c (shown count sample)

-- what a chip sends in a slot at each phase
abbrev pub switch_sends : SwitchPhase → Bool
switch_sends Ones = true
switch_sends (Status count sample) = bit_of sample count
switch_sends (Take count bits) = true
switch_sends (Confirm count) = bit_of 0xAA count
switch_sends (Show count sample) = bit_of sample count

-- "every bit count and place inside its step"
abbrev pub phase_in_range : SwitchPhase → Bool
phase_in_range Ones = true
phase_in_range (Status count sample) = ltb count 8
phase_in_range (Take count bits) = ltb count 16
phase_in_range (Confirm count) = ltb count 8
phase_in_range (Show count sample) = ltb count 8

-- "latches and levels two bits each"
unfoldable pub switch_in_range : Switch → Bool
switch_in_range c = both (leb c.latches 3) (leb c.outside 3)
