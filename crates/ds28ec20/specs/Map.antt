-- Document 01, "DS28EC20": the map, and which bytes may change.
use Rattle.std.specs.Prelude.{ℕ, ◌+◌, ◌/◌, Bool, true, false, eqb, ltb}
use Rattle.base.specs.Pick.{pick}
use Rattle.scratchpad.specs.Registers.{mark}
use Rattle.scratchpad.specs.Map.{Map}

-- "We take 0A3Fh as the last readable address"
abbrev pub last_address : ℕ
last_address = 0x0A3F

-- "0000h to 09FFh data, ten blocks of 256 bytes"
unfoldable pub is_data : ℕ → Bool
is_data a = ltb a 0x0A00

-- "0A00h to 0A09h one control byte a block": where that of the block of a stands
unfoldable pub control_address : ℕ → ℕ
control_address a = 0x0A00 + a / 256

-- a control byte (0A00h to 0A09h), the block lock (0A1Eh) or the register page lock (0A1Fh)
unfoldable pub is_control_or_lock : ℕ → Bool
is_control_or_lock a = pick (ltb a 0x0A00) false (pick (ltb a 0x0A0A) true (pick (eqb a 0x0A1E) true (eqb a 0x0A1F)))

-- "0A20h to 0A3Fh read only"
unfoldable pub is_read_only : ℕ → Bool
is_read_only a = pick (ltb a 0x0A20) false (ltb a 0x0A40)

-- "A byte is held if its block's control byte is 55h, or it is itself a control or lock byte holding a mark, or it is read only."
-- Above 0A3Fh nothing is held, and nothing only falls: "Above 0A3Fh: the byte sent."
unfoldable pub held : ℕ → ℕ → ℕ → Bool
held a byte control =
    pick (is_data a) (eqb control 0x55)
    (pick (is_control_or_lock a) (mark byte)
    (is_read_only a))

-- "It only falls if its block's control byte is AAh."
unfoldable pub only_falls : ℕ → ℕ → Bool
only_falls a control = pick (is_data a) (eqb control 0xAA) false

-- where the lock byte that can close a page stands: the block lock (0A1Eh) for data, the register page lock (0A1Fh) for the rest
unfoldable pub lock_address : ℕ → ℕ
lock_address page = pick (is_data page) 0x0A1E 0x0A1F

-- "A page is closed to copying if its block's control byte is 55h and 0A1Eh holds a mark; or it is 0A00h to 0A1Fh and
-- 0A1Fh holds a mark; or it starts at 0A20h or above."
unfoldable pub closed_to_copying : ℕ → ℕ → ℕ → Bool
closed_to_copying page control lock =
    pick (is_data page) (pick (eqb control 0x55) (mark lock) false)
    (pick (ltb page 0x0A20) (mark lock) true)

-- AAh: "the scratchpad from T mod 32 to 31", whatever E/S
unfoldable pub pad_end : ℕ → ℕ
pad_end es = 31

-- the map of a DS28EC20; a short address: "the flow chart of source document 003 notes that it sets PF. From now on it does" (02, M-102)
unfoldable pub ds28ec20 : Map
ds28ec20 =
    record {
      last = last_address;
      control = control_address;
      lock = lock_address;
      held = held;
      falls = only_falls;
      closed = closed_to_copying;
      end = pad_end;
      cut_sets_pf = true;
    }
