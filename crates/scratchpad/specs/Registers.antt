-- Document 01, "DS28EC20": the registers T and E/S, and the rule of a byte.
use Rattle.std.specs.Prelude.{ℕ, ◌+◌, ◌*◌, ◌/◌, ◌%◌, Bool, true, eqb}
use Rattle.std.specs.Int.Bits.{bit_and}
use Rattle.base.specs.Pick.{pick}
use Rattle.base.specs.Bits.{bit_of}
use Rattle.scratchpad.specs.declared.Registers.{Registers}

-- "Registers: T, 16 bits; E/S, with E in bits 0 to 4, PF bit 5, AA bit 7."
abbrev pub registers : ℕ → ℕ → Registers
registers t es = record { t = t; es = es }

-- "E in bits 0 to 4"
abbrev pub e_of : ℕ → ℕ
e_of es = es % 32

-- "PF bit 5"
unfoldable pub pf : ℕ → Bool
pf es = bit_of es 5

-- E/S with E set to an offset
unfoldable pub with_e : ℕ → ℕ → ℕ
with_e es offset = es / 32 * 32 + offset % 32

-- E/S with PF = 1
unfoldable pub with_pf : ℕ → ℕ
with_pf es = es / 64 * 64 + 32 + e_of es

-- the registers with PF = 1; T, E and AA stay
abbrev pub pf_set : Registers → Registers
pf_set r = registers r.t (with_pf r.es)

-- E/S with AA = 1
unfoldable pub with_aa : ℕ → ℕ
with_aa es = 128 + es % 128

-- "When all 16 address bits are in, T is set": to those 16 bits
unfoldable pub target_of : ℕ → ℕ
target_of bits = bits

-- "Power on: T 0000h, E/S 20h"
abbrev pub power_on_registers : Registers
power_on_registers = registers 0x0000 0x20

-- "A mark is 55h or AAh."
unfoldable pub mark : ℕ → Bool
mark b = pick (eqb b 0x55) true (eqb b 0xAA)

-- "the rule of a byte: for a held address the memory byte; for one that only falls, the AND of both; otherwise the byte sent."
unfoldable pub rule_of_byte : Bool → Bool → ℕ → ℕ → ℕ
rule_of_byte held only_falls memory sent = pick held memory (pick only_falls (bit_and memory sent) sent)
