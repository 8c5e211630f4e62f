-- What Read Scratchpad sends, in full. Document 01: "AAh Read Scratchpad: TA1, TA2, E/S, the scratchpad from T mod 32 to 31, the CRC-16
-- of the command and all that, then ones."
use Rattle.std.specs.Prelude.{ℕ, ◌/◌, ◌%◌, Bool, List, ◌∷◌, ◌++◌, drop}
use Rattle.crc.specs.Crc.{poly16, crc_of}
use Rattle.scratchpad.specs.declared.Registers.{Registers}
use Rattle.histories.specs.Sent.{bits_of}
use Rattle.commands.specs.Sending.{inverted}

-- "TA1, TA2, E/S, the scratchpad from T mod 32 to 31"
abbrev pub scratchpad_bytes : Registers → List ℕ → List ℕ
scratchpad_bytes r pad = r.t % 256 ∷ r.t / 256 ∷ r.es ∷ drop (r.t % 32) pad

-- "the CRC-16 of the command and all that"
abbrev pub scratchpad_crc : Registers → List ℕ → ℕ
scratchpad_crc r pad = crc_of poly16 0 (0xAA ∷ scratchpad_bytes r pad)

-- the bits of both
abbrev pub scratchpad_bits : Registers → List ℕ → List Bool
scratchpad_bits r pad = bits_of (scratchpad_bytes r pad) ++ inverted (scratchpad_crc r pad)
