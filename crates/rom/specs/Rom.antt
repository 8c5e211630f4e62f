-- Document 01, "ROM level": what a chip does from a reset to the function level, over its code and RC.
use Rattle.std.specs.Prelude.{ℕ, ◌+◌, Bool, true, false, not, eqb, ltb}
use Rattle.base.specs.Pick.{pick}
use Rattle.base.specs.Bits.{bit_of, same, both, filled}
use Rattle.rom.specs.declared.RomResult.{RomResult}
use Rattle.rom.specs.declared.Knows.{Knows}
use Rattle.rom.specs.declared.RomNext.{RomNext}
use Rattle.rom.specs.declared.RomNext.TheVariants.{Wait, Step, Function}
use Rattle.rom.specs.declared.RomStep.{RomStep}
use Rattle.rom.specs.declared.RomStep.TheVariants.{Command, Read, Match, Search}

-- where a slot leaves the chip, and RC
abbrev pub rom : RomNext → Bool → RomResult
rom next rc = record { next = next; rc = rc }

-- the ROM command b, once its eight bits are in, by what the chip knows
unfoldable pub command_of : Knows → Bool → ℕ → RomResult
command_of k rc b =
    -- "33h: RC = 0, send the 64 bits, go to the function level."
    pick (eqb b 0x33) (rom (Step (Read 0)) false)
    -- "55h: RC = 0, then take 64 bits."
    (pick (eqb b 0x55) (rom (Step (Match 0)) false)
    -- "F0h: RC = 0. For each bit send it, send its complement, take one"
    (pick (eqb b 0xF0) (rom (Step (Search 0 0)) false)
    -- "CCh: RC = 0, function level."
    (pick (eqb b 0xCC) (rom Function false)
    -- "A5h: function level if RC = 1, otherwise wait.", of a chip that knows Resume
    (pick (eqb b 0xA5) (pick (both k.resume rc) (rom Function rc) (rom Wait rc))
    -- "Any other, 3Ch and 69h too: wait, RC unchanged (here)."
    (rom Wait rc)))))

-- "After a reset every chip takes 8 bits, least significant first."
unfoldable pub command_bit : Knows → Bool → ℕ → ℕ → Bool → RomResult
command_bit k rc count bits v =
    pick (ltb count 7) (rom (Step (Command (count + 1) (filled 0x80 bits v))) rc)
    (command_of k rc (filled 0x80 bits v))

-- a bit of the code was sent; after the 64th comes the function level
unfoldable pub read_bit : Bool → ℕ → RomResult
read_bit rc place = pick (ltb place 63) (rom (Step (Read (place + 1))) rc) (rom Function rc)

-- "At the first that differs, wait for reset. After the 64th, RC = 1 and function level."
unfoldable pub match_bit : ℕ → Bool → ℕ → Bool → RomResult
match_bit code rc place v =
    pick (same (bit_of code place) v)
    (pick (ltb place 63) (rom (Step (Match (place + 1))) rc) (rom Function true))
    (rom Wait rc)

-- slots 0 and 1 of a place send the bit and its complement, slot 2 takes one: "a different one means wait. After the 64th, RC = 1 and function level."
unfoldable pub search_bit : ℕ → Bool → ℕ → ℕ → Bool → RomResult
search_bit code rc place slot v =
    pick (ltb slot 2) (rom (Step (Search place (slot + 1))) rc)
    (pick (same (bit_of code place) v)
    (pick (ltb place 63) (rom (Step (Search (place + 1) 0)) rc) (rom Function true))
    (rom Wait rc))

-- what a slot of the value v does at each step
abbrev pub rom_takes : ℕ → Bool → Bool → Knows → RomStep → RomResult
rom_takes code rc v k (Command count bits) = command_bit k rc count bits v
rom_takes code rc v k (Read place) = read_bit rc place
rom_takes code rc v k (Match place) = match_bit code rc place v
rom_takes code rc v k (Search place slot) = search_bit code rc place slot v

-- the bit, its complement, and nothing while the chip takes one
unfoldable pub search_sends : ℕ → ℕ → ℕ → Bool
search_sends code place slot =
    pick (eqb slot 0) (bit_of code place)
    (pick (eqb slot 1) (not (bit_of code place)) true)

-- what a chip sends in a slot at each step
abbrev pub rom_sends : ℕ → RomStep → Bool
rom_sends code (Command count bits) = true
rom_sends code (Read place) = bit_of code place
rom_sends code (Match place) = true
rom_sends code (Search place slot) = search_sends code place slot

-- "every bit count and place inside its step"
abbrev pub rom_in_range : RomStep → Bool
rom_in_range (Command count bits) = ltb count 8
rom_in_range (Read place) = ltb place 64
rom_in_range (Match place) = ltb place 64
rom_in_range (Search place slot) = both (ltb place 64) (ltb slot 3)
