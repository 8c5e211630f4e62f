-- Form: what a record's chip sends in a slot, read from the bytes in their place, by include/toemsakun.h's table of steps.
use Rattle.std.specs.Prelude.{ℕ, ◌+◌, ◌*◌, Bool, not, List, eqb, get_or}
use Rattle.std.proofs.Math.Bool.{true}
use Rattle.base.specs.Pick.{pick}
use Rattle.base.specs.Bits.{bit_of}
use Rattle.base.specs.Parts.{part_byte}
use Rattle.rom.specs.Rom.{search_sends}
use Rattle.chip.specs.Kinds.{image_size, pad_size}
use Rattle.records.specs.Numbers.{number_at}

-- step 2: "Read ROM: a place of the bit to send (0 to 63)"
unfoldable pub code_bit : List ℕ → Bool
code_bit bs = bit_of (number_at bs 0 8) (get_or bs 18 0)

-- step 4: "Search ROM: a place (0 to 63), b 0 for the bit, 1 for its complement, 2 for the bit to take"
unfoldable pub search_bit : List ℕ → Bool
search_bit bs = search_sends (number_at bs 0 8) (get_or bs 18 0) (get_or bs 19 0)

-- step 19: "CRC-16 being sent: a place (0 to 15), w the CRC-16 before it is inverted"
unfoldable pub crc_bit : List ℕ → Bool
crc_bit bs = not (bit_of (number_at bs 16 2) (get_or bs 18 0))

-- step 20: "Read Scratchpad, TA1, TA2 and E/S: a place (0 to 23)"
unfoldable pub register_bit : List ℕ → Bool
register_bit bs = bit_of (number_at bs 10 2 + 65536 * get_or bs 12 0) (get_or bs 18 0)

-- step 21: "Read Scratchpad, data: a offset (0 to 31), b place (0 to 7), w CRC-16 so far"
unfoldable pub pad_bit : ℕ → List ℕ → List ℕ → Bool
pad_bit pad bs ss = bit_of (part_byte ss pad (pad_size (get_or bs 8 0)) (get_or bs 18 0)) (get_or bs 19 0)

-- step 24: "a copy was carried out: a the bit that is sent next, 0 or 1"
unfoldable pub copied_bit : List ℕ → Bool
copied_bit bs = eqb (get_or bs 18 0) 1

-- step 26: "Read Memory, data: w address (0 to 0A3Fh), a place (0 to 7)"
unfoldable pub memory_bit : ℕ → List ℕ → List ℕ → Bool
memory_bit image bs ms = bit_of (part_byte ms image (image_size (get_or bs 8 0)) (number_at bs 16 2)) (get_or bs 18 0)

-- step 33: "PIO Access Read: a place (0 to 7), b the sampled status", and step 36: "PIO Access Write, the status: a place (0 to 7), b the sampled status"
unfoldable pub sample_bit : List ℕ → Bool
sample_bit bs = bit_of (get_or bs 19 0) (get_or bs 18 0)

-- step 35: "PIO Access Write, AAh: a place (0 to 7)"
unfoldable pub confirm_bit : List ℕ → Bool
confirm_bit bs = bit_of 0xAA (get_or bs 18 0)

module _ (image pad : ℕ) (bs ms ss : List ℕ) where
  -- what is sent at the step of a number; one that has nothing to send sends 1
  unfoldable pub sends_at : ℕ → Bool
  sends_at number =
      pick (eqb number 2) (code_bit bs)
      (pick (eqb number 4) (search_bit bs)
      (pick (eqb number 19) (crc_bit bs)
      (pick (eqb number 20) (register_bit bs)
      (pick (eqb number 21) (pad_bit pad bs ss)
      (pick (eqb number 24) (copied_bit bs)
      (pick (eqb number 26) (memory_bit image bs ms)
      (pick (eqb number 33) (sample_bit bs)
      (pick (eqb number 35) (confirm_bit bs)
      (pick (eqb number 36) (sample_bit bs)
      true)))))))))

  -- at the step that the bytes name
  unfoldable pub sends_in : Bool
  sends_in = sends_at (get_or bs 15 0)
