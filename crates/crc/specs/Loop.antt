-- Laws: a run of bytes, taken one byte after the other.
use Rattle.std.specs.Prelude.{ℕ, ◌+◌, ◌<◌, ◌≤◌, ◌≡◌, refl, List, [], ◌∷◌, length, get_or, drop}
use Rattle.std.proofs.Common.{add-one, drop_of_length-le, drop-cons}
use Rattle.std.specs.List.{fold}
use Rattle.crc.specs.Crc.{crc_byte, crc_of}
use Rattle.crc.specs.Figure4.{drawn_byte, drawn_of}
use Rattle.crc.specs.declared.figure4.ShiftRegister.{ShiftRegister}

-- a check sum by its polynomial, by the library's `fold`
pub crc_folded : (poly x : ℕ) (s : List ℕ) → fold (crc_byte poly) x s ≡ crc_of poly x s
unfolding crc_of
crc_folded poly x [] = refl
crc_folded poly x (b ∷ bs) = crc_folded poly (crc_byte poly x b) bs

-- the register of figure 4: the byte at i and then the rest, and at the end of the run nothing more
pub drawn_next : (r : ShiftRegister) (s : List ℕ) (i : ℕ) → i < length s → drawn_of r (drop i s) ≡ drawn_of (drawn_byte r (get_or s i 0)) (drop (i + 1) s)
unfolding drawn_of
drawn_next r s i h = rw (drop-cons s i 0, add-one) refl

pub drawn_end : (r : ShiftRegister) (s : List ℕ) (i : ℕ) → length s ≤ i → drawn_of r (drop i s) ≡ r
unfolding drawn_of
drawn_end r s i h = rw (drop_of_length-le s h) refl
