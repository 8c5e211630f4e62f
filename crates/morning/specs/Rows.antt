-- Laws: the AND of the bits that the bearers of a code send, eight to a byte, are the bytes of its page.
use Rattle.std.specs.Prelude.{ℕ, zero, suc, ◌+◌, ◌≤◌, Bool, ◌≡◌, get_or}
use Rattle.std.proofs.Common.{arith, add-one, ◌∙◌, ap₂, sym, drop-cons}
use Rattle.std.proofs.Math.Bool.{true, false}
use mathlib.Core.List.{List, [], ◌∷◌, map}
use Rattle.std.proofs.Math.Path.{refl, ap}
use Rattle.std.proofs.Math.ListN.{length, drop}
use Rattle.base.specs.Pick.{pick}
use Rattle.base.specs.Bits.{both}
use Rattle.histories.specs.Histories.{Stored}
use Rattle.rounds.specs.Borne.{bears_code}
use Rattle.histories.specs.Sent.{bits_from, bits_of}
use Rattle.recovery.specs.Filled.{filled_by}
use Rattle.commands.specs.Streams.{then_ones}
use Rattle.morning.specs.Page.{bearing, both_bits, and_bits, bytes_at}
use Rattle.morning.specs.Streaming.{other_bits, first_and, and_rows, rest_rows, byte_rows}

-- a chip bears a code
abbrev pub bears : ℕ → Stored → Bool
bears code c = bears_code code c.kind c.code

-- the bits that the chips of a line have to send from an address on
abbrev pub rows_from : ℕ → ℕ → List Stored → List (List Bool)
rows_from code address [] = []
rows_from code address (c ∷ cs) = pick (bears code c) (bits_of (drop address c.memory)) [] ∷ rows_from code address cs

-- every bearer has so many bytes
abbrev pub Longer : ℕ → ℕ → List Stored → Type 0
Longer code n [] = Unit {0}
Longer code n (c ∷ cs) = (bears code c ≡ true → n ≤ length c.memory) × Longer code n cs

-- the bits that a chip has left after n slots
abbrev rest_bits : ℕ → List Bool → List Bool
rest_bits zero bits = bits
rest_bits (suc n) bits = rest_bits n (other_bits bits)

-- one chip more
and_also : (n : ℕ) (bits : List Bool) (rows : List (List Bool)) → and_rows n (bits ∷ rows) ≡ both_bits (then_ones n bits) (and_rows n rows)
and_also zero bits rows = refl
and_also (suc n) [] rows = ap (λ (bs : List Bool). both true (first_and rows) ∷ bs) (and_also n [] (map other_bits rows))
and_also (suc n) (b ∷ bits) rows = ap (λ (bs : List Bool). both b (first_and rows) ∷ bs) (and_also n bits (map other_bits rows))

rest_also : (n : ℕ) (bits : List Bool) (rows : List (List Bool)) → rest_rows n (bits ∷ rows) ≡ rest_bits n bits ∷ rest_rows n rows
rest_also zero bits rows = refl
rest_also (suc n) bits rows = rest_also n (other_bits bits) (map other_bits rows)

-- one that sends ones
and_ones : (n : ℕ) (rows : List (List Bool)) → both_bits (then_ones n []) (and_rows n rows) ≡ and_rows n rows
unfolding both pick
and_ones zero rows = refl
and_ones (suc n) rows = ap (λ (bs : List Bool). first_and rows ∷ bs) (and_ones n (map other_bits rows))

-- a memory from an address on, by the byte there
pub from_address : (address : ℕ) (m : List ℕ) → address + 1 ≤ length m → drop address m ≡ get_or m address 0 ∷ drop (address + 1) m
from_address address m h = drop-cons m address 0 (omega arith) ∙ ap (λ (j : ℕ). get_or m address 0 ∷ drop j m) (sym (add-one address))

-- the bytes of the bearers at an address
abbrev bytes_of_all : ℕ → List (List ℕ) → List ℕ
bytes_of_all address ms = map (λ (m : List ℕ). get_or m address 0) ms

module _ (code address : ℕ) where
  -- eight slots show the AND of the bytes at the address
  and_bytes : (cs : List Stored) → Longer code (address + 1) cs → and_rows 8 (rows_from code address cs) ≡ and_bits (bytes_of_all address (bearing code cs))
  unfolding pick
  and_bytes [] l = refl
  and_bytes (c ∷ cs) (h, l) = go (bears code c) h (and_bytes cs l)
    where
      go : (t : Bool) → (t ≡ true → address + 1 ≤ length c.memory) → and_rows 8 (rows_from code address cs) ≡ and_bits (bytes_of_all address (bearing code cs))
          → and_rows 8 (pick t (bits_of (drop address c.memory)) [] ∷ rows_from code address cs) ≡ and_bits (bytes_of_all address (pick t (c.memory ∷ bearing code cs) (bearing code cs)))
      go true h e =
          ap (λ (bs : List ℕ). and_rows 8 (bits_of bs ∷ rows_from code address cs)) (from_address address c.memory (h refl))
          ∙ and_also 8 (bits_of (get_or c.memory address 0 ∷ drop (address + 1) c.memory)) (rows_from code address cs)
          ∙ ap (both_bits (bits_from 8 0 (get_or c.memory address 0))) e
      go false h e = and_also 8 [] (rows_from code address cs) ∙ and_ones 8 (rows_from code address cs) ∙ e

  -- and leave those from the next address on
  rest_bytes : (cs : List Stored) → Longer code (address + 1) cs → rest_rows 8 (rows_from code address cs) ≡ rows_from code (address + 1) cs
  unfolding pick
  rest_bytes [] l = refl
  rest_bytes (c ∷ cs) (h, l) = go (bears code c) h (rest_bytes cs l)
    where
      go : (t : Bool) → (t ≡ true → address + 1 ≤ length c.memory) → rest_rows 8 (rows_from code address cs) ≡ rows_from code (address + 1) cs
          → rest_rows 8 (pick t (bits_of (drop address c.memory)) [] ∷ rows_from code address cs) ≡ pick t (bits_of (drop (address + 1) c.memory)) [] ∷ rows_from code (address + 1) cs
      go true h e =
          ap (λ (bs : List ℕ). rest_rows 8 (bits_of bs ∷ rows_from code address cs)) (from_address address c.memory (h refl))
          ∙ rest_also 8 (bits_of (get_or c.memory address 0 ∷ drop (address + 1) c.memory)) (rows_from code address cs)
          ∙ ap (λ (r : List (List Bool)). bits_of (drop (address + 1) c.memory) ∷ r) e
      go false h e = rest_also 8 [] (rows_from code address cs) ∙ ap (λ (r : List (List Bool)). [] ∷ r) e

-- fewer bytes
shorter : (code n k : ℕ) (cs : List Stored) → k ≤ n → Longer code n cs → Longer code k cs
shorter code n k [] h l = tt
shorter code n k (c ∷ cs) h (a, l) = ((λ e. let b = a e in omega arith), shorter code n k cs h l)

-- the bytes that are read
pub bytes_are : (n code address : ℕ) (cs : List Stored) → Longer code (address + n) cs → byte_rows n (rows_from code address cs) ≡ bytes_at n address (bearing code cs)
bytes_are zero code address cs l = refl
bytes_are (suc n) code address cs l =
    let one = shorter code (address + suc n) (address + 1) cs (omega arith) l in
    ap₂ ◌∷◌ (ap (filled_by 0x80 0) (and_bytes code address cs one))
    (ap (byte_rows n) (rest_bytes code address cs one) ∙ bytes_are n code (address + 1) cs (shorter code (address + suc n) (address + 1 + n) cs (omega arith) l))
