-- A DS28EC20 that sends: the bits of a number one after the other, a CRC-16, and ones.
use Rattle.std.specs.Prelude.{ℕ, zero, suc, ◌+◌, ◌<◌, ◌≤◌, Bool, not, List, [], ◌∷◌, ◌++◌, map, ◌≡◌, leb, length, get_or, drop}
use Rattle.std.proofs.Common.{arith, add-one, ◌∙◌, ap, sym, subst, drop_of_length-le, drop-cons, lt-ltb, leb-true, leb-false}
use Rattle.std.proofs.Math.Path.{refl}
use Rattle.base.specs.Pick.{pick, pick_if}
use Rattle.base.specs.Bits.{bit_of}
use Rattle.scratchpad.specs.Scratchpad.{crc_sent}
use Rattle.scratchpad.specs.declared.Registers.{Registers}
use Rattle.scratchpad.specs.declared.MemoryPhase.{MemoryPhase}
use Rattle.scratchpad.specs.declared.MemoryPhase.TheVariants.{Ones, SendCrc}
use Rattle.chip.specs.Chip.{Whole, memory_slot, takes_of, sends_of}
use Rattle.chip.specs.declared.Chip.{Chip}
use Rattle.chip.specs.declared.Level.TheVariants.{Memory}
use Rattle.histories.specs.Sent.{bits_from, bits_of}
use Rattle.recovery.specs.Goes.{ec20}
use Rattle.commands.specs.Streams.{Streams, streams_bit, streams_ones}

-- a CRC-16 as it is sent: "least significant bit first, sent inverted, low byte first"
abbrev pub inverted : ℕ → List Bool
inverted crc = map not (bits_from 16 0 crc)

-- the phase at an offset: the first bit of the byte there, or past the last what comes after it
abbrev pub byte_from : ℕ → (ℕ → ℕ → ℕ → MemoryPhase) → (ℕ → MemoryPhase) → ℕ → ℕ → MemoryPhase
byte_from last phase end o x = pick (leb o last) (phase o x 0) (end x)

module _ (c : Chip) (m : List ℕ) (rc : Bool) (r : Registers) (s : List ℕ) where
  -- the chip at a phase
  abbrev pub in_phase : MemoryPhase → Whole
  in_phase p = ec20 c m (Memory p) rc r s

  -- a phase for each place of a number up to the last, in which the chip sends that bit, or what f makes of it
  module _ (f : Bool → Bool) (n last : ℕ) (phase : ℕ → MemoryPhase) (next : MemoryPhase) (rest : List Bool)
      (sends : (p : ℕ) → sends_of (in_phase (phase p)) ≡ f (bit_of n p))
      (moves : (v : Bool) (p : ℕ) → p < last → takes_of v (in_phase (phase p)) ≡ in_phase (phase (p + 1)))
      (leads : (v : Bool) → takes_of v (in_phase (phase last)) ≡ in_phase next)
      (streams : Streams rest (in_phase next)) where
    -- the bits from a place on, and what comes next
    pub streams_places : (k p : ℕ) → k + p ≡ last → Streams (map f (bits_from (suc k) p n) ++ rest) (in_phase (phase p))
    streams_places zero p e =
        let z : p ≡ last = omega arith in
        streams_bit (f (bit_of n p)) (sends p) (λ v. ap (λ (q : ℕ). takes_of v (in_phase (phase q))) z ∙ leads v) refl streams
    streams_places (suc k) p e = streams_bit (f (bit_of n p)) (sends p) (λ v. moves v p (omega arith)) refl (streams_places k (p + 1) (omega arith))

  -- bytes from an offset on up to the last, each bit by bit and each leading to the next; x is what the chip has of those before
  module _ (bytes : List ℕ) (last : ℕ) (phase : ℕ → ℕ → ℕ → MemoryPhase) (end : ℕ → MemoryPhase) (next : ℕ → ℕ → ℕ) (tail : ℕ → List ℕ → List Bool)
      (full : length bytes ≡ last + 1)
      (sends : (o x p : ℕ) → sends_of (in_phase (phase o x p)) ≡ bit_of (get_or bytes o 0) p)
      (moves : (o x : ℕ) (v : Bool) (p : ℕ) → p < 7 → takes_of v (in_phase (phase o x p)) ≡ in_phase (phase o x (p + 1)))
      (leads : (o x : ℕ) (v : Bool) → takes_of v (in_phase (phase o x 7)) ≡ in_phase (byte_from last phase end (o + 1) (next x (get_or bytes o 0))))
      (more : (x b : ℕ) (bs : List ℕ) → tail (next x b) bs ≡ tail x (b ∷ bs))
      (streams : (x : ℕ) → Streams (tail x []) (in_phase (end x))) where
    -- what is sent from an offset on
    abbrev bytes_from : ℕ → ℕ → List Bool
    bytes_from o x = bits_of (drop o bytes) ++ tail x (drop o bytes)

    -- past the last
    bytes_past : (o x : ℕ) → last < o → Streams (bytes_from o x) (in_phase (end x))
    bytes_past o x h =
        let l : length bytes ≤ o = omega arith in
        subst (λ (bs : List ℕ). Streams (bits_of bs ++ tail x bs) (in_phase (end x))) (sym (drop_of_length-le bytes l)) (streams x)

    -- a byte, and those after it
    bytes_more : (o x : ℕ) → o ≤ last → Streams (bytes_from (o + 1) (next x (get_or bytes o 0))) (in_phase (byte_from last phase end (o + 1) (next x (get_or bytes o 0))))
        → Streams (bytes_from o x) (in_phase (phase o x 0))
    bytes_more o x h after =
        let b = get_or bytes o 0 in
        let rest = drop (o + 1) bytes in
        let l : o < length bytes = omega arith in
        let d : drop o bytes ≡ b ∷ rest = drop-cons bytes o 0 l ∙ ap (λ (j : ℕ). b ∷ drop j bytes) (sym (add-one o)) in
        subst (λ (bs : List ℕ). Streams (bits_of bs ++ tail x bs) (in_phase (phase o x 0))) (sym d)
        (subst (λ (t : List Bool). Streams (bits_from 8 0 b ++ (bits_of rest ++ t)) (in_phase (phase o x 0))) (more x b rest)
        (streams_places (λ b. b) b 7 (phase o x) (byte_from last phase end (o + 1) (next x b)) (bits_of rest ++ tail (next x b) rest)
        (sends o x) (moves o x) (leads o x) after 7 0 refl))

    -- they are sent, and then what comes after the last
    pub streams_bytes : (k o x : ℕ) → last < k + o → Streams (bytes_from o x) (in_phase (byte_from last phase end o x))
    streams_bytes zero o x h =
        pick_if (λ (p : MemoryPhase). Streams (bytes_from o x) (in_phase p)) (leb o last) (phase o x 0) (end x)
        (λ e. let a = leb-true o last e in absurd (omega arith)) (λ e. bytes_past o x (leb-false o last e))
    streams_bytes (suc k) o x h =
        pick_if (λ (p : MemoryPhase). Streams (bytes_from o x) (in_phase p)) (leb o last) (phase o x 0) (end x)
        (λ e. bytes_more o x (leb-true o last e) (streams_bytes k (o + 1) (next x (get_or bytes o 0)) (omega arith)))
        (λ e. bytes_past o x (leb-false o last e))

  -- "then ones"
  pub streams_end : Streams [] (in_phase Ones)
  unfolding sends_of takes_of memory_slot
  streams_end = streams_ones (in_phase Ones) refl (λ v. refl)

  -- a bit of a CRC-16
  crc_sends : (crc p : ℕ) → sends_of (in_phase (SendCrc p crc)) ≡ not (bit_of crc p)
  unfolding sends_of
  crc_sends crc p = refl

  crc_moves : (crc : ℕ) (v : Bool) (p : ℕ) → p < 15 → takes_of v (in_phase (SendCrc p crc)) ≡ in_phase (SendCrc (p + 1) crc)
  unfolding takes_of memory_slot crc_sent pick
  crc_moves crc v p h = simp (lt-ltb p 15 h)

  crc_leads : (crc : ℕ) (v : Bool) → takes_of v (in_phase (SendCrc 15 crc)) ≡ in_phase Ones
  unfolding takes_of memory_slot crc_sent pick
  crc_leads crc v = refl

  -- a CRC-16, then ones
  pub streams_crc : (crc : ℕ) → Streams (inverted crc) (in_phase (SendCrc 0 crc))
  streams_crc crc = streams_places not crc 15 (λ p. SendCrc p crc) Ones [] (crc_sends crc) (crc_moves crc) (crc_leads crc) streams_end 15 0 refl
