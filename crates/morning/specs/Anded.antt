-- Laws: what the AND of bytes is, bit by bit; and the page of a code that one DS28EC20 bears.
use Rattle.std.specs.Prelude.{ℕ, zero, suc, ◌+◌, ◌-◌, ◌/◌, ◌%◌, ◌^◌, ◌<◌, ◌≤◌, Bool, true, false, List, [], ◌∷◌, ◌++◌, ◌≡◌, refl, length, get_or, take, drop}
use Rattle.std.proofs.Common.{arith, ◌∙◌, ap, ap₂, sym}
use Rattle.base.specs.Pick.{pick}
use Rattle.base.specs.Bits.{bit_of, both, filled}
use Rattle.base.specs.Both.{both_true}
use Rattle.base.specs.Low.{bit_low, bit_high}
use Rattle.histories.specs.Below.{Bytes, byte_at}
use Rattle.histories.specs.Sent.{bits_from}
use Rattle.recovery.specs.Filled.{filled_by, byte_taken}
use Rattle.morning.specs.Rows.{from_address}
use Rattle.morning.specs.Page.{both_bits, and_bits, and_of, bytes_at}

-- the bits of a number and 80h below its highest are those of the number
bit_below : (y k : ℕ) → k < 7 → y < 128 → bit_of (y + 0x80) k ≡ bit_of y k
bit_below y k h l =
    let e : y + 0x80 ≡ 2 ^ 7 + y = omega arith in
    let low : (y + 0x80) % 2 ^ 7 ≡ y % 2 ^ 7 = omega arith in
    let j : 6 - k + 1 + k ≡ 7 = omega arith in
    sym (ap (λ (n : ℕ). bit_of ((y + 0x80) % 2 ^ n) k) (sym j) ∙ bit_low (y + 0x80) (6 - k) k) ∙ ap (λ (n : ℕ). bit_of n k) low ∙ (ap (λ (n : ℕ). bit_of (y % 2 ^ n) k) (sym j) ∙ bit_low y (6 - k) k)

-- a register of 8 places that takes a bit: the others move down by one
moved : (x k : ℕ) (v : Bool) → k < 7 → x < 256 → bit_of (filled 0x80 x v) k ≡ bit_of x (1 + k)
unfolding filled pick
moved x k true h l = bit_below (x / 2) k h (omega arith) ∙ sym (bit_high x 1 k)
moved x k false h l = sym (bit_high x 1 k)

top_taken : (x : ℕ) (v : Bool) → x < 256 → bit_of (filled 0x80 x v) 7 ≡ v
unfolding filled bit_of pick
top_taken x true h = let e : (x / 2 + 0x80) / 128 ≡ 1 = omega arith in rw e
top_taken x false h = let e : x / 2 / 128 ≡ 0 = omega arith in rw e

filled_small : (x : ℕ) (v : Bool) → x < 256 → filled 0x80 x v < 256
unfolding filled pick
filled_small x true h = omega arith
filled_small x false h = omega arith

-- the bits of a register after n bits have come: those that it had from bit n on, then these
pub filled_small_by : (x : ℕ) (vs : List Bool) → x < 256 → filled_by 0x80 x vs < 256
filled_small_by x [] h = h
filled_small_by x (v ∷ vs) h = filled_small_by (filled 0x80 x v) vs (filled_small x v h)

-- a bit that stood in it, further down
stood : (vs : List Bool) (x k : ℕ) → x < 256 → k + length vs < 8 → bit_of (filled_by 0x80 x vs) k ≡ bit_of x (k + length vs)
stood [] x k h l = let e : k + 0 ≡ k = omega arith in ap (bit_of x) (sym e)
stood (v ∷ vs) x k h l =
    let e : 1 + (k + length vs) ≡ k + suc (length vs) = omega arith in
    stood vs (filled 0x80 x v) k (filled_small x v h) (omega arith) ∙ moved x (k + length vs) v (omega arith) h ∙ ap (bit_of x) e

-- eight bits that came: bit k is the one that came with so many after it
came : (us vs : List Bool) (v : Bool) (x : ℕ) → x < 256 → length us + suc (length vs) ≡ 8 → bit_of (filled_by 0x80 x (us ++ (v ∷ vs))) (length us) ≡ v
came us vs v x h e = go us x h
  where
    at_top : (x : ℕ) → x < 256 → length us + suc (length vs) ≡ 8 → bit_of (filled_by 0x80 (filled 0x80 x v) vs) (length us) ≡ v
    at_top x h e =
        let k : length us + length vs ≡ 7 = omega arith in
        stood vs (filled 0x80 x v) (length us) (filled_small x v h) (omega arith) ∙ ap (bit_of (filled 0x80 x v)) k ∙ top_taken x v h

    go : (ws : List Bool) (x : ℕ) → x < 256 → bit_of (filled_by 0x80 x (ws ++ (v ∷ vs))) (length us) ≡ v
    go [] x h = at_top x h e
    go (w ∷ ws) x h = go ws (filled 0x80 x w) (filled_small x w h)

-- ---- the AND of bytes

-- whether every byte has a 1 at a place
abbrev pub all_have : ℕ → List ℕ → Bool
all_have k [] = true
all_have k (b ∷ bs) = both (bit_of b k) (all_have k bs)

-- the bits of the AND, place by place
and_places : (bs : List ℕ) → and_bits bs ≡ all_have 0 bs ∷ all_have 1 bs ∷ all_have 2 bs ∷ all_have 3 bs ∷ all_have 4 bs ∷ all_have 5 bs ∷ all_have 6 bs ∷ all_have 7 bs ∷ []
and_places [] = refl
and_places (b ∷ bs) = ap (both_bits (bits_from 8 0 b)) (and_places bs)

-- THEOREM: bit k of the AND of bytes is 1 exactly where every byte has a 1
pub and_bit : (bs : List ℕ) (k : ℕ) → k < 8 → bit_of (and_of bs) k ≡ all_have k bs
and_bit bs k h = ap (λ (vs : List Bool). bit_of (filled_by 0x80 0 vs) k) (and_places bs) ∙ go k h
  where
    bit : (us vs : List Bool) (v : Bool) → length us + suc (length vs) ≡ 8 → bit_of (filled_by 0x80 0 (us ++ (v ∷ vs))) (length us) ≡ v
    bit us vs v e = came us vs v 0 (omega arith) e

    a : ℕ → Bool
    a j = all_have j bs

    go : (k : ℕ) → k < 8 → bit_of (filled_by 0x80 0 (a 0 ∷ a 1 ∷ a 2 ∷ a 3 ∷ a 4 ∷ a 5 ∷ a 6 ∷ a 7 ∷ [])) k ≡ a k
    go zero h = bit [] (a 1 ∷ a 2 ∷ a 3 ∷ a 4 ∷ a 5 ∷ a 6 ∷ a 7 ∷ []) (a 0) refl
    go (suc zero) h = bit (a 0 ∷ []) (a 2 ∷ a 3 ∷ a 4 ∷ a 5 ∷ a 6 ∷ a 7 ∷ []) (a 1) refl
    go (suc (suc zero)) h = bit (a 0 ∷ a 1 ∷ []) (a 3 ∷ a 4 ∷ a 5 ∷ a 6 ∷ a 7 ∷ []) (a 2) refl
    go (suc (suc (suc zero))) h = bit (a 0 ∷ a 1 ∷ a 2 ∷ []) (a 4 ∷ a 5 ∷ a 6 ∷ a 7 ∷ []) (a 3) refl
    go (suc (suc (suc (suc zero)))) h = bit (a 0 ∷ a 1 ∷ a 2 ∷ a 3 ∷ []) (a 5 ∷ a 6 ∷ a 7 ∷ []) (a 4) refl
    go (suc (suc (suc (suc (suc zero))))) h = bit (a 0 ∷ a 1 ∷ a 2 ∷ a 3 ∷ a 4 ∷ []) (a 6 ∷ a 7 ∷ []) (a 5) refl
    go (suc (suc (suc (suc (suc (suc zero)))))) h = bit (a 0 ∷ a 1 ∷ a 2 ∷ a 3 ∷ a 4 ∷ a 5 ∷ []) (a 7 ∷ []) (a 6) refl
    go (suc (suc (suc (suc (suc (suc (suc zero))))))) h = bit (a 0 ∷ a 1 ∷ a 2 ∷ a 3 ∷ a 4 ∷ a 5 ∷ a 6 ∷ []) [] (a 7) refl
    go (suc (suc (suc (suc (suc (suc (suc (suc k)))))))) h = absurd (omega arith)

-- it is a byte
pub and_small : (bs : List ℕ) → and_of bs < 256
and_small bs = filled_small_by 0 (and_bits bs) (omega arith)

-- the AND of one byte is the byte
and_one : (b : ℕ) → b < 256 → and_of (b ∷ []) ≡ b
and_one b h = ap (filled_by 0x80 0) (λ j. both_true (bit_of b 0) j ∷ both_true (bit_of b 1) j ∷ both_true (bit_of b 2) j ∷ both_true (bit_of b 3) j ∷ both_true (bit_of b 4) j ∷ both_true (bit_of b 5) j ∷ both_true (bit_of b 6) j ∷ both_true (bit_of b 7) j ∷ []) ∙ byte_taken b h

-- the AND of one memory's bytes is its own bytes
pub own_bytes : (n address : ℕ) (m : List ℕ) → Bytes m → address + n ≤ length m → bytes_at n address (m ∷ []) ≡ take n (drop address m)
own_bytes zero address m f h = refl
own_bytes (suc n) address m f h =
    let e = from_address address m (omega arith) in
    ap₂ ◌∷◌ (and_one (get_or m address 0) (byte_at m f address)) (own_bytes n (address + 1) m f (omega arith)) ∙ ap (take (suc n)) (sym e)
