-- Laws: bytes unpacked into the bits of a run, and packed again: "least significant first, unused bits 0".
use Rattle.std.specs.Prelude.{ℕ, zero, suc, ◌+◌, ◌*◌, ◌/◌, ◌%◌, ◌^◌, ◌<◌, Bool, true, false, not, List, [], ◌∷◌, ◌≡◌, refl, eqb, length, take, drop}
use Rattle.std.proofs.Common.{arith, zero-add, ◌∙◌, ap, sym, take_at, drop_at, eqb-true}
use Rattle.std.proofs.Math.Nat.{pow-succ'}
use Rattle.std.proofs.Math.Seq.{take-nil}
use Rattle.std.proofs.lemmas.Bool.{eqb-false}
use Rattle.base.specs.Pick.{pick, pick_true, pick_false}
use Rattle.base.specs.Both.{both_holds}
use Rattle.line.specs.Runs.{bits_many, host_many}
use Rattle.line.specs.Slots.{bits_of, bits_in, number_from, bytes_from, host_bits, bytes_asked}
use Rattle.recording.specs.Reading.{none_set, unused_clear}
use Rattle.recording.specs.Unpacked.{padded, padded_on, worth_twice}
use Rattle.histories.specs.Below.{Bytes, first_below, others_below}

-- the host's bits, packed
abbrev pub packed : List Bool → List ℕ
packed hs = bytes_from (bytes_asked (length hs)) hs

-- as many bits as are asked for
padded_length : (n : ℕ) (bs : List Bool) → length (padded n bs) ≡ n
padded_length zero bs = refl
padded_length (suc n) [] = ap suc (padded_length n [])
padded_length (suc n) (b ∷ bs) = ap suc (padded_length n bs)

-- bits that are 0 add nothing
number_padded : (worth n : ℕ) (bs : List Bool) → number_from worth (padded n bs) ≡ number_from worth (take n bs)
unfolding pick
number_padded worth zero bs = refl
number_padded worth (suc n) [] = zero-add _ ∙ number_padded (2 * worth) n [] ∙ ap (number_from (2 * worth)) (take-nil n)
number_padded worth (suc n) (b ∷ bs) = ap (λ (x : ℕ). pick b worth 0 + x) (number_padded (2 * worth) n bs)

-- nor do they change the bytes
bytes_padded : (k : ℕ) (bs : List Bool) → bytes_from k (padded (8 * k) bs) ≡ bytes_from k bs
bytes_padded zero bs = refl
bytes_padded (suc k) bs =
    let e : 8 * suc k ≡ 8 + 8 * k = omega arith in
    let a = padded 8 bs in
    let b = padded (8 * k) (drop 8 bs) in
    let l = padded_length 8 bs in
    ap (bytes_from (suc k)) (ap (λ (n : ℕ). padded n bs) e ∙ sym (padded_on 8 (8 * k) bs))
    ∙ (λ j. (ap (number_from 1) (take_at a b 8 l) ∙ number_padded 1 8 bs) j ∷ (ap (bytes_from k) (drop_at a b 8 l) ∙ bytes_padded k (drop 8 bs)) j)

-- bits past which there are only 0s
padded_none : (bs : List Bool) → none_set bs ≡ true → padded (length bs) [] ≡ bs
padded_none [] h = refl
padded_none (b ∷ bs) h = let p = both_holds (not b) (none_set bs) h in λ j. sym (clear b p.0) j ∷ padded_none bs p.1 j
  where
    clear : (b : Bool) → not b ≡ true → b ≡ false
    clear true e = sym e
    clear false e = refl

-- nor is anything lost by leaving them out
padded_back : (n : ℕ) (bs : List Bool) → none_set (drop n bs) ≡ true → padded (length bs) (take n bs) ≡ bs
padded_back zero bs h = padded_none bs h
padded_back (suc n) [] h = refl
padded_back (suc n) (b ∷ bs) h = ap (λ (l : List Bool). b ∷ l) (padded_back n bs h)

-- a number is that of its bits
bits_number : (n x : ℕ) → x < 2 ^ n → number_from 1 (bits_of n x) ≡ x
bits_number zero x h = omega arith
bits_number (suc n) x h =
    let t = pow-succ' 2 n in
    let e = worth_twice 1 (bits_of n (x / 2)) in
    let f = bits_number n (x / 2) (omega arith) in
    let g = low (eqb (x % 2) 1) refl in
    omega arith
  where
    low : (b : Bool) → eqb (x % 2) 1 ≡ b → pick (eqb (x % 2) 1) 1 0 ≡ x % 2
    low true e = pick_true (eqb (x % 2) 1) 1 0 e ∙ sym (eqb-true (x % 2) 1 e)
    low false e = let n = eqb-false (x % 2) 1 e in let z : 0 ≡ x % 2 = omega (arith, n) in pick_false (eqb (x % 2) 1) 1 0 e ∙ z

-- bytes are those of their bits
bits_bytes : (xs : List ℕ) → Bytes xs → bytes_from (length xs) (bits_in xs) ≡ xs
bits_bytes [] h = refl
bits_bytes (x ∷ xs) h = λ j. bits_number 8 x (first_below 256 x xs h) j ∷ bits_bytes xs (others_below 256 x xs h) j

-- bytes whose unused bits are 0 are the packed bits that are read from them
pub packed_back : (n : ℕ) (xs : List ℕ) → length xs ≡ bytes_asked n → Bytes xs → unused_clear n xs ≡ true → packed (host_bits n xs) ≡ xs
unfolding unused_clear
packed_back n xs long h u =
    let k = length xs in
    ap (λ (m : ℕ). bytes_from (bytes_asked m) (host_bits n xs)) (host_many n xs (omega arith))
    ∙ ap (λ (m : ℕ). bytes_from m (host_bits n xs)) (sym long)
    ∙ sym (bytes_padded k (host_bits n xs))
    ∙ ap (λ (m : ℕ). bytes_from k (padded m (host_bits n xs))) (sym (bits_many xs))
    ∙ ap (bytes_from k) (padded_back n (bits_in xs) u)
    ∙ bits_bytes xs h
