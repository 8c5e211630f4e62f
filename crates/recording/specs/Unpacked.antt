-- Laws: bits that were packed, eight to a byte, are found again.
use Rattle.std.specs.Prelude.{ℕ, zero, suc, ◌+◌, ◌*◌, ◌/◌, ◌%◌, ◌≤◌, Bool, true, false, List, [], ◌∷◌, ◌++◌, ◌≡◌, refl, eqb, length, take, drop}
use Rattle.std.proofs.Common.{arith, zero-add, suc-add, ◌∙◌, ap, sym}
use Rattle.std.proofs.Math.Seq.{drop-nil}
use Rattle.base.specs.Pick.{pick}
use Rattle.base.specs.Bits.{both}
use Rattle.line.specs.Slots.{bits_of, bits_in, number_from, bytes_from, host_bits}
use Rattle.recording.specs.Reading.{none_set, unused_clear}

-- ---- the bits of bytes that were made of bits

-- the first n bits, where those that are not there are 0
abbrev pub padded : ℕ → List Bool → List Bool
padded zero bs = []
padded (suc n) [] = false ∷ padded n []
padded (suc n) (b ∷ bs) = b ∷ padded n bs

-- what is past the first n does not matter
padded_take : (n : ℕ) (bs : List Bool) → padded n (take n bs) ≡ padded n bs
padded_take zero bs = refl
padded_take (suc n) [] = refl
padded_take (suc n) (b ∷ bs) = ap (λ (l : List Bool). b ∷ l) (padded_take n bs)

-- n bits, and then m of the rest
pub padded_on : (n m : ℕ) (bs : List Bool) → padded n bs ++ padded m (drop n bs) ≡ padded (n + m) bs
padded_on zero m bs = ap (λ (k : ℕ). padded k bs) (sym (zero-add m))
padded_on (suc n) m [] =
    ap (λ (l : List Bool). false ∷ l) (ap (λ (r : List Bool). padded n [] ++ padded m r) (sym (drop-nil n)) ∙ padded_on n m [])
    ∙ ap (λ (k : ℕ). padded k []) (sym (suc-add n m))
padded_on (suc n) m (b ∷ bs) = ap (λ (l : List Bool). b ∷ l) (padded_on n m bs) ∙ ap (λ (k : ℕ). padded k (b ∷ bs)) (sym (suc-add n m))

-- the bits that are there, and after them only 0s
padded_first : (bs : List Bool) (n : ℕ) → length bs ≤ n → take (length bs) (padded n bs) ≡ bs
padded_first [] n h = refl
padded_first (b ∷ bs) zero h = absurd (omega arith)
padded_first (b ∷ bs) (suc n) h = ap (λ (l : List Bool). b ∷ l) (padded_first bs n (omega arith))

padded_rest : (bs : List Bool) (n : ℕ) → length bs ≤ n → none_set (drop (length bs) (padded n bs)) ≡ true
unfolding both pick
padded_rest [] zero h = refl
padded_rest [] (suc n) h = padded_rest [] n (omega arith)
padded_rest (b ∷ bs) zero h = absurd (omega arith)
padded_rest (b ∷ bs) (suc n) h = padded_rest bs n (omega arith)

-- bits worth twice as much are a number twice as large
pub worth_twice : (worth : ℕ) (bs : List Bool) → number_from (2 * worth) bs ≡ 2 * number_from worth bs
unfolding pick
worth_twice worth [] = refl
worth_twice worth (true ∷ bs) = let e = worth_twice (2 * worth) bs in omega arith
worth_twice worth (false ∷ bs) = let e = worth_twice (2 * worth) bs in omega arith

-- the bits of the number of some bits are these
number_bits : (n : ℕ) (bs : List Bool) → bits_of n (number_from 1 bs) ≡ padded n bs
unfolding pick
number_bits zero bs = refl
number_bits (suc n) [] = ap (λ (l : List Bool). false ∷ l) (number_bits n [])
number_bits (suc n) (true ∷ bs) =
    let x = 1 + number_from 2 bs in
    let e = worth_twice 1 bs in
    let h : x % 2 ≡ 1 = omega arith in
    let q : x / 2 ≡ number_from 1 bs = omega arith in
    λ j. eqb (h j) 1 ∷ (ap (bits_of n) q ∙ number_bits n bs) j
number_bits (suc n) (false ∷ bs) =
    let x = 0 + number_from 2 bs in
    let e = worth_twice 1 bs in
    let h : x % 2 ≡ 0 = omega arith in
    let q : x / 2 ≡ number_from 1 bs = omega arith in
    λ j. eqb (h j) 1 ∷ (ap (bits_of n) q ∙ number_bits n bs) j

-- so are the bits of bytes
bytes_bits : (k : ℕ) (bs : List Bool) → bits_in (bytes_from k bs) ≡ padded (8 * k) bs
bytes_bits zero bs = refl
bytes_bits (suc k) bs =
    let e : 8 + 8 * k ≡ 8 * suc k = omega arith in
    (λ j. (number_bits 8 (take 8 bs) ∙ padded_take 8 bs) j ++ bytes_bits k (drop 8 bs) j)
    ∙ padded_on 8 (8 * k) bs ∙ ap (λ (n : ℕ). padded n bs) e

-- bits as bytes and back are the same ..
pub unpacked : (k : ℕ) (bs : List Bool) → length bs ≤ 8 * k → host_bits (length bs) (bytes_from k bs) ≡ bs
unpacked k bs h = ap (take (length bs)) (bytes_bits k bs) ∙ padded_first bs (8 * k) h

-- .. and those past them are 0
pub unused-clear : (k : ℕ) (bs : List Bool) → length bs ≤ 8 * k → unused_clear (length bs) (bytes_from k bs) ≡ true
unfolding unused_clear
unused-clear k bs h = ap (λ (l : List Bool). none_set (drop (length bs) l)) (bytes_bits k bs) ∙ padded_rest bs (8 * k) h

-- how many bytes there are
pub bytes_length : (k : ℕ) (bs : List Bool) → length (bytes_from k bs) ≡ k
bytes_length zero bs = refl
bytes_length (suc k) bs = ap suc (bytes_length k (drop 8 bs))
