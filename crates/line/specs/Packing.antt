-- Laws: packed bits, put and read slot by slot.
use Rattle.std.specs.Prelude.{ℕ, zero, suc, ◌+◌, ◌-◌, ◌*◌, ◌/◌, ◌%◌, ◌^◌, ◌<◌, ◌≤◌, Bool, true, false, List, [], ◌∷◌, ◌++◌, ◌≡◌, refl, eqb, ltb, length, take, drop, get_or, set}
use Rattle.std.proofs.Common.{arith, one-mul, mod-lt, add-one, append_assoc, ◌∙◌, ap, sym, subst, length-set, pow_pos, pow_mono, shl_exact, take-suc, get_or-append-add, drop-cons, get_or-take, ltb-true, ltb-false}
use Rattle.std.proofs.Math.Nat.{mod-one, pow-succ', div-div-eq-div-mul}
use Rattle.std.proofs.Math.ListN.{get_or-append}
use Rattle.std.proofs.lemmas.Nat.{mod-pow-add}
use Rattle.std.proofs.lemmas.List.{take-append-le}
use Rattle.std.proofs.Math.Seq.{take-append-add}
use Rattle.base.specs.Pick.{pick}
use Rattle.base.specs.Bits.{bit_of}
use Rattle.line.specs.Runs.{bits_length, bits_first, bits_many, host_many}
use Rattle.line.specs.Slots.{bits_of, bits_in, host_bits, slot_bit, byte_with, with_slot_bit}

-- ---- one byte

-- what a place of a byte is worth
pub worth_few : (k : ℕ) → k < 8 → (0 < 2 ^ k) × (2 ^ k ≤ 128)
worth_few k h = (pow_pos k, pow_mono {i = k} {j = 7} (omega arith))

pub worth_is : (k : ℕ) → k < 8 → 1 * 2 ^ k % 18446744073709551616 ≡ 2 ^ k
worth_is k h = shl_exact {a = 1} 1 k 64 (omega arith) (omega arith) ∙ one-mul (2 ^ k)

-- the bits before a place, with a 1 there and without it, are a byte
pub with_few : (x w : ℕ) → 0 < w → w ≤ 128 → (x % w + w < 256) × (x % w < 256)
with_few x w h f = let l = mod-lt x h in (omega arith, omega arith)

-- a byte with a bit, by the bit and what its place is worth
pub with_one : (k x w : ℕ) (b : Bool) → b ≡ true → w ≡ 2 ^ k → x % w + w ≡ byte_with x k b
unfolding pick
with_one k x w b e h = rw (e, h)

pub with_none : (k x w : ℕ) (b : Bool) → b ≡ false → w ≡ 2 ^ k → x % w ≡ byte_with x k b
unfolding pick
with_none k x w b e h = let z : x % 2 ^ k ≡ x % 2 ^ k + 0 = omega arith in rw (e, h) z

-- the first bit stays, and the others are those of half the byte with the bit one place before
halves : (x k : ℕ) (b : Bool) → (byte_with x (suc k) b % 2 ≡ x % 2) × (byte_with x (suc k) b / 2 ≡ byte_with (x / 2) k b)
unfolding pick
halves x k true = let p = pow-succ' 2 k in let m = ap (λ (n : ℕ). x % 2 ^ n) (sym (add-one k)) ∙ mod-pow-add x k 1 in (omega arith, omega arith)
halves x k false = let p = pow-succ' 2 k in let m = ap (λ (n : ℕ). x % 2 ^ n) (sym (add-one k)) ∙ mod-pow-add x k 1 in (omega arith, omega arith)

-- the bits before the place stay, and the bit follows them
bits_more : (k x : ℕ) (b : Bool) → bits_of (suc k) (byte_with x k b) ≡ bits_of k x ++ (b ∷ [])
unfolding pick
bits_more zero x true = rw (mod-one x)
bits_more zero x false = rw (mod-one x)
bits_more (suc k) x b = let h = halves x k b in (λ j. eqb (h.0 j) 1 ∷ bits_of (suc k) (h.1 j)) ∙ ap (λ (l : List Bool). eqb (x % 2) 1 ∷ l) (bits_more k (x / 2) b)

-- ---- the bytes

-- less than eight, or eight and so many
below_eight : (P : ℕ → Type 0) → ((i : ℕ) → i < 8 → P i) → ((k : ℕ) → P (8 + k)) → (i : ℕ) → P i
below_eight P f g i = by (ltb i 8) refl
  where
    rest : (i k : ℕ) → 8 + k ≡ i → P i
    rest i k e = subst P e (g k)

    by : (t : Bool) → ltb i 8 ≡ t → P i
    by true e = f i (ltb-true i 8 e)
    by false e = let h = ltb-false i 8 e in rest i (i - 8) (omega arith)

-- the first bits of bytes are those of the first byte
host_first : (n x : ℕ) (xs : List ℕ) → n ≤ 8 → host_bits n (x ∷ xs) ≡ bits_of n x
host_first n x xs h = let l = bits_length 8 x in take-append-le n (bits_of 8 x) (bits_in xs) (omega arith) ∙ bits_first n 8 x h

-- a bit put into the first byte, and into those after it
put_first : (x : ℕ) (xs : List ℕ) (n : ℕ) (b : Bool) → n < 8 → with_slot_bit (x ∷ xs) n b ≡ byte_with x n b ∷ xs
unfolding with_slot_bit
put_first x xs n b h =
    let z : n / 8 ≡ 0 = omega arith in
    let m : n % 8 ≡ n = omega arith in
    λ j. set (x ∷ xs) (z j) (byte_with (get_or (x ∷ xs) (z j) 0) (m j) b)

put_later : (x : ℕ) (xs : List ℕ) (k : ℕ) (b : Bool) → with_slot_bit (x ∷ xs) (8 + k) b ≡ x ∷ with_slot_bit xs k b
unfolding with_slot_bit
put_later x xs k b =
    let s : (8 + k) / 8 ≡ suc (k / 8) = omega arith in
    let m : (8 + k) % 8 ≡ k % 8 = omega arith in
    λ j. set (x ∷ xs) (s j) (byte_with (get_or (x ∷ xs) (s j) 0) (m j) b)

-- the host's bits with one put after them are those and that one: where it is put into the first byte, into the bytes
-- after it, and so everywhere
host_put_first : (x : ℕ) (xs : List ℕ) (n : ℕ) (b : Bool) → n < 8 → host_bits (n + 1) (with_slot_bit (x ∷ xs) n b) ≡ host_bits n (x ∷ xs) ++ (b ∷ [])
host_put_first x xs n b h =
    let y = byte_with x n b in
    ap (host_bits (n + 1)) (put_first x xs n b h) ∙ host_first (n + 1) y xs (omega arith) ∙ ap (λ (k : ℕ). bits_of k y) (add-one n)
    ∙ bits_more n x b ∙ ap (λ (l : List Bool). l ++ (b ∷ [])) (sym (host_first n x xs (omega arith)))

host_put_later : (x : ℕ) (xs : List ℕ) (k : ℕ) (b : Bool) → host_bits (k + 1) (with_slot_bit xs k b) ≡ host_bits k xs ++ (b ∷ [])
    → host_bits (8 + k + 1) (with_slot_bit (x ∷ xs) (8 + k) b) ≡ host_bits (8 + k) (x ∷ xs) ++ (b ∷ [])
host_put_later x xs k b p =
    let s : 8 + k + 1 ≡ 8 + (k + 1) = omega arith in
    (λ j. host_bits (s j) (put_later x xs k b j))
    ∙ take-append-add (bits_of 8 x) (bits_in (with_slot_bit xs k b)) (k + 1) ∙ ap (λ (l : List Bool). bits_of 8 x ++ l) p
    ∙ sym (append_assoc (bits_of 8 x) (host_bits k xs) (b ∷ [])) ∙ ap (λ (l : List Bool). l ++ (b ∷ [])) (sym (take-append-add (bits_of 8 x) (bits_in xs) k))

pub host_put : (xs : List ℕ) (n : ℕ) (b : Bool) → n < 8 * length xs → host_bits (n + 1) (with_slot_bit xs n b) ≡ host_bits n xs ++ (b ∷ [])
host_put [] n b h = absurd (omega arith)
host_put (x ∷ xs) n b h =
    below_eight (λ n. n < 8 * length (x ∷ xs) → host_bits (n + 1) (with_slot_bit (x ∷ xs) n b) ≡ host_bits n (x ∷ xs) ++ (b ∷ []))
    (λ n l h. host_put_first x xs n b l)
    (λ k h. host_put_later x xs k b (host_put xs k b (omega arith)))
    n
    h

-- as many bytes as before
pub put_long : (xs : List ℕ) (n : ℕ) (b : Bool) → length (with_slot_bit xs n b) ≡ length xs
unfolding with_slot_bit
put_long xs n b = length-set xs (n / 8) _

-- ---- the bit of a slot

-- a bit of a byte
bit-at : (n x i : ℕ) → i < n → get_or (bits_of n x) i false ≡ bit_of x i
unfolding bit_of
bit-at zero x i h = absurd (omega arith)
bit-at (suc n) x zero h = ap (λ (k : ℕ). eqb (k % 2) 1) (whole x)
  where
    whole : (x : ℕ) → x ≡ x / 1
    whole x = omega arith
bit-at (suc n) x (suc i) h = bit-at n (x / 2) i (omega arith) ∙ ap (λ (k : ℕ). eqb (k % 2) 1) (div-div-eq-div-mul x 2 (2 ^ i) ∙ ap (λ (k : ℕ). x / k) (sym (pow-succ' 2 i)))

-- a bit of the first of bytes
in_first : (x : ℕ) (xs : List ℕ) (i : ℕ) → i < 8 → get_or (bits_in (x ∷ xs)) i false ≡ slot_bit (x ∷ xs) i
unfolding slot_bit
in_first x xs i l =
    let z : i / 8 ≡ 0 = omega arith in
    let m : i % 8 ≡ i = omega arith in
    get_or-append (bits_of 8 x) (bits_in xs) false i l ∙ bit-at 8 x i l ∙ (λ j. bit_of (get_or (x ∷ xs) (sym z j) 0) (sym m j))

-- a bit of the bytes after the first
in_later : (x : ℕ) (xs : List ℕ) (k : ℕ) → get_or (bits_in xs) k false ≡ slot_bit xs k → get_or (bits_in (x ∷ xs)) (8 + k) false ≡ slot_bit (x ∷ xs) (8 + k)
unfolding slot_bit
in_later x xs k h =
    let s : (8 + k) / 8 ≡ suc (k / 8) = omega arith in
    let m : (8 + k) % 8 ≡ k % 8 = omega arith in
    get_or-append-add (bits_of 8 x) (bits_in xs) k false ∙ h ∙ (λ j. bit_of (get_or (x ∷ xs) (sym s j) 0) (sym m j))

-- a bit of bytes
slot_at : (xs : List ℕ) (i : ℕ) → i < 8 * length xs → get_or (bits_in xs) i false ≡ slot_bit xs i
slot_at [] i h = absurd (omega arith)
slot_at (x ∷ xs) i h =
    below_eight (λ i. i < 8 * length (x ∷ xs) → get_or (bits_in (x ∷ xs)) i false ≡ slot_bit (x ∷ xs) i)
    (λ i l h. in_first x xs i l)
    (λ k h. in_later x xs k (slot_at xs k (omega arith)))
    i
    h

-- what is left of the host's bits starts with that of the slot
pub host_rest : (n : ℕ) (xs : List ℕ) (i : ℕ) → n ≤ 8 * length xs → i < n → drop i (host_bits n xs) ≡ slot_bit xs i ∷ drop (suc i) (host_bits n xs)
host_rest n xs i h l =
    let m = host_many n xs h in
    drop-cons (host_bits n xs) i false (omega arith) ∙ ap (λ (b : Bool). b ∷ drop (suc i) (host_bits n xs)) (get_or-take n (bits_in xs) i false l ∙ slot_at xs i (omega arith))

-- one bit more
pub host_more : (n : ℕ) (xs : List ℕ) → n < 8 * length xs → host_bits (n + 1) xs ≡ host_bits n xs ++ (slot_bit xs n ∷ [])
host_more n xs h =
    let m = bits_many xs in
    ap (λ (k : ℕ). take k (bits_in xs)) (add-one n) ∙ take-suc (bits_in xs) n false (omega arith)
    ∙ ap (λ (b : Bool). host_bits n xs ++ (b ∷ [])) (slot_at xs n h)

-- ---- bytes after others

-- the bits of bytes after bytes
bits_append : (xs ys : List ℕ) → bits_in (xs ++ ys) ≡ bits_in xs ++ bits_in ys
bits_append [] ys = refl
bits_append (x ∷ xs) ys = ap (λ (l : List Bool). bits_of 8 x ++ l) (bits_append xs ys) ∙ sym (append_assoc (bits_of 8 x) (bits_in xs) (bits_in ys))

-- the bytes after those asked for are not looked at
pub host_before : (n : ℕ) (xs ys : List ℕ) → n ≤ 8 * length xs → host_bits n (xs ++ ys) ≡ host_bits n xs
host_before n xs ys h =
    let m = bits_many xs in
    ap (take n) (bits_append xs ys) ∙ take-append-le n (bits_in xs) (bits_in ys) (omega arith)
