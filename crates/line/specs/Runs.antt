-- Laws: a run of slots, eight to a byte, is the run over all its bits.
use Rattle.std.specs.Prelude.{ℕ, zero, suc, ◌+◌, ◌-◌, ◌*◌, ◌/◌, ◌%◌, ◌^◌, ◌<◌, ◌≤◌, Bool, true, false, List, [], ◌∷◌, ◌++◌, ◌≡◌, refl, eqb, ltb, length, take, drop, get_or, set}
use Rattle.std.proofs.Common.{arith, add_assoc, zero-add, add-one, pow_mono, append_assoc, append-nil, ◌∙◌, ap, sym, subst, length-set, length-take, drop_of_length-le, take_at, drop_at, drop-cons, take-suc-set, take_all, length-take-le, ltb-true, ltb-false}
use Rattle.std.proofs.Math.Nat.{pow-succ', min-le_left}
use Rattle.std.proofs.lemmas.List.{length-map, take-append-le}
use Rattle.std.proofs.Math.Seq.{take-append-add}
use Rattle.base.specs.Pick.{pick, pick_true, pick_false, pick_if}
use Rattle.chip.specs.Chip.{Whole}
use Rattle.line.specs.Line.{value_of, after_by}
use Rattle.line.specs.Slots.{bits_of, bits_in, number_from, bytes_from, host_bits, Run, ran, run_on, bytes_asked}
use Rattle.line.specs.declared.Plan.TheVariants as plan

-- one run after another
pub run_append : (hs bs : List Bool) (L : List Whole) → run_on (hs ++ bs) L ≡ (let r = run_on hs L in let q = run_on bs r.line in ran (r.bits ++ q.bits) q.line)
run_append [] bs L = refl
run_append (a ∷ hs) bs L = ap (λ (r : Run). ran (value_of a L ∷ r.bits) r.line) (run_append hs bs (after_by (plan.Slot a) L))

-- a bit on the bus for each slot
pub run_length : (bs : List Bool) (L : List Whole) → length (run_on bs L).bits ≡ length bs
run_length [] L = refl
run_length (b ∷ bs) L = ap suc (run_length bs (after_by (plan.Slot b) L))

-- what a slot keeps a run keeps: so as many chips
pub run_keeps : (P : List Whole → Type 0) → ((b : Bool) (L : List Whole) → P L → P (after_by (plan.Slot b) L)) → (bs : List Bool) (L : List Whole) → P L → P (run_on bs L).line
run_keeps P k [] L h = h
run_keeps P k (b ∷ bs) L h = run_keeps P k bs (after_by (plan.Slot b) L) (k b L h)

pub run_full : (bs : List Bool) (L : List Whole) → length (run_on bs L).line ≡ length L
run_full bs L = run_keeps (λ (K : List Whole). length K ≡ length L) (λ b K h. length-map K _ ∙ h) bs L refl

-- ---- up to eight slots, whose host bits are the first of a byte

-- where a loop over them stands after i: what is left to put is host, and the bits so far are sum
pub record InByte (bits count : ℕ) (L₀ : List Whole) (i host sum worth : ℕ) (L : List Whole) : Type 0 where
  pub line : (run_on (bits_of (count - i) host) L).line ≡ (run_on (bits_of count bits) L₀).line
  pub summed : sum + number_from worth (run_on (bits_of (count - i) host) L).bits ≡ number_from 1 (run_on (bits_of count bits) L₀).bits
  pub worth_is : worth ≡ 2 ^ i
  pub below : sum < worth
  pub within : i ≤ count
  pub few : count ≤ 8

pub byte_start : (bits count : ℕ) (L : List Whole) → count ≤ 8 → InByte bits count L 0 bits 0 1 L
byte_start bits count L h =
    let z : count - 0 ≡ count = omega arith in
    record { line = rw z refl; summed = rw z (zero-add _); worth_is = refl; below = omega arith; within = omega arith; few = h }

module _ (bits count : ℕ) (L₀ : List Whole) (i host sum worth : ℕ) (L : List Whole) (g : InByte bits count L₀ i host sum worth L) where
  -- what a turn may add, and to what the worth may grow
  pub byte_worth : i < count → worth ≤ 128
  byte_worth h =
      let f = g.few in
      let p : 2 ^ i ≤ 2 ^ 7 = pow_mono {i = i} {j = 7} (omega arith) in
      let w = g.worth_is in
      omega arith

  pub byte_next : (b v : Bool) (s : ℕ) (K : List Whole) → i < count → b ≡ eqb (host % 2) 1 → v ≡ value_of b L → s ≡ sum + pick v worth 0 → K ≡ after_by (plan.Slot b) L
      → InByte bits count L₀ (i + 1) (host / 2) s (2 * worth) K
  byte_next b v s K h e f p q =
      let k = count - (i + 1) in
      let z : count - i ≡ suc k = omega arith in
      let rest = run_on (bits_of k (host / 2)) in
      let one : run_on (bits_of (count - i) host) L ≡ (let r = rest K in ran (v ∷ r.bits) r.line)
      = ap (λ (n : ℕ). run_on (bits_of n host) L) z ∙ (λ j. let r = rest (after_by (plan.Slot (sym e j)) L) in ran (value_of (sym e j) L ∷ r.bits) r.line)
      ∙ (λ j. let r = rest (sym q j) in ran (sym f j ∷ r.bits) r.line) in
      let x = pick v worth 0 in
      let n = number_from (2 * worth) (rest K).bits in
      let m = byte_worth h in
      let small : s < 2 * worth = added v s p in
      record {
        line = sym (ap (λ (r : Run). r.line) one) ∙ g.line;
        summed = ap (λ (y : ℕ). y + n) p ∙ add_assoc sum x n ∙ sym (ap (λ (r : Run). sum + number_from worth r.bits) one) ∙ g.summed;
        worth_is = ap (λ (y : ℕ). 2 * y) g.worth_is ∙ twice i;
        below = small;
        within = omega arith;
        few = g.few;
      }
    where
      added : (w : Bool) (t : ℕ) → t ≡ sum + pick w worth 0 → t < 2 * worth
      added true t r = let c = g.below in let d = pick_true true worth 0 refl in omega arith
      added false t r = let c = g.below in let d = pick_false false worth 0 refl in omega arith

      twice : (n : ℕ) → 2 * 2 ^ n ≡ 2 ^ (n + 1)
      twice n = sym (ap (λ (m : ℕ). 2 ^ m) (add-one n) ∙ pow-succ' 2 n)

  -- the bits as a number, which a byte holds
  pub byte_end : count ≤ i → (sum ≡ number_from 1 (run_on (bits_of count bits) L₀).bits) × (L ≡ (run_on (bits_of count bits) L₀).line) × (sum < 256)
  byte_end h =
      let w = g.within in
      let z : count - i ≡ 0 = omega arith in
      let none : run_on (bits_of (count - i) host) L ≡ ran [] L = ap (λ (n : ℕ). run_on (bits_of n host) L) z in
      let f = g.few in
      let p : 2 ^ i ≤ 2 ^ 8 = pow_mono {i = i} {j = 8} (omega arith) in
      let b = g.below in
      let q = g.worth_is in
      let s : sum + 0 ≡ number_from 1 (run_on (bits_of count bits) L₀).bits = sym (ap (λ (r : Run). sum + number_from worth r.bits) none) ∙ g.summed in
      (omega arith, sym (ap (λ (r : Run). r.line) none) ∙ g.line, omega arith)

-- a bit adds at most its worth
pub bit_most : (b : Bool) (worth : ℕ) → pick b worth 0 ≤ worth
bit_most b worth = pick_if (λ (n : ℕ). n ≤ worth) b worth 0 (λ e. omega arith) (λ e. omega arith)

-- ---- all slots of a run, byte after byte

-- the first bits of a byte, and those of the bytes after it
pub bits_length : (n x : ℕ) → length (bits_of n x) ≡ n
bits_length zero x = refl
bits_length (suc n) x = ap suc (bits_length n (x / 2))

pub bits_first : (k n x : ℕ) → k ≤ n → take k (bits_of n x) ≡ bits_of k x
bits_first zero n x h = refl
bits_first (suc k) zero x h = absurd (omega arith)
bits_first (suc k) (suc n) x h = ap (λ (l : List Bool). eqb (x % 2) 1 ∷ l) (bits_first k n (x / 2) (omega arith))

-- bytes have eight bits each, and as many of them are the host's as are asked for, where there are so many
pub bits_many : (xs : List ℕ) → length (bits_in xs) ≡ 8 * length xs
bits_many [] = refl
bits_many (x ∷ xs) = let h = bits_many xs in omega arith

pub host_many : (n : ℕ) (xs : List ℕ) → n ≤ 8 * length xs → length (host_bits n xs) ≡ n
host_many n xs h = let m = bits_many xs in length-take-le n (bits_in xs) (omega arith)

-- they are never more
pub host_most : (n : ℕ) (xs : List ℕ) → length (host_bits n xs) ≤ n
host_most n xs = let e = length-take n (bits_in xs) in let m = min-le_left n (length (bits_in xs)) in omega arith

-- how many slots the next byte has
abbrev pub count_of : ℕ → ℕ
count_of left = pick (ltb left 8) left 8

count_cases : (P : ℕ → Type 0) (left : ℕ) → (left < 8 → P left) → (8 ≤ left → P 8) → P (count_of left)
count_cases P left f g = pick_if P (ltb left 8) left 8 (λ e. f (ltb-true left 8 e)) (λ e. g (ltb-false left 8 e))

pub count_few : (left : ℕ) → (count_of left ≤ 8) × (count_of left ≤ left)
count_few left = count_cases (λ n. (n ≤ 8) × (n ≤ left)) left (λ h. (omega arith, omega arith)) (λ h. (omega arith, omega arith))

pub count_some : (left : ℕ) → 0 < left → 0 < count_of left
count_some left h = count_cases (λ n. 0 < n) left (λ u. h) (λ u. omega arith)

host_next : (left x : ℕ) (xs : List ℕ) → host_bits left (x ∷ xs) ≡ bits_of (count_of left) x ++ host_bits (left - count_of left) xs
host_next left x xs =
    count_cases (λ n. host_bits left (x ∷ xs) ≡ bits_of n x ++ host_bits (left - n) xs) left
    (λ h. let l = bits_length 8 x in
    let z : left - left ≡ 0 = omega arith in
    take-append-le left (bits_of 8 x) (bits_in xs) (omega arith) ∙ bits_first left 8 x (omega arith)
    ∙ sym (append-nil (bits_of left x)) ∙ ap (λ (k : ℕ). bits_of left x ++ take k (bits_in xs)) (sym z))
    (λ h. let e : left ≡ 8 + (left - 8) = omega arith in
    ap (λ (k : ℕ). take k (bits_of 8 x ++ bits_in xs)) e ∙ take-append-add (bits_of 8 x) (bits_in xs) (left - 8))

-- the bits of a byte, and those of the next ones, as bytes: only the last byte of a run has fewer than eight
bytes_next : (n left : ℕ) (hs bs : List Bool) → length hs ≡ count_of left → length bs ≤ left - count_of left → bytes_from (suc n) (hs ++ bs) ≡ number_from 1 hs ∷ bytes_from n bs
bytes_next n left hs bs = count_cases (λ k. length hs ≡ k → length bs ≤ left - k → bytes_from (suc n) (hs ++ bs) ≡ number_from 1 hs ∷ bytes_from n bs) left
    (λ h e f. last bs (omega arith) hs (omega arith))
    (λ h e f. λ j. number_from 1 (take_at hs bs 8 e j) ∷ bytes_from n (drop_at hs bs 8 e j))
  where
    last : (bs : List Bool) → length bs ≡ 0 → (hs : List Bool) → length hs ≤ 8 → bytes_from (suc n) (hs ++ bs) ≡ number_from 1 hs ∷ bytes_from n bs
    last [] z hs l = (λ j. number_from 1 (take 8 (append-nil hs j)) ∷ bytes_from n (drop 8 (append-nil hs j)))
        ∙ (λ j. number_from 1 (take_all 8 hs l j) ∷ bytes_from n (drop_of_length-le hs {i = 8} l j))
    last (b ∷ bs) z hs l = absurd (omega arith)

-- where the loop over the bytes stands: so many are done, and so many slots are left
pub record Running (slots : ℕ) (bits answers₀ : List ℕ) (L₀ : List Whole) (at left : ℕ) (answers : List ℕ) (L : List Whole) : Type 0 where
  pub line : (run_on (host_bits left (drop at bits)) L).line ≡ (run_on (host_bits slots bits) L₀).line
  pub said : take at answers ++ bytes_from (length answers - at) (run_on (host_bits left (drop at bits)) L).bits ≡ bytes_from (length answers₀) (run_on (host_bits slots bits) L₀).bits
  pub asked : bytes_asked left + at ≡ length bits
  pub size : length answers ≡ length bits
  pub size₀ : length answers ≡ length answers₀
  pub few : left ≤ 65535

pub running_start : (slots : ℕ) (bits answers : List ℕ) (L : List Whole) → slots ≤ 65535 → length bits ≡ bytes_asked slots → length answers ≡ bytes_asked slots → Running slots bits answers L 0 slots answers L
running_start slots bits answers L h b a =
    let z : length answers - 0 ≡ length answers = omega arith in
    record { line = refl; said = rw z refl; asked = omega arith; size = omega arith; size₀ = refl; few = h }

module _ (slots : ℕ) (bits answers₀ : List ℕ) (L₀ : List Whole) (at left : ℕ) (answers : List ℕ) (L : List Whole) (g : Running slots bits answers₀ L₀ at left answers L) where
  -- the byte of host bits, and the place of its answers
  pub running_at : 0 < left → (at < length bits) × (at < length answers)
  running_at h = let a = g.asked in let b = g.size in (omega arith, omega arith)

  byte_done : (x y : ℕ) (K : List Whole) → 0 < left → x ≡ get_or bits at 0 → (let r = run_on (bits_of (count_of left) x) L in (y ≡ number_from 1 r.bits) × (K ≡ r.line))
      → Running slots bits answers₀ L₀ (at + 1) (left - count_of left) (set answers at y) K
  byte_done x y K h e (f, q) =
      let n = count_of left in
      let r = run_on (bits_of n x) L in
      let rest = run_on (host_bits (left - n) (drop (at + 1) bits)) K in
      let i = running_at h in
      let c = count_few left in
      let a = g.asked in
      let b = g.size in
      let l = length-set answers at y in
      let more : drop at bits ≡ x ∷ drop (at + 1) bits = drop-cons bits at 0 i.0 ∙ (λ j. sym e j ∷ drop (sym (add-one at) j) bits) in
      let all : run_on (host_bits left (drop at bits)) L ≡ ran (r.bits ++ rest.bits) rest.line
      = ap (λ (z : List ℕ). run_on (host_bits left z) L) more ∙ ap (λ (z : List Bool). run_on z L) (host_next left x (drop (at + 1) bits))
      ∙ run_append (bits_of n x) (host_bits (left - n) (drop (at + 1) bits)) L
      ∙ (λ j. let w = run_on (host_bits (left - n) (drop (at + 1) bits)) (sym q j) in ran (r.bits ++ w.bits) w.line) in
      let m = length answers - (at + 1) in
      let s : length answers - at ≡ suc m = omega arith in
      let lr : length r.bits ≡ n = run_length (bits_of n x) L ∙ bits_length n x in
      let lb : length rest.bits ≤ left - n = let u = run_length (host_bits (left - n) (drop (at + 1) bits)) K in let v = host_most (left - n) (drop (at + 1) bits) in omega arith in
      let t : bytes_asked (left - n) + (at + 1) ≡ length bits = asked_next left (bytes_asked left) h refl a in
      record {
        line = sym (ap (λ (z : Run). z.line) all) ∙ g.line;
        said =
            (λ j. (ap (λ (k : ℕ). take k (set answers at y)) (add-one at) ∙ take-suc-set answers at y i.1) j ++ bytes_from (ap (λ (k : ℕ). k - (at + 1)) l j) rest.bits)
            ∙ append_assoc (take at answers) (y ∷ []) (bytes_from m rest.bits)
            ∙ ap (λ (z : List ℕ). take at answers ++ z) ((λ j. f j ∷ bytes_from m rest.bits) ∙ sym (bytes_next m left r.bits rest.bits lr lb))
            ∙ sym ((λ j. take at answers ++ bytes_from (s j) (all j).bits))
            ∙ g.said;
        asked = t;
        size = l ∙ g.size;
        size₀ = l ∙ g.size₀;
        few = let u = g.few in omega arith;
      }
    where
      asked_next : (k a : ℕ) → 0 < k → a ≡ bytes_asked k → a + at ≡ length bits → bytes_asked (k - count_of k) + (at + 1) ≡ length bits
      asked_next k a h e p = count_cases (λ n. bytes_asked (k - n) + (at + 1) ≡ length bits) k (λ u. omega arith) (λ u. omega arith)

  pub running_next : (x y n : ℕ) (K : List Whole) → 0 < left → x ≡ get_or bits at 0 → n ≡ count_of left → y ≡ number_from 1 (run_on (bits_of n x) L).bits → K ≡ (run_on (bits_of n x) L).line
      → Running slots bits answers₀ L₀ (at + 1) (left - n) (set answers at y) K
  running_next x y n K h e c =
      subst (λ (m : ℕ). y ≡ number_from 1 (run_on (bits_of m x) L).bits → K ≡ (run_on (bits_of m x) L).line → Running slots bits answers₀ L₀ (at + 1) (left - m) (set answers at y) K) (sym c)
      (λ f q. byte_done x y K h e (f, q))

  -- nothing is left
  pub running_end : left ≤ 0 → (answers ≡ bytes_from (length answers₀) (run_on (host_bits slots bits) L₀).bits) × (L ≡ (run_on (host_bits slots bits) L₀).line)
  running_end h =
      let z : left ≡ 0 = omega arith in
      let a = g.asked in
      let b = g.size in
      let none : run_on (host_bits left (drop at bits)) L ≡ ran [] L = ap (λ (k : ℕ). run_on (host_bits k (drop at bits)) L) z in
      let m : length answers - at ≡ 0 = omega arith in (
        sym (take_all at answers (omega arith)) ∙ sym (append-nil (take at answers)) ∙ sym (λ j. take at answers ++ bytes_from (m j) (none j).bits) ∙ g.said,
        sym (ap (λ (r : Run). r.line) none) ∙ g.line,
      )
