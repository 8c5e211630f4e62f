-- Laws of an opening: every chip is silent in it, and after it all but those of its code wait.
use Rattle.std.specs.Prelude.{ℕ, zero, suc, ◌+◌, ◌*◌, ◌/◌, ◌%◌, ◌^◌, ◌<◌, ◌≤◌, Bool, List, [], ◌∷◌, ◌++◌, ◌≡◌, eqb}
use native.Mathlib.Omega.{arith}
use Rattle.std.proofs.Common.{mod-eq_of_lt, true≢false, ◌∙◌, ap, sym}
use Rattle.std.proofs.Math.Bool.{true, false}
use Rattle.std.proofs.Math.Path.{refl}
use Rattle.std.proofs.lemmas.Nat.{mod-pow-add}
use borrow.Author.Tests.{ltb-false}
use Rattle.base.specs.Pick.{pick, pick_if}
use Rattle.base.specs.Bits.{bit_of, same, filled}
use Rattle.base.specs.Same.{same_bit}
use Rattle.rom.specs.Rom.{command_of, command_bit, match_bit}
use Rattle.rom.specs.declared.RomResult.{RomResult}
use Rattle.rom.specs.declared.RomStep.TheVariants.{Command, Match}
use Rattle.chip.specs.With.{with_rc, with_level}
use Rattle.chip.specs.Chip.{Whole, whole, level_of, rom_slot, takes_of, sends_of, reset_chip, reset_of, outside_chip, outside_of}
use Rattle.chip.specs.Level.{takes-in, sends-in}
use Rattle.chip.specs.declared.Level.TheVariants.{Waiting, Rom}
use Rattle.histories.specs.Sent.{bits_from}
use Rattle.recovery.specs.Sessions.{opening}

-- a chip after outside levels, one after the other
abbrev pub outsides : List ℕ → Whole → Whole
outsides [] w = w
outsides (l ∷ ls) w = outsides ls (outside_of l w)

-- these leave its level and its code
outsides_level : (ls : List ℕ) (w : Whole) → (outsides ls w).chip.level ≡ w.chip.level
unfolding outside_of outside_chip
outsides_level [] w = refl
outsides_level (l ∷ ls) w = outsides_level ls (outside_of l w)

outsides_code : (ls : List ℕ) (w : Whole) → (outsides ls w).chip.code ≡ w.chip.code
unfolding outside_of outside_chip
outsides_code [] w = refl
outsides_code (l ∷ ls) w = outsides_code ls (outside_of l w)

-- in a slot of the value v a chip sends 1, and has P after it
pub record SilentSlot (P : Whole → Type 0) (v : Bool) (w : Whole) : Type 0 where
  pub sends_one : sends_of w ≡ true
  pub leaves : P (takes_of v w)

-- fed these bits, and outside levels at any time, a chip sends 1 all along and comes to P
abbrev pub Silent : (Whole → Type 0) → List Bool → Whole → Type 0
Silent P [] w = P w
Silent P (v ∷ vs) w = (ls : List ℕ) → SilentSlot (Silent P vs) v (outsides ls w)

-- a chip of another code waits
abbrev pub Waits : ℕ → Whole → Type 0
Waits code w = (w.chip.code ≡ code → ⊥) → w.chip.level ≡ Waiting

-- a slot does nothing to a chip that waits
pub waiting_takes : (w : Whole) (v : Bool) → w.chip.level ≡ Waiting → takes_of v w ≡ w
waiting_takes w v e = takes-in w v Waiting e

-- two numbers that have the same bit at a place
bit_value : (a b p : ℕ) → bit_of a p ≡ bit_of b p → a / 2 ^ p % 2 ≡ b / 2 ^ p % 2
unfolding bit_of
bit_value a b p = go (a / 2 ^ p % 2) (b / 2 ^ p % 2) (omega arith) (omega arith)
  where
    go : (x y : ℕ) → x < 2 → y < 2 → eqb x 1 ≡ eqb y 1 → x ≡ y
    go zero zero h k e = refl
    go zero (suc zero) h k e = absurd (true≢false (sym e))
    go (suc zero) zero h k e = absurd (true≢false e)
    go (suc zero) (suc zero) h k e = refl
    go zero (suc (suc y)) h k e = absurd (omega arith)
    go (suc zero) (suc (suc y)) h k e = absurd (omega arith)
    go (suc (suc x)) y h k e = absurd (omega arith)

-- two numbers that agree below a place and at it agree below the next
pub low_bits : (a b p : ℕ) → a % 2 ^ p ≡ b % 2 ^ p → bit_of a p ≡ bit_of b p → a % 2 ^ (p + 1) ≡ b % 2 ^ (p + 1)
low_bits a b p e h =
    let q : p + 1 ≡ 1 + p = omega arith in
    let k : a / 2 ^ p % 2 ≡ b / 2 ^ p % 2 = bit_value a b p h in
    ap (λ (n : ℕ). a % 2 ^ n) q
    ∙ mod-pow-add a 1 p
    ∙ ap (λ (x : ℕ). x * 2 ^ p + a % 2 ^ p) k
    ∙ ap (λ (x : ℕ). b / 2 ^ p % 2 * 2 ^ p + x) e
    ∙ sym (mod-pow-add b 1 p)
    ∙ ap (λ (n : ℕ). b % 2 ^ n) (sym q)

module _ (code : ℕ) where
  -- a chip that waits is silent
  waiting_silent : (bs : List Bool) (w : Whole) → w.chip.level ≡ Waiting → Silent (Waits code) bs w
  waiting_silent [] w e = λ n. e
  waiting_silent (b ∷ bs) w e = λ ls.
      let u = outsides ls w in
      let f : u.chip.level ≡ Waiting = outsides_level ls w ∙ e in
      record { sends_one = sends-in u Waiting f; leaves = rw (waiting_takes u b f) (waiting_silent bs u f) }

  -- of a chip of the code nothing more is said
  own_silent : (bs : List Bool) (w : Whole) → w.chip.code ≡ code → bs ≡ [] → Silent (Waits code) bs w
  own_silent bs w e z = rw z (λ n. absurd (n e))

  module _ (g : code < 2 ^ 64) where
    -- codes that agree in 64 bits are equal
    pub same_code : (a p : ℕ) → p ≡ 64 → a < 2 ^ 64 → a % 2 ^ p ≡ code % 2 ^ p → a ≡ code
    same_code a p e h s =
        let z : a % 2 ^ 64 ≡ code % 2 ^ 64 = ap (λ (n : ℕ). a % 2 ^ n) (sym e) ∙ s ∙ ap (λ (n : ℕ). code % 2 ^ n) e in
        sym (mod-eq_of_lt h) ∙ z ∙ mod-eq_of_lt g

    -- a chip that agreed with the code in p bits, with k more to come
    abbrev Matching : ℕ → ℕ → Type 0
    Matching k p = (w : Whole) → k + p ≡ 64 → w.chip.code < 2 ^ 64 → w.chip.code % 2 ^ p ≡ code % 2 ^ p → w.chip.level ≡ Rom (Match p) → Silent (Waits code) (bits_from k p code) w

    -- one bit of the code
    match-bit : (k p : ℕ) (w : Whole) → suc k + p ≡ 64 → w.chip.code < 2 ^ 64 → w.chip.code % 2 ^ p ≡ code % 2 ^ p → Matching k (p + 1)
        → Silent (Waits code) (bits_from k (p + 1) code) (whole (rom_slot w.chip (Match p) (bit_of code p)) w.memory w.pad)
    unfolding rom_slot match_bit
    match-bit k p w e h s more =
        let at : RomResult → Whole = λ (r : RomResult). whole (with_level (level_of r.next) (with_rc r.rc w.chip)) w.memory w.pad in
        let P : RomResult → Type 0 = λ (r : RomResult). Silent (Waits code) (bits_from k (p + 1) code) (at r) in
        let next : same (bit_of w.chip.code p) (bit_of code p) ≡ true → w.chip.code % 2 ^ (p + 1) ≡ code % 2 ^ (p + 1)
        = λ a. low_bits w.chip.code code p s (same_bit (bit_of w.chip.code p) (bit_of code p) a) in
        pick_if P _ _ _
        (λ a. pick_if P _ _ _
        (λ b. more _ (omega arith) h (next a) refl)
        (λ b. let r : 63 ≤ p = ltb-false p 63 b in
        let z : k ≡ 0 = omega arith in
        own_silent (bits_from k (p + 1) code) _ (same_code w.chip.code (p + 1) (omega arith) h (next a)) (ap (λ (j : ℕ). bits_from j (p + 1) code) z)))
        (λ a. waiting_silent (bits_from k (p + 1) code) _ refl)

    -- all the bits to come
    match_silent : (k p : ℕ) → Matching k p
    match_silent zero p w e h s q = λ n. absurd (n (same_code w.chip.code p (omega arith) h s))
    match_silent (suc k) p w e h s q = λ ls.
        let u = outsides ls w in
        let f : u.chip.level ≡ Rom (Match p) = outsides_level ls w ∙ q in
        let c = outsides_code ls w in
        record {
          sends_one = sends-in u (Rom (Match p)) f;
          leaves = rw (takes-in u (bit_of code p) (Rom (Match p)) f) (match-bit k p u e (rw c h) (rw c s) (match_silent k (p + 1)));
        }

    -- a chip after a bit of the ROM command, and the bits of the opening from bit i of the command on
    abbrev heard : ℕ → ℕ → Bool → Whole → Whole
    heard k b v w = whole (rom_slot w.chip (Command k b) v) w.memory w.pad

    abbrev rest : ℕ → ℕ → List Bool
    rest n i = bits_from n i 0x55 ++ bits_from 64 0 code

    command-bit : (k b : ℕ) (v : Bool) (vs : List Bool) (w : Whole) → w.chip.level ≡ Rom (Command k b) → w.chip.code < 2 ^ 64
        → ((u : Whole) → u.chip.code < 2 ^ 64 → Silent (Waits code) vs (heard k b v u)) → Silent (Waits code) (v ∷ vs) w
    command-bit k b v vs w q h next = λ ls.
        let u = outsides ls w in
        let f : u.chip.level ≡ Rom (Command k b) = outsides_level ls w ∙ q in
        record { sends_one = sends-in u (Rom (Command k b)) f; leaves = rw (takes-in u v (Rom (Command k b)) f) (next u (rw (outsides_code ls w) h)) }

    -- THEOREM: from a reset on, every chip is silent over the opening of a code, and all of other codes wait after it
    pub opening_silent : (w : Whole) → w.chip.code < 2 ^ 64 → Silent (Waits code) (opening code) (reset_of w)
    unfolding reset_of reset_chip rom_slot command_bit command_of filled bit_of pick
    opening_silent w h =
        command-bit 0 0x00 true (rest 7 1) (reset_of w) refl h (λ a h.
        command-bit 1 0x80 false (rest 6 2) (heard 0 0x00 true a) refl h (λ b h.
        command-bit 2 0x40 true (rest 5 3) (heard 1 0x80 false b) refl h (λ c h.
        command-bit 3 0xA0 false (rest 4 4) (heard 2 0x40 true c) refl h (λ d h.
        command-bit 4 0x50 true (rest 3 5) (heard 3 0xA0 false d) refl h (λ e h.
        command-bit 5 0xA8 false (rest 2 6) (heard 4 0x50 true e) refl h (λ f h.
        command-bit 6 0x54 true (rest 1 7) (heard 5 0xA8 false f) refl h (λ i h.
        command-bit 7 0xAA false (rest 0 8) (heard 6 0x54 true i) refl h (λ j h.
        match_silent 64 0 (heard 7 0xAA false j) refl h (omega arith) refl))))))))
