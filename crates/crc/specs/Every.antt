-- Laws: a rule of n bits, of a register or of the numbers below n, shown for all of them by one test that is computed at each.
use Rattle.std.specs.Prelude.{ℕ, zero, suc, ◌<◌, Bool, true, false, ◌≡◌, refl, eqb}
use Rattle.std.proofs.Common.{not-suc-le-zero, arith, ◌∙◌, ap, eqb-true}
use Rattle.std.proofs.lemmas.Bool.{eqb-false}
use Rattle.base.specs.Bits.{both}
use Rattle.base.specs.Both.{both_holds}
use Rattle.crc.specs.declared.figure4.ShiftRegister.{ShiftRegister}

-- a test of n bits
abbrev pub Test : ℕ → Type 0
Test zero = Bool
Test (suc n) = Bool → Test n

-- whether all bits pass it
abbrev pub every : (n : ℕ) → Test n → Bool
every zero t = t
every (suc n) t = both (every n (t true)) (every n (t false))

-- all bits pass it
abbrev pub Passed : (n : ℕ) → Test n → Type 0
Passed zero t = t ≡ true
Passed (suc n) t = (b : Bool) → Passed n (t b)

-- a bit is one of two
of_two : (P : Bool → Type 0) → P true → P false → (b : Bool) → P b
of_two P p q true = p
of_two P p q false = q

pub at_each : (n : ℕ) (t : Test n) → every n t ≡ true → Passed n t
at_each zero t e = e
at_each (suc n) t e =
    let h = both_holds (every n (t true)) (every n (t false)) e in
    of_two (λ (b : Bool). Passed n (t b)) (at_each n (t true) h.0) (at_each n (t false) h.1)

-- the register of these stages, 1st to 8th
abbrev pub stages : Bool → Bool → Bool → Bool → Bool → Bool → Bool → Bool → ShiftRegister
stages a b c d e f g h = record { stage1 = a; stage2 = b; stage3 = c; stage4 = d; stage5 = e; stage6 = f; stage7 = g; stage8 = h }

-- whether all 256 registers pass a test
abbrev pub every_register : (ShiftRegister → Bool) → Bool
every_register t = every 8 (λ a b c d e f g h. t (stages a b c d e f g h))

pub at_each_register : (t : ShiftRegister → Bool) → every_register t ≡ true → (r : ShiftRegister) → t r ≡ true
at_each_register t e r =
    at_each 8 (λ a b c d e f g h. t (stages a b c d e f g h)) e
    r.stage1 r.stage2 r.stage3 r.stage4 r.stage5 r.stage6 r.stage7 r.stage8

-- whether all numbers below n pass a test
abbrev pub every_below : (n : ℕ) → (ℕ → Bool) → Bool
every_below zero t = true
every_below (suc n) t = both (t n) (every_below n t)

pub at_each_below : (n : ℕ) (t : ℕ → Bool) → every_below n t ≡ true → (x : ℕ) → x < n → t x ≡ true
at_each_below zero t e x h = absurd (not-suc-le-zero h)
at_each_below (suc n) t e x h =
    let b = both_holds (t n) (every_below n t) e in
    top_or_below n t x h b.0 (at_each_below n t b.1 x) (eqb x n) refl
  where
    top_or_below : (n : ℕ) (t : ℕ → Bool) (x : ℕ) → x < suc n → t n ≡ true → (x < n → t x ≡ true) → (q : Bool) → eqb x n ≡ q → t x ≡ true
    top_or_below n t x h top below true e = ap t (eqb-true x n e) ∙ top
    top_or_below n t x h top below false e = let d = eqb-false x n e in below (omega (arith, h, d))
