-- Laws: the answers of readers and writers by the tests that they make, each exactly when.
use Rattle.std.specs.Prelude.{ℕ, Bool, true, false, ◌⊎◌, ◌≡◌, refl, ℤ, pos}
use Rattle.std.proofs.Common.{arith, true≢false, inl, inr}
use Rattle.std.proofs.Math.Path.{ap, sym}
use Rattle.base.specs.Exactly.{Iff, No, apart, by_else, by_first, by_then, by_neither}
use Rattle.base.specs.Pick.{pick}
use Rattle.setpoints.specs.Pages.{Answered, setpoint, written, refused}

-- an answer by a number, which tells the answers apart
code : Answered → ℕ
code (setpoint z) = 0
code written = 1
code (refused n) = n

-- the tenths in an answer
tenths_of : Answered → ℤ
tenths_of (setpoint z) = z
tenths_of written = pos 0
tenths_of (refused n) = pos 0

-- the answers of a reader of one kind, by its four tests
abbrev pub chain : Bool → Bool → Bool → Bool → ℤ → Answered
chain a b c d z = pick a (pick b (pick c (pick d (setpoint z) (refused 15)) (refused 14)) (refused 13)) (refused 14)

module _ (a b c d : Bool) (z : ℤ) where
  pub is_13 : Iff (chain a b c d z ≡ refused 13) ((a ≡ true) × (b ≡ false))
  unfolding code
  is_13 =
      by_then _ a _ _ _ (apart code (refused 14) (refused 13) (λ p. omega arith))
      (by_else b _ _
      (by_neither c _ _ _ (by_neither d _ _ _ (apart code (setpoint z) (refused 13) (λ p. omega arith)) (apart code (refused 15) (refused 13) (λ p. omega arith)))
      (apart code (refused 14) (refused 13) (λ p. omega arith))))

  pub is_15 : Iff (chain a b c d z ≡ refused 15) ((a ≡ true) × ((b ≡ true) × ((c ≡ true) × (d ≡ false))))
  unfolding code
  is_15 =
      by_then _ a _ _ _ (apart code (refused 14) (refused 15) (λ p. omega arith))
      (by_then _ b _ _ _ (apart code (refused 13) (refused 15) (λ p. omega arith))
      (by_then _ c _ _ _ (apart code (refused 14) (refused 15) (λ p. omega arith))
      (by_else d _ _ (apart code (setpoint z) (refused 15) (λ p. omega arith)))))

  pub is_given : (y : ℤ) → Iff (chain a b c d z ≡ setpoint y) ((a ≡ true) × ((b ≡ true) × ((c ≡ true) × ((d ≡ true) × (y ≡ z)))))
  unfolding code tenths_of
  is_given y =
      by_then _ a _ _ _ (apart code (refused 14) (setpoint y) (λ p. omega arith))
      (by_then _ b _ _ _ (apart code (refused 13) (setpoint y) (λ p. omega arith))
      (by_then _ c _ _ _ (apart code (refused 14) (setpoint y) (λ p. omega arith))
      (by_then _ d _ _ _ (apart code (refused 15) (setpoint y) (λ p. omega arith)) ((λ e. sym (ap tenths_of e)), (λ e. ap setpoint (sym e))))))

pub is_14 : (a b c d : Bool) (z : ℤ) → Iff (chain a b c d z ≡ refused 14) ((a ≡ false) ⊎ ((a ≡ true) × ((b ≡ true) × (c ≡ false))))
unfolding pick code
is_14 false b c d z = ((λ e. inl refl), (λ p. refl))
is_14 true true false d z = ((λ e. inr (refl, (refl, refl))), (λ p. refl))
is_14 true false c d z = (((λ e. absurd (apart code (refused 13) (refused 14) (λ p. omega arith) e))), no)
  where
    no : (true ≡ false) ⊎ ((true ≡ true) × ((false ≡ true) × (c ≡ false))) → refused 13 ≡ refused 14
    no (inl e) = absurd (true≢false e)
    no (inr p) = absurd (true≢false (sym p.1.0))
is_14 true true true d z = (by d, no)
  where
    by : (d : Bool) → pick d (setpoint z) (refused 15) ≡ refused 14 → (true ≡ false) ⊎ ((true ≡ true) × ((true ≡ true) × (true ≡ false)))
    by true e = absurd (apart code (setpoint z) (refused 14) (λ p. omega arith) e)
    by false e = absurd (apart code (refused 15) (refused 14) (λ p. omega arith) e)

    no : (true ≡ false) ⊎ ((true ≡ true) × ((true ≡ true) × (true ≡ false))) → pick d (setpoint z) (refused 15) ≡ refused 14
    no (inl e) = absurd (true≢false e)
    no (inr p) = absurd (true≢false p.1.1)

-- the answers of a writer, by its two tests
abbrev pub writes : Bool → Bool → Answered
writes a b = pick a (pick b written (refused 15)) (refused 14)

module _ (a b : Bool) where
  pub wrote_14 : Iff (writes a b ≡ refused 14) (a ≡ false)
  unfolding code
  wrote_14 = by_else a _ _ (by_neither b _ _ _ (apart code written (refused 14) (λ p. omega arith)) (apart code (refused 15) (refused 14) (λ p. omega arith)))

  pub wrote_15 : Iff (writes a b ≡ refused 15) ((a ≡ true) × (b ≡ false))
  unfolding code
  wrote_15 = by_then _ a _ _ _ (apart code (refused 14) (refused 15) (λ p. omega arith)) (by_else b _ _ (apart code written (refused 15) (λ p. omega arith)))

  pub wrote_well : Iff (writes a b ≡ written) ((a ≡ true) × (b ≡ true))
  unfolding code
  wrote_well = by_then _ a _ _ _ (apart code (refused 14) written (λ p. omega arith)) (by_first b _ _ (apart code (refused 15) written (λ p. omega arith)))

  pub wrote_13 : No (writes a b ≡ refused 13)
  unfolding code
  wrote_13 =
      by_neither a _ _ _ (by_neither b _ _ _ (apart code written (refused 13) (λ p. omega arith)) (apart code (refused 15) (refused 13) (λ p. omega arith)))
      (apart code (refused 14) (refused 13) (λ p. omega arith))
