-- Laws: a loop over 0..n, as a fold over the numbers that are left.
use Rattle.std.specs.Prelude.{ℕ, suc, ◌+◌, ◌-◌, ◌<◌, ◌≤◌, ◌≡◌}
use Rattle.std.specs.List.{fold, range_with_len}
use Rattle.std.proofs.Common.{arith, ap, add-one}

module _ {A : Type 0} (step : A → ℕ → A) (n : ℕ) where
  -- what the turns from k on make of x
  abbrev pub turns_from : ℕ → A → A
  turns_from k x = fold step x (range_with_len k (n - k))

  pub turn_next : (k : ℕ) (x : A) → k < n → turns_from k x ≡ turns_from (k + 1) (step x k)
  turn_next k x h =
      let e : n - k ≡ suc (n - (k + 1)) = omega (arith, add-one) in
      ap (λ (j : ℕ). fold step x (range_with_len k j)) e

  pub turn_last : (k : ℕ) (x : A) → n ≤ k → turns_from k x ≡ x
  turn_last k x h =
      let e : n - k ≡ 0 = omega arith in
      ap (λ (j : ℕ). fold step x (range_with_len k j)) e
