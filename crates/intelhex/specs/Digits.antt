-- Laws: what a hex digit is worth at most.
use Prim.Native.Char.{code as letter}
use Rattle.std.specs.Prelude.{◌≡◌, ℕ, ◌≤◌, true}
use Rattle.std.proofs.Common.{arith, leb-true}
use Rattle.base.specs.Pick.{pick_if}
use Rattle.base.specs.Both.{both_holds}
use Rattle.intelhex.specs.Bytes.{between, worth}

pub between_ends : (least c most : ℕ) → between least c most ≡ true → (least ≤ c) × (c ≤ most)
unfolding between
between_ends least c most t = let p = both_holds _ _ t in (leb-true least c p.0, leb-true c most p.1)

-- a digit is worth 15 at most, and two of them make a byte
pub worth_most : (c : ℕ) → worth c ≤ 15
unfolding worth
worth_most c =
    pick_if (λ (n : ℕ). n ≤ 15) (between (letter "0") c (letter "9")) _ _ (λ t. let p = between_ends _ _ _ t in let h = p.0 in let k = p.1 in omega arith)
    (λ e.
    pick_if (λ (n : ℕ). n ≤ 15) (between (letter "A") c (letter "F")) _ _ (λ t. let p = between_ends _ _ _ t in let h = p.0 in let k = p.1 in omega arith)
    (λ e.
    pick_if (λ (n : ℕ). n ≤ 15) (between (letter "a") c (letter "f")) _ _ (λ t. let p = between_ends _ _ _ t in let h = p.0 in let k = p.1 in omega arith)
    (λ e. omega arith)))
