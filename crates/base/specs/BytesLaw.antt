-- Laws of two runs of bytes that are compared.
use Rattle.std.specs.Prelude.{ℕ, Bool, true, false, List, [], ◌∷◌, ◌≡◌, ◌&&◌, refl, nat_eq, length}
use Rattle.std.specs.Cmp.Lexicographic.{pointwise}
use Rattle.std.proofs.Common.{ap, sym, ◌∙◌, suc}
use Rattle.base.specs.Pick.{pick}
use Rattle.base.specs.Bits.{both}
use Rattle.base.specs.Both.{both_false}
use Rattle.base.specs.Bytes.{same_bytes}

-- runs of two lengths differ
pub same_other : (xs ys : List ℕ) → (length xs ≡ length ys → ⊥) → false ≡ same_bytes xs ys
unfolding same_bytes
same_other [] [] h = absurd (h refl)
same_other [] (y ∷ ys) h = refl
same_other (x ∷ xs) [] h = refl
same_other (x ∷ xs) (y ∷ ys) h =
    sym (both_false (nat_eq x y)) ∙ ap (both (nat_eq x y)) (same_other xs ys (λ (e : length xs ≡ length ys). h (ap suc e)))

-- both of two bits, as the library's `&&` has it
pub and_both : (a b : Bool) → (a && b) ≡ both a b
unfolding both pick
and_both true b = refl
and_both false b = refl

-- the library's `==` compares two runs so
pub same_pointwise : (xs ys : List ℕ) → pointwise nat_eq xs ys ≡ same_bytes xs ys
unfolding same_bytes
same_pointwise [] [] = refl
same_pointwise [] (y ∷ ys) = refl
same_pointwise (x ∷ xs) [] = refl
same_pointwise (x ∷ xs) (y ∷ ys) = and_both (nat_eq x y) (pointwise nat_eq xs ys) ∙ ap (both (nat_eq x y)) (same_pointwise xs ys)
