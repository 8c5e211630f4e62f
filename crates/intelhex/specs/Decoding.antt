-- Laws: the digits of a line put into a buffer as bytes, one pair after the other.
use Rattle.std.specs.Prelude.{◌≡◌, ℕ, ◌+◌, ◌<◌, List, [], ◌∷◌, ◌++◌, length, slice_index, slice_set, refl}
use Rattle.std.proofs.Common.{arith, add-one, ◌∙◌, ap, sym}
use Rattle.std.proofs.lemmas.List.Edits.{sets}
use Rattle.intelhex.specs.Bytes.{byte_of, bytes_of}

pub decoded_next : (s pair rest left : List ℕ) (i : ℕ) → rest ≡ pair ++ left → length pair ≡ 2
    → sets (slice_set s i (byte_of (slice_index pair 0) (slice_index pair 1))) (i + 1) (bytes_of left) ≡ sets s i (bytes_of rest)
decoded_next s [] rest left i e l = absurd (omega arith)
decoded_next s (a ∷ []) rest left i e l = absurd (omega arith)
decoded_next s (a ∷ b ∷ []) rest left i e l =
    ap (λ (j : ℕ). sets (slice_set s i (byte_of a b)) j (bytes_of left)) (add-one i) ∙ ap (λ (cs : List ℕ). sets s i (bytes_of cs)) (sym e)
decoded_next s (a ∷ b ∷ c ∷ cs) rest left i e l = absurd (omega arith)

pub decoded_all : (s rest : List ℕ) (i : ℕ) → length rest < 2 → s ≡ sets s i (bytes_of rest)
decoded_all s [] i l = refl
decoded_all s (a ∷ []) i l = refl
decoded_all s (a ∷ b ∷ cs) i l = absurd (omega arith)
