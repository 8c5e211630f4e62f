-- Document 02, M-109: "whoever reads gets signed tenths from either". The common reader is that of the record's own kind, by calls.
use Rattle.std.specs.Prelude.{ℕ, Bool, true, false, List, [], ◌∷◌, ◌≡◌, refl, eqb, length, ℤ, Result}
use Rattle.std.proofs.Common.{arith, ◌∙◌, sym, eqb-true}
use Rattle.std.proofs.lemmas.Bool.{eqb-false}
use Rattle.setpoints.specs.Kinds.{degrees, tenths}
use Rattle.setpoints.specs.Pages.{page_size, kind_in, read101, read102}
use Rattle.setpoints.specs.Readers.{no_page, another_kind, own_101, other_than_101}
use Rattle.setpoints.specs.declared.Fault.{Fault}
use Rattle.readback.specs.Calls.{Read101, Read102, ReadEither, told_101, told_102, told_either}

-- THEOREM: of kind 101 the common reader answers as that of kind 101 does, and of kind 102 as that of kind 102
pub either_101 : (page : List ℕ) (x y : Result ℤ Fault) → kind_in page ≡ 101 → Read101 page x → ReadEither page y → y ≡ x
either_101 page x y k a b = told_either page y b ∙ sym (own_101 page k) ∙ sym (told_101 page x a)

pub either_102 : (page : List ℕ) (x y : Result ℤ Fault) → kind_in page ≡ 102 → Read102 page x → ReadEither page y → y ≡ x
either_102 page x y k a b = told_either page y b ∙ sym (other_than_101 page (λ q. omega arith)) ∙ sym (told_102 page x a)

-- of any other kind the two answer the same
same : (page : List ℕ) → (kind_in page ≡ 101 → ⊥) → (kind_in page ≡ 102 → ⊥) → read102 page ≡ read101 page
same page n m = by (eqb (length page) page_size) refl
  where
    by : (t : Bool) → eqb (length page) page_size ≡ t → read102 page ≡ read101 page
    by true u = let e = eqb-true (length page) page_size u in sym (another_kind tenths page e m) ∙ another_kind degrees page e n
    by false u = let e = eqb-false (length page) page_size u in sym (no_page (tenths ∷ []) page e) ∙ no_page (degrees ∷ []) page e

-- THEOREM: of any other kind all three readers answer the same
pub either_none : (page : List ℕ) (x y z : Result ℤ Fault) → (kind_in page ≡ 101 → ⊥) → (kind_in page ≡ 102 → ⊥) → Read101 page x → Read102 page y → ReadEither page z
    → (z ≡ x) × (z ≡ y)
either_none page x y z n m a b c =
    let e = told_either page z c ∙ sym (other_than_101 page n) in
    (e ∙ same page n m ∙ sym (told_101 page x a), e ∙ sym (told_102 page y b))
