-- Laws: what a reader makes of a page, by its size, its kind and its length.
use Rattle.std.specs.Prelude.{ℕ, List, [], ◌∷◌, ◌≡◌, eqb, length, ℤ, Result, Err}
use Rattle.std.proofs.Common.{◌∙◌}
use Rattle.std.proofs.Math.Path.{ap, sym}
use borrow.Author.Tests.{eq-eqb, ne_eqb}
use Rattle.base.specs.Pick.{pick, pick_true, pick_false}
use Rattle.setpoints.specs.Kinds.{Form, degrees}
use Rattle.setpoints.specs.Pages.{page_size, length_in, kind_in, length_of, value_in, judged, read_record, read_among, read_page, read101, read102, read_either}
use Rattle.setpoints.specs.declared.Fault.{Fault}
use Rattle.setpoints.specs.declared.Fault.TheVariants.{AnotherKind, WrongLength}

module _ (fs : List Form) (page : List ℕ) where
  pub no_page : (length page ≡ page_size → ⊥) → Err WrongLength ≡ read_page fs page
  unfolding read_page
  no_page n = sym (pick_false _ _ _ (ne_eqb (length page) page_size n))

  on_page : length page ≡ page_size → read_among fs page ≡ read_page fs page
  unfolding read_page
  on_page e = sym (pick_true _ _ _ (eq-eqb (length page) page_size e))

-- a reader of one kind
module _ (f : Form) (page : List ℕ) (e : length page ≡ page_size) where
  pub another_kind : (kind_in page ≡ f.kind → ⊥) → Err AnotherKind ≡ read_page (f ∷ []) page
  unfolding read_among
  another_kind n = sym (pick_false _ _ _ (ne_eqb (kind_in page) f.kind n)) ∙ on_page (f ∷ []) page e

  own_kind : kind_in page ≡ f.kind → read_record f page ≡ read_page (f ∷ []) page
  unfolding read_among
  own_kind q = sym (pick_true _ _ _ (eq-eqb (kind_in page) f.kind q)) ∙ on_page (f ∷ []) page e

  pub wrong_length : kind_in page ≡ f.kind → (length_in page ≡ length_of f → ⊥) → Err WrongLength ≡ read_page (f ∷ []) page
  unfolding read_record
  wrong_length q n = sym (pick_false _ _ _ (ne_eqb (length_in page) (length_of f) n)) ∙ own_kind q

  pub whole_record : kind_in page ≡ f.kind → length_in page ≡ length_of f → judged f (value_in f page) ≡ read_page (f ∷ []) page
  unfolding read_record
  whole_record q r = sym (pick_true _ _ _ (eq-eqb (length_in page) (length_of f) r)) ∙ own_kind q

-- of kind 101 the common reader answers as that of kind 101, and of any other as that of kind 102
module _ (page : List ℕ) where
  same_on : (fs gs : List Form) → read_among fs page ≡ read_among gs page → read_page fs page ≡ read_page gs page
  unfolding read_page
  same_on fs gs q = ap (λ (x : Result ℤ Fault). pick (eqb (length page) page_size) x (Err WrongLength)) q

  pub own_101 : kind_in page ≡ degrees.kind → read101 page ≡ read_either page
  unfolding read_among
  own_101 q = let t = eq-eqb (kind_in page) degrees.kind q in same_on _ _ (pick_true _ _ _ t ∙ sym (pick_true _ _ _ t))

  pub other_than_101 : (kind_in page ≡ degrees.kind → ⊥) → read102 page ≡ read_either page
  unfolding read_among
  other_than_101 n = same_on _ _ (sym (pick_false _ _ _ (ne_eqb (kind_in page) degrees.kind n)))

pub ruleset refusals = (no_page, another_kind, wrong_length)
