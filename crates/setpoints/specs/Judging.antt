-- Laws: values that are allowed, as words of 64 bits hold them, and their setpoints.
use Rattle.std.specs.Prelude.{ℕ, suc, ◌*◌, ◌≤◌, ◌&&◌, cond, leb, ltb, Bool, true, false, ◌≡◌, refl, T, ℤ, pos, negsuc, neg_ℤ, nat_abs, ◌*ℤ◌, Ok, Err}
use Rattle.std.proofs.Common.{Less, Equal, Greater, arith, true≢false, ◌∙◌, subst, leb-true, Fits, SFits, to_z, of_z}
use Rattle.std.proofs.Math.Path.{ap, sym}
use Rattle.std.specs.Int.Signed.{non_neg, le_z, lt_z}
use Rattle.std.specs.Int.{w16, w64}
use Rattle.std.specs.Ordering.{is_le, int_cmp}
use Rattle.std.proofs.lemmas.Bool.Decides.{nat_tests}
use Rattle.std.proofs.lemmas.Int.{to_z-of_z}
use Rattle.base.specs.Pick.{pick_true, pick_false}
use Rattle.base.specs.BytesLaw.{and_both}
use Rattle.base.specs.Both.{both_holds}
use Rattle.setpoints.specs.Kinds.{form_of, between, allowed}
use Rattle.setpoints.specs.Pages.{judged}
use Rattle.setpoints.specs.declared.Fault.TheVariants.{OutOfRange}
use Rattle.setpoints.specs.declared.Kind.{Kind}
use Rattle.setpoints.specs.declared.Kind.TheVariants.{Degrees, Tenths}

-- a number between two others, as the library tests it: by order
le_nat : (a b : ℕ) → is_le (cond (ltb a b) Less (cond (ltb b a) Greater Equal)) ≡ leb a b
le_nat a b = grind (arith, nat_tests)

le_int : (a b : ℤ) → is_le (cond (lt_z a b) Less (cond (lt_z b a) Greater Equal)) ≡ le_z a b
le_int (pos a) (pos b) = le_nat a b
le_int (pos a) (negsuc b) = refl
le_int (negsuc a) (pos b) = refl
le_int (negsuc a) (negsuc b) = le_nat b a

pub in_range : (least v most : ℤ) → (is_le (int_cmp least v) && is_le (int_cmp v most)) ≡ between least v most
unfolding between
in_range least v most = rw (le_int least v, le_int v most) (and_both (le_z least v) (le_z v most))

-- a number from one that is not negative on is itself not negative
pub at_least : (least most : ℕ) (v : ℤ) → between (pos least) v (pos most) ≡ true → (pos (nat_abs v) ≡ v) × ((least ≤ nat_abs v) × (nat_abs v ≤ most))
unfolding between
at_least least most (pos n) t = let p = both_holds _ _ t in (refl, (leb-true least n p.0, leb-true n most p.1))
at_least least most (negsuc n) t = absurd (true≢false (sym (both_holds _ _ t).0))

-- what is allowed is a number from 0 to 270
pub allowed_few : (kind : Kind) (v : ℤ) → allowed (form_of kind) v ≡ true → (pos (nat_abs v) ≡ v) × (nat_abs v ≤ 270)
allowed_few Degrees v t = let p = at_least 10 35 v t in (p.0, omega (arith, p.1.1))
allowed_few Tenths v t = let p = at_least 180 270 v t in (p.0, p.1.1)

-- it has a word of 16 bits
pub allowed_word : (kind : Kind) (z : ℤ) (r : Bool) → r ≡ allowed (form_of kind) z → r ≡ true → T (non_neg z) × Fits w16 (nat_abs z)
allowed_word kind z r a t = let p = allowed_few kind z (sym a ∙ t) in (subst (λ (x : ℤ). T (non_neg x)) p.0 tt, record { fits = omega (arith, p.1) })

-- ten times whole degrees that are allowed fit
pub tenfold_fits : (kind : Kind) (z : ℤ) (r : Bool) → kind ≡ Degrees → r ≡ allowed (form_of kind) z → r ≡ true → SFits w64 (z *ℤ pos 10)
tenfold_fits kind z r e a t =
    let p = allowed_few kind z (sym a ∙ t) in
    subst (λ (x : ℤ). SFits w64 (x *ℤ pos 10)) p.0 (record { sfits = omega (arith, p.1) })

-- once is no change
pub times_one : (z : ℤ) → z *ℤ pos 1 ≡ z
times_one (pos n) = let e : n * 1 ≡ n = omega arith in ap pos e
times_one (negsuc n) = let e : suc n * 1 ≡ suc n = omega arith in ap (λ (k : ℕ). neg_ℤ (pos k)) e

-- the setpoint of a value, by the test
module _ (kind : Kind) (v : ℤ) (r : Bool) (f : SFits w64 v) (a : r ≡ allowed (form_of kind) (to_z w64 (of_z w64 v))) where
  pub is_allowed : allowed (form_of kind) v ≡ r
  is_allowed = sym (a ∙ ap (allowed (form_of kind)) (to_z-of_z w64 v f))

  yes : (z : ℤ) → r ≡ true → z ≡ v *ℤ pos (form_of kind).worth → Ok z ≡ judged (form_of kind) v
  unfolding judged
  yes z t e = ap (λ (x : ℤ). Ok x) e ∙ sym (pick_true _ _ _ (is_allowed ∙ t))

  pub judged_degrees : kind ≡ Degrees → r ≡ true → SFits w64 (to_z w64 (of_z w64 v) *ℤ pos 10)
      → Ok (to_z w64 (of_z w64 (to_z w64 (of_z w64 v) *ℤ pos 10))) ≡ judged (form_of kind) v
  judged_degrees e t g =
      yes _ t
      (to_z-of_z w64 _ g ∙ ap (λ (x : ℤ). x *ℤ pos 10) (to_z-of_z w64 v f) ∙ ap (λ (k : Kind). v *ℤ pos (form_of k).worth) (sym e))

  pub judged_tenths : kind ≡ Tenths → r ≡ true → Ok (to_z w64 (of_z w64 v)) ≡ judged (form_of kind) v
  judged_tenths e t = yes _ t (to_z-of_z w64 v f ∙ sym (times_one v) ∙ ap (λ (k : Kind). v *ℤ pos (form_of k).worth) (sym e))

  pub judged_none : r ≡ false → Err OutOfRange ≡ judged (form_of kind) v
  unfolding judged
  judged_none t = sym (pick_false _ _ _ (is_allowed ∙ t))

pub ruleset judgements = (tenfold_fits, judged_degrees, judged_tenths, judged_none)
