-- A number of any length is judged, though no more than the least number of 19 digits is kept of it.
use Rattle.std.specs.Prelude.{ℕ, ◌≤◌, Bool, ◌≡◌, Some}
use Rattle.std.proofs.Common.{arith, ◌∙◌}
use Rattle.std.proofs.Math.Bool.{true, false}
use Rattle.std.proofs.Math.Path.{refl, ap, sym}
use Rattle.std.proofs.Math.Dec.{ltb}
use borrow.Author.Tests.{ltb-true, ltb-false, le-ltb, lt-leb}
use Rattle.base.specs.Pick.{pick, pick_false}
use Rattle.line.specs.Layout.{capped}
use Rattle.numerals.specs.Numerals.{digits, most}
use Rattle.numerals.specs.Numerals.{kept, counted_by}
use Rattle.numerals.specs.Digits.{few, many}
use Rattle.round.specs.Words.{with_pages, given_or}
use Rattle.round.specs.declared.words.Request.{Request}

module _ (n : ℕ) where
  -- THEOREM: "16 places (more count as 16)"
  pub places_any : capped (given_or (counted_by (digits n)) 16) ≡ capped n
  unfolding capped
  places_any = by (ltb n most) refl
    where
      by : (t : Bool) → ltb n most ≡ t → pick (ltb (kept n) 16) (kept n) 16 ≡ pick (ltb n 16) n 16
      by true e = ap (λ (k : ℕ). pick (ltb k 16) k 16) (sym (few n (ltb-true n most e)))
      by false e =
          let h : most ≤ n = ltb-false n most e in
          let k : most ≡ kept n = many n h in
          pick_false _ _ _ (le-ltb (kept n) 16 (omega arith)) ∙ sym (pick_false _ _ _ (le-ltb n 16 (omega arith)))

  -- THEOREM: "(0 to 1,024 may be given)"
  pub pages_any : (r : Request) → with_pages r (counted_by (digits n)) ≡ with_pages r (Some n)
  pages_any r = by (ltb n most) refl
    where
      by : (t : Bool) → ltb n most ≡ t → with_pages r (Some (kept n)) ≡ with_pages r (Some n)
      by true e = ap (λ (k : ℕ). with_pages r (Some k)) (sym (few n (ltb-true n most e)))
      by false e =
          let h : most ≤ n = ltb-false n most e in
          let k : most ≡ kept n = many n h in
          pick_false _ _ _ (lt-leb (kept n) 1024 (omega arith)) ∙ sym (pick_false _ _ _ (lt-leb n 1024 (omega arith)))
