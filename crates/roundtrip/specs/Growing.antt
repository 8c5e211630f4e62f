-- Laws: a text of which more comes. What was read of its beginning stays, and goes on with the rest.
use Rattle.std.specs.Prelude.{ℕ, zero, suc, ◌+◌, ◌-◌, ◌<◌, ◌≤◌, Bool, List, [], ◌∷◌, ◌++◌, ◌⊎◌, ◌≡◌, ltb, get_or, take, Ok, Err}
use Rattle.std.proofs.Common.{arith, append-nil, ◌∙◌, take_all, length-take-le}
use Rattle.std.proofs.Math.Bool.{true, false}
use Rattle.std.proofs.Math.Logic.{inl, inr}
use Rattle.std.proofs.Math.Path.{refl, ap, sym}
use Rattle.std.proofs.Math.Dec.{eqb}
use Rattle.std.proofs.Math.ListN.{length, length-append, get_or-append}
use Rattle.std.proofs.lemmas.List.{take-append-le}
use Rattle.std.proofs.Math.Seq.{take-append-add}
use borrow.Author.Tests.{eqb-false, ne_eqb, ltb-true, ltb-false}
use Rattle.base.specs.Pick.{pick, pick_true, pick_false, pick_if}
use Rattle.intelhex.specs.Faults.{line_most}
use Rattle.intelhex.specs.Written.{line_feed}
use Rattle.intelhex.specs.Lines.{before, carriage_return, without_return, standing, form_of}
use Rattle.intelhex.specs.Reading.{stop, next_in, next_of, next_after, next, ends_at}
use Rattle.intelhex.specs.Sound.{LineLies, line_lies, most_within, stands_endless}
use Rattle.intelhex.specs.declared.Ending.TheVariants.{End, Part}
use Rattle.intelhex.specs.declared.Fault.TheVariants.{AfterEnd}
use Rattle.intelhex.specs.declared.lines.Standing.{Standing}
use Rattle.intelhex.specs.declared.lines.Standing.TheVariants.{Nothing, Unended, Endless, Line}
use Rattle.roundtrip.specs.Formed.{by_before}

-- ---- what a text begins with, where more stands behind it
before_grows : (xs ys : List ℕ) → before xs < length xs → before (xs ++ ys) ≡ before xs
before_grows [] ys h = absurd (omega arith)
before_grows (x ∷ xs) ys h = by (eqb x line_feed) h (before_grows xs ys)
  where
    by : (t : Bool) → pick t 0 (suc (before xs)) < suc (length xs) → (before xs < length xs → before (xs ++ ys) ≡ before xs) → pick t 0 (suc (before (xs ++ ys))) ≡ pick t 0 (suc (before xs))
    by true k later = pick_true _ _ _ refl ∙ sym (pick_true _ _ _ refl)
    by false k later =
        let e : pick false 0 (suc (before xs)) ≡ suc (before xs) = pick_false _ _ _ refl in
        pick_false _ _ _ refl ∙ ap suc (later (omega arith)) ∙ sym e

take_grows : (k : ℕ) (s t : List ℕ) → (z : List ℕ) × (take k (s ++ t) ≡ take k s ++ z)
take_grows k s t = by (ltb (length s) k) refl
  where
    by : (b : Bool) → ltb (length s) k ≡ b → (z : List ℕ) × (take k (s ++ t) ≡ take k s ++ z)
    by true e =
        let h : length s < k = ltb-true (length s) k e in
        let n : length s + (k - length s) ≡ k = omega arith in
        (take (k - length s) t, ap (λ (m : ℕ). take m (s ++ t)) (sym n) ∙ take-append-add s t (k - length s) ∙ ap (λ (x : List ℕ). x ++ take (k - length s) t) (sym (take_all k s (omega arith))))
    by false e = let h : k ≤ length s = ltb-false (length s) k e in ([], take-append-le k s t h ∙ sym (append-nil (take k s)))

return_grows : (s t : List ℕ) (m : ℕ) → m ≤ length s → without_return (s ++ t) m ≡ without_return s m
unfolding without_return
return_grows s t zero h = pick_true _ _ _ refl ∙ sym (pick_true _ _ _ refl)
return_grows s t (suc m) h =
    let e : suc m - 1 ≡ m = omega arith in
    let g : get_or (s ++ t) (suc m - 1) 0 ≡ get_or s (suc m - 1) 0
    = ap (λ (k : ℕ). get_or (s ++ t) k 0) e ∙ get_or-append s t 0 m (omega arith) ∙ ap (λ (k : ℕ). get_or s k 0) (sym e) in
    ap (λ (c : ℕ). pick (eqb (suc m) 0) (suc m) (pick (eqb c carriage_return) (suc m - 1) (suc m))) g

-- a line stays, and so do too many characters
module _ (s t : List ℕ) where
  abbrev Stays : Standing → Type 0
  Stays Nothing = Unit {0}
  Stays Unended = Unit {0}
  Stays Endless = standing (s ++ t) ≡ Endless
  Stays (Line n size) = standing (s ++ t) ≡ Line n size

  line_stays : before (take line_most s) < length (take line_most s) → standing (s ++ t) ≡ Line (without_return s (before (take line_most s))) (before (take line_most s) + 1)
  line_stays h =
      let g = take_grows line_most s t in
      let b : before (take line_most (s ++ t)) ≡ before (take line_most s) = ap before g.1 ∙ before_grows (take line_most s) g.0 h in
      let l = ap length g.1 ∙ length-append (take line_most s) g.0 in
      let w = most_within s in
      let a = w.0 in
      let c = length-append s t in
      by_before (s ++ t) (before (take line_most s)) (without_return s (before (take line_most s))) (λ e. omega arith) b (omega arith) (return_grows s t (before (take line_most s)) (omega arith))

  endless_stays : length (take line_most s) ≤ before (take line_most s) → line_most ≤ length s → standing (s ++ t) ≡ Endless
  endless_stays h k =
      let f : take line_most (s ++ t) ≡ take line_most s = take-append-le line_most s t k in
      let l = length-take-le line_most s k in
      let m : length (take line_most (s ++ t)) ≡ line_most = ap length f ∙ l in
      let c = length-append s t in
      let n : before (take line_most (s ++ t)) ≡ before (take line_most s) = ap before f in
      sym (stands_endless (s ++ t) (omega arith) (omega arith))

  standing_stays : Stays (standing s)
  unfolding standing
  standing_stays =
      pick_if Stays (eqb (length s) 0) _ _ (λ e. tt)
      (λ e.
      pick_if Stays (ltb (before (take line_most s)) (length (take line_most s))) _ _ (λ b. line_stays (ltb-true _ _ b))
      (λ b. pick_if Stays (ltb (length s) line_most) _ _ (λ l. tt) (λ l. endless_stays (ltb-false _ _ b) (ltb-false _ _ l))))

-- ---- what stands next, where more stands behind it: more is awaited, or it stays
module _ (more : Bool) (s t : List ℕ) where
  by_standing : (x : Standing) → standing s ≡ x → Stays s t x → LineLies s x
      → (next_of true s x ≡ stop (Ok Part)) ⊎ (next_of more (s ++ t) (standing (s ++ t)) ≡ next_of true s x)
  by_standing Nothing e g l = inl (ap stop (pick_true _ _ _ refl))
  by_standing Unended e g l = inl (ap stop (pick_true _ _ _ refl))
  by_standing Endless e g l = inr (ap (next_of more (s ++ t)) g)
  by_standing (Line n size) e g l =
      let a = l.0 in
      let b = l.1.0 in
      inr (ap (next_of more (s ++ t)) g ∙ ap (λ (x : List ℕ). next_in size x (form_of x)) (take-append-le n s t (omega arith)))

  after_stays : (next_after true s ≡ stop (Ok Part)) ⊎ (next_after more (s ++ t) ≡ next_after true s)
  unfolding next_after
  after_stays = by (eqb (length s) 0) refl
    where
      by : (b : Bool) → eqb (length s) 0 ≡ b
          → (pick (eqb (length s) 0) (stop (ends_at true (Ok End))) (stop (Err AfterEnd)) ≡ stop (Ok Part))
          ⊎ (pick (eqb (length (s ++ t)) 0) (stop (ends_at more (Ok End))) (stop (Err AfterEnd)) ≡ pick (eqb (length s) 0) (stop (ends_at true (Ok End))) (stop (Err AfterEnd)))
      by true e = inl (pick_true _ _ _ e ∙ ap stop (pick_true _ _ _ refl))
      by false e =
          let n : length s ≡ 0 → ⊥ = eqb-false _ _ e in
          let c = length-append s t in
          inr (pick_false _ _ _ (ne_eqb (length (s ++ t)) 0 (λ z. omega arith)) ∙ sym (pick_false _ _ _ e))

  pub next_stays : (over : Bool) → (next over true s ≡ stop (Ok Part)) ⊎ (next over more (s ++ t) ≡ next over true s)
  unfolding next
  next_stays true = by after_stays
    where
      by : (next_after true s ≡ stop (Ok Part)) ⊎ (next_after more (s ++ t) ≡ next_after true s)
          → (pick true (next_after true s) (next_of true s (standing s)) ≡ stop (Ok Part))
          ⊎ (pick true (next_after more (s ++ t)) (next_of more (s ++ t) (standing (s ++ t))) ≡ pick true (next_after true s) (next_of true s (standing s)))
      by (inl e) = inl (pick_true _ _ _ refl ∙ e)
      by (inr e) = inr (pick_true _ _ _ refl ∙ e ∙ sym (pick_true _ _ _ refl))
  next_stays false = by (by_standing (standing s) refl (standing_stays s t) (line_lies s))
    where
      by : (next_of true s (standing s) ≡ stop (Ok Part)) ⊎ (next_of more (s ++ t) (standing (s ++ t)) ≡ next_of true s (standing s))
          → (pick false (next_after true s) (next_of true s (standing s)) ≡ stop (Ok Part))
          ⊎ (pick false (next_after more (s ++ t)) (next_of more (s ++ t) (standing (s ++ t))) ≡ pick false (next_after true s) (next_of true s (standing s)))
      by (inl e) = inl (pick_false _ _ _ refl ∙ e)
      by (inr e) = inr (pick_false _ _ _ refl ∙ e ∙ sym (pick_false _ _ _ refl))
