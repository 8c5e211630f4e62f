-- Laws: the lines of a text one by one; how many may be read at most does not matter, as long as they may be as many as the characters.
use Rattle.std.specs.Prelude.{ℕ, zero, suc, ◌<◌, ◌≤◌, Bool, true, false, List, [], ◌∷◌, ◌≡◌, refl, length, drop, Result, Ok, Err}
use Rattle.std.proofs.Common.{arith, ◌∙◌, ne_eqb}
use Rattle.std.proofs.Math.Path.{ap}
use Rattle.std.proofs.Math.ListN.{length-drop}
use Rattle.base.specs.Pick.{pick_true, pick_false}
use Rattle.intelhex.specs.Reading.{Given, Next, data-record, end-record, stop, next_after, next, Found, found, following, on_next, lines_from, lines_of}
use Rattle.intelhex.proofs.Underway.{NextLies, next_lies}
use Rattle.intelhex.specs.declared.Ending.{Ending}
use Rattle.intelhex.specs.declared.Ending.TheVariants.{End}
use Rattle.intelhex.specs.declared.Fault.TheVariants.{AfterEnd}
use Rattle.intelhex.specs.declared.Fault.{Fault}

-- reading goes on alike, where it does after each line
on_alike : (go go' : Bool → List ℕ → Found) (over : Bool) (text : List ℕ) (x : Next) → NextLies text x
    → ((o : Bool) (size : ℕ) → 0 < size → size ≤ length text → go o (drop size text) ≡ go' o (drop size text)) → on_next go over text x ≡ on_next go' over text x
on_alike go go' over text (data-record size g) l e = ap (following (g ∷ []) size 1) (e false size l.0 l.1)
on_alike go go' over text (end-record size) l e = ap (following [] size 1) (e true size l.0 l.1)
on_alike go go' over text (stop x) l e = refl

pub lines_fuel : (k j : ℕ) (more over : Bool) (text : List ℕ) → length text < k → length text < j → lines_from k more over text ≡ lines_from j more over text
unfolding lines_from
lines_fuel zero j more over text a b = absurd (omega arith)
lines_fuel (suc k) zero more over text a b = absurd (omega arith)
lines_fuel (suc k) (suc j) more over text a b =
    on_alike (λ (o : Bool) (t : List ℕ). lines_from k more o t) (λ (o : Bool) (t : List ℕ). lines_from j more o t) over text (next over more text) (next_lies text over more)
    (λ o size h l. let d = length-drop size text in lines_fuel k j more o (drop size text) (omega arith) (omega arith))

-- ---- the first line, and all behind it
module _ (more over : Bool) (text : List ℕ) where
  by_next : (x : Next) → next over more text ≡ x → lines_of more over text ≡ on_next (λ o t. lines_of more o t) over text x
  unfolding lines_of lines_from
  by_next x e =
      on_alike (λ (o : Bool) (t : List ℕ). lines_from (length text) more o t) (λ (o : Bool) (t : List ℕ). lines_from (suc (length t)) more o t) over text (next over more text) (next_lies text over more)
      (λ o size h l. let d = length-drop size text in lines_fuel (length text) (suc (length (drop size text))) more o (drop size text) (omega arith) (omega arith))
      ∙ ap (on_next (λ o t. lines_from (suc (length t)) more o t) over text) e

  pub lines_data : (size : ℕ) (g : Given) → next over more text ≡ data-record size g → lines_of more over text ≡ following (g ∷ []) size 1 (lines_of more false (drop size text))
  lines_data size g e = by_next (data-record size g) e

  pub lines_end : (size : ℕ) → next over more text ≡ end-record size → lines_of more over text ≡ following [] size 1 (lines_of more true (drop size text))
  lines_end size e = by_next (end-record size) e

  pub lines_stop : (x : Result Ending Fault) → next over more text ≡ stop x → lines_of more over text ≡ found [] x 0 0 over
  lines_stop x e = by_next (stop x) e

-- after the end record
pub over_end : lines_of false true [] ≡ found [] (Ok End) 0 0 true
unfolding next next_after
over_end = lines_stop false true [] (Ok End) (pick_true _ _ _ refl ∙ pick_true _ _ _ refl ∙ ap stop (pick_false _ _ _ refl))

some_length : (text : List ℕ) → (text ≡ [] → ⊥) → length text ≡ 0 → ⊥
some_length [] n e = n refl
some_length (c ∷ cs) n e = omega arith

pub over_more : (text : List ℕ) → (text ≡ [] → ⊥) → lines_of false true text ≡ found [] (Err AfterEnd) 0 0 true
unfolding next next_after
over_more text n = lines_stop false true text (Err AfterEnd) (pick_true _ _ _ refl ∙ pick_false _ _ _ (ne_eqb (length text) 0 (some_length text n)))
