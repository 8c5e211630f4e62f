use Rattle.std.proofs.Common.{eq-eqb, ne_eqb, sym, ap, ◌∙◌, ◌≡◌, Result, Ok, Err, IsErrAnd}
use Rattle.line.specs.declared.Refusal.{Refusal}
use Rattle.rounds.specs.Rounds.{stands_well, stands_wrong, stands_refused}
use Rattle.rounds.proofs.how_stands.Goals as goal

-- what `?` hands on
err_is : (q : Result (Unit {0}) Refusal) (r : Refusal) → IsErrAnd q (λ e. e ≡ r) → q ≡ Err r
err_is (Ok x) r h = absurd h
err_is (Err e) r h = ap (λ (x : Refusal). Err x) h

pub returns-then-pages-pages_asked : goal.returns-then-pages-pages_asked
returns-then-pages-pages_asked c = stands_well _ _ _ _ _ _ c.pages_asked.ensures.value (sym c.in_ok-how_stands.was ∙ c.how_stands.ensures) (eq-eqb _ _ c.if-pages-pages_asked.true)

pub returns-else-pages-pages_asked : goal.returns-else-pages-pages_asked
returns-else-pages-pages_asked c = stands_wrong _ _ _ _ _ _ c.pages_asked.ensures.value (sym c.in_ok-how_stands.was ∙ c.how_stands.ensures) (ne_eqb _ _ c.if-pages-pages_asked.false)

pub returns-in_err-how_stands : goal.returns-in_err-how_stands
returns-in_err-how_stands c =
    err_is c.from_residual.result c.in_err-how_stands.field-0.0 c.from_residual.ensures.1 ∙ stands_refused _ _ _ _ _ _ _ c.how_stands.ensures c.in_err-how_stands.was
