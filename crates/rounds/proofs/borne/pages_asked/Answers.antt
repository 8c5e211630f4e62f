use Rattle.std.proofs.Common.{arith, ◌≡◌, ◌-◌, ◌∙◌, ℕ, ap, List, take}
use Rattle.std.specs.List.{slice_range}
use Rattle.base.specs.Once.{distinct_in}
use Rattle.chip.specs.declared.Chip.{Chip}
use Rattle.rounds.specs.Borne.{borne_in}
use Rattle.rounds.specs.BorneLaw.{asked_some, asked_none}
use Rattle.rounds.proofs.borne.pages_asked.Goals as goal

-- the first chips of a table
slice_front : (n : ℕ) (cs : List Chip) → slice_range cs 0 n ≡ take n cs
slice_front n cs = let e : n - 0 ≡ n = omega arith in ap (λ (k : ℕ). take k cs) e

pub returns-in-Some-clause-value : goal.returns-in-Some-clause-value
returns-in-Some-clause-value c = let a = c.args in let l = (c.in-Some.ensures {u = tt}).lookup in asked_some a.t.n _ a.t.chips (omega arith) (c.count_borne.ensures.value ∙ ap (λ (cs : List Chip). distinct_in (borne_in cs)) (l.0.2 ∙ slice_front a.t.n a.t.chips))

pub returns-in-None-clause-value : goal.returns-in-None-clause-value
returns-in-None-clause-value c = let a = c.args in let l = (c.in-None.ensures {u = tt}).lookup in asked_none a.t.n a.t.chips (omega arith)
