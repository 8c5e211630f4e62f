use Rattle.std.specs.Prelude.{Result}
use Rattle.line.specs.declared.Refusal.{Refusal}
use Rattle.std.proofs.Common.{arith}
use mathlib.Core.Path.{◌≡◌, ◌∙◌, ap}
use lib.ListN.{length}
use Rattle.line.specs.Slots.{slots_of, run_by}
use Rattle.line.specs.Carried.{table_surveyed, run_stands_is}
use Rattle.line.proofs.runs.take_slots.Goals as goal

pub run_by-requires : goal.run_by-requires
run_by-requires c = let a = c.args in let full : length a.t.chips ≡ 16 = omega arith in let l = c.survey-survey in c.run_verdict_by-judged.ensures ∙ run_stands_is 0 a.t.n a.t.chips a.ms.now a.ss.now l.result (table_surveyed a.t.n a.t.chips full 0 l.result l.ensures) a.slots a.bits.now a.answers.now

pub returns : goal.returns
unfolding slots_of
returns c = let a = c.args in let full : length a.t.chips ≡ 16 = omega arith in let l = c.survey-survey in c.run_by.ensures ∙ ap (λ (v : Result (Unit {0}) Refusal). run_by v a.t.n a.t.chips a.slots a.bits.now a.answers.now a.ms.now a.ss.now) (c.run_verdict_by-judged.ensures ∙ run_stands_is 0 a.t.n a.t.chips a.ms.now a.ss.now l.result (table_surveyed a.t.n a.t.chips full 0 l.result l.ensures) a.slots a.bits.now a.answers.now)
