use native.Mathlib.Omega.{arith}
use mathlib.Core.Path.{◌∙◌, ap}
use Rattle.base.specs.Rules.{cases}
use Rattle.toemsakun.specs.Answers.{slots_put, slots-at, passed}
use Rattle.toemsakun.proofs.answers.of_slots.Goals as goal

pub of_count-requires : goal.of_count-requires
of_count-requires c = let e = ap slots_put c.in-Ok.is in let p = c.requires in omega arith

pub returns-in-Ok : goal.returns-in-Ok
returns-in-Ok c = passed c.of_count.result c.of_count.type_inv ∙ (search (cases, slots-at, c.of_count.ensures))

pub returns-in-Err : goal.returns-in-Err
returns-in-Err c = passed c.of_refusal.result c.of_refusal.type_inv ∙ (search (cases, slots-at, c.of_refusal.ensures))
