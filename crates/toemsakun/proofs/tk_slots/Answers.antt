use Rattle.toemsakun.specs.Answers.{passed}
use Rattle.toemsakun.specs.Library.{slots_left}
use lib.IntN.{ℤ}
use mathlib.Core.Path.{◌∙◌, ap}
use Rattle.toemsakun.proofs.tk_slots.Goals as goal

pub returns : goal.returns
returns c = let h = c.take_slots-answer in ap (λ (z : ℤ). slots_left z h.new.answers h.new.table h.new.ms h.new.ss) (passed c.of_slots.result c.of_slots.type_inv ∙ c.of_slots.ensures) ∙ h.ensures.ss_after
