use Rattle.toemsakun.specs.Answers.{passed}
use Rattle.toemsakun.specs.Library.{event_left}
use lib.IntN.{ℤ}
use mathlib.Core.Path.{◌∙◌, ap}
use Rattle.toemsakun.proofs.tk_event.Goals as goal

pub returns : goal.returns
returns c = let h = c.take_event-answer in let e = c.numbered-e.ensures in ap (λ (z : ℤ). event_left z h.new.table h.new.ms h.new.ss) (passed c.of_event.result c.of_event.type_inv ∙ c.of_event.ensures) ∙ (rw e at h.ensures)
