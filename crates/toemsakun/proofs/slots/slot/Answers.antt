use mathlib.Core.Bool.{Bool}
use mathlib.Core.List.{map}
use mathlib.Core.Path.{◌∙◌, ap}
use Rattle.line.specs.Line.{act_of}
use Rattle.line.specs.declared.Act.TheVariants as act
use Rattle.toemsakun.specs.Slots.{line_in}
use Rattle.toemsakun.proofs.slots.slot.Goals as goal

pub returns : goal.returns
returns c = let a = c.args in let s = c.all_send-value.ensures in let t = c.all_take.ensures in record { value = s; ss_after = t.ss_after ∙ ap (λ (b : Bool). map (act_of (act.Take b)) (line_in a.table.now a.ms.now a.ss.now)) s; lined = t.lined }
