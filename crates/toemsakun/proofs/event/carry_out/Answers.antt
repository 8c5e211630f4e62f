use Rattle.std.proofs.Common.{refl, ◌∙◌, ap, sym, Ok}
use Rattle.line.specs.declared.Plan.{Plan}
use Rattle.line.specs.declared.Refusal.{Refusal}
use Rattle.toemsakun.specs.Judging.{any_table, any_done}
use Rattle.toemsakun.specs.Runs.{slot_lined, slot_done}
use Rattle.toemsakun.proofs.event.carry_out.Goals as goal

pub put_slot-requires : goal.put_slot-requires
put_slot-requires c = let a = c.args in slot_lined a.table.now a.e a.ms.now a.ss.now _ (ap Ok (sym c.in-Slot.is) ∙ c.requires)

pub returns-in-Slot : goal.returns-in-Slot
returns-in-Slot c = let a = c.args in let r = c.put_slot in slot_done a.table.now a.e a.ms.now a.ss.now _ (ap Ok (sym c.in-Slot.is) ∙ c.requires) _ _ _ _ r.ensures.result_value r.ensures.ss_after r.ensures.lined

pub play-requires : goal.play-requires
play-requires c = let a = c.args in any_table a.table.now a.e a.ms.now a.ss.now (Ok a.plan) c.requires refl

pub returns-in_default : goal.returns-in_default
returns-in_default c = let a = c.args in c.play.ensures ∙ any_done a.table.now a.e a.ms.now a.ss.now (Ok a.plan) c.requires refl
