use native.Mathlib.Omega.{arith}
use mathlib.Core.Path.{◌∙◌, sym}
use Rattle.toemsakun.specs.Runs.{well_lined, well_fits, run_put, run_refused}
use Rattle.toemsakun.proofs.runs.run_by.Goals as goal

pub run_all-requires : goal.run_all-requires
run_all-requires c = let a = c.args in let e = sym c.in-Ok.is ∙ c.requires in let w = well_fits a.table.now a.bits.now a.answers.now a.slots a.ms.now a.ss.now e in record { lined = well_lined a.table.now a.bits.now a.answers.now a.slots a.ms.now a.ss.now e; slots_bound = (w.few, w.bits_size, w.answers_size) }

pub returns-in-Ok : goal.returns-in-Ok
returns-in-Ok c = let a = c.args in let e = sym c.in-Ok.is ∙ c.requires in let r = c.run_all in record { ss_after = run_put a.table.now a.bits.now a.answers.now a.slots a.ms.now a.ss.now e _ _ _ _ r.ensures.answers_after r.ensures.ss_after r.ensures.lined_2; most = (well_fits a.table.now a.bits.now a.answers.now a.slots a.ms.now a.ss.now e).few }

pub returns-in-Err : goal.returns-in-Err
returns-in-Err c = let a = c.args in record { ss_after = run_refused a.table.now a.bits.now a.answers.now a.slots a.ms.now a.ss.now _ (sym c.in-Err.is ∙ c.requires); most = omega arith }
