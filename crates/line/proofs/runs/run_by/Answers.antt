use mathlib.Core.Path.{◌∙◌, sym}
use Rattle.base.specs.Rules.{cases}
use Rattle.line.specs.RunTables.{run_well, put_all, run_at}
use Rattle.line.proofs.runs.run_by.Goals as goal

pub run_all-requires : goal.run_all-requires
run_all-requires c = let a = c.args in let w = run_well a.t.n a.t.chips a.slots a.bits.now a.answers.now a.ms.now a.ss.now (sym c.in-Ok.is ∙ c.requires) in record { fits = w.fits; slots_bound = (w.few, w.bits_size, w.answers_size) }

pub returns-in-Ok : goal.returns-in-Ok
returns-in-Ok c = let a = c.args in let e = c.in-Ok.is in let r = c.run_all in let w = run_well a.t.n a.t.chips a.slots a.bits.now a.answers.now a.ms.now a.ss.now (sym e ∙ c.requires) in run_at _ _ _ _ _ _ _ _ _ _ e (put_all a.t.n a.t.chips a.slots a.bits.now a.answers.now a.ms.now a.ss.now w _ _ _ _ _ r.ensures.answers_after r.ensures.ss_after.0 r.ensures.ss_after.1)

pub returns-in-Err : goal.returns-in-Err
returns-in-Err c = search (cases, run_at)
