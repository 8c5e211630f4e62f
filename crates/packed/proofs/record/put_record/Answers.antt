use Rattle.packed.specs.Puts.{record_put, record_left}
use Rattle.packed.proofs.record.put_record.Goals as goal

pub returns-in-Some : goal.returns-in-Some
returns-in-Some c = record_put _ _ _ c.pack.ensures c.in-Some.ensures.cases.enough

pub returns-in_default : goal.returns-in_default
returns-in_default c = record_left _ _ c.in_default.ensures.cases
