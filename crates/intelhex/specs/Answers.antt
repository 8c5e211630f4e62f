-- Document 02, M-110: what each answer says: that all is done, that more is awaited, the number of a refusal, or that number and how many lines stand before the one at fault.
use Rattle.std.specs.Prelude.{ℕ, Result, Ok, Err}
use Rattle.intelhex.specs.Faults.{number_of_fault}
use Rattle.intelhex.specs.declared.Ending.{Ending}
use Rattle.intelhex.specs.declared.Ending.TheVariants as ending
use Rattle.intelhex.specs.declared.Fault.{Fault}
use Rattle.intelhex.specs.declared.Refused.{Refused}

pub data Answered : Type 0 where
  done : Answered
  awaited : Answered
  refused : ℕ → Answered
  refused_after : ℕ → ℕ → Answered

abbrev pub written_as : Result (Unit {0}) Fault → Answered
written_as (Ok x) = done
written_as (Err f) = refused (number_of_fault f)

abbrev pub read_as : Result (Unit {0}) Refused → Answered
read_as (Ok x) = done
read_as (Err r) = refused_after (number_of_fault r.fault) r.lines

abbrev pub ended_as : Result Ending Fault → Answered
ended_as (Ok ending.End) = done
ended_as (Ok ending.Part) = awaited
ended_as (Err f) = refused (number_of_fault f)
