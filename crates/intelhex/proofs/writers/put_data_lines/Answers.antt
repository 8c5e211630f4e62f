use Rattle.std.proofs.Common.{rules}
use Rattle.intelhex.specs.Putting.{putting_start, given_length, count_few, putting_next, putting_end}
use Rattle.intelhex.proofs.writers.put_data_lines.Goals as goal

pub loop-i-init : goal.loop-i-init
loop-i-init c = putting_start _ _ _ _ _ c.told-image (search rules) (search rules) (search rules)

pub overflow_mul-i : goal.overflow_mul-i
overflow_mul-i c =
    let s = c.in-Some.ensures.steps in
    let f = count_few _ _ _ _ _ _ c.loop-i.invariant _ _ _ s.0.1.0 s.0.1.1 s.1 in
    search (rules, f)

pub overflow_cast-i : goal.overflow_cast-i
overflow_cast-i c =
    let s = c.in-Some.ensures.steps in
    let f = count_few _ _ _ _ _ _ c.loop-i.invariant _ _ _ s.0.1.0 s.0.1.1 s.1 in
    search (rules, f)

pub data_record_of-record-requires : goal.data_record_of-record-requires
data_record_of-record-requires c = let s = c.in-Some.ensures.steps in given_length _ _ _ _ _ _ c.loop-i.invariant _ _ _ s.0.1.0 s.0.1.1 s.1

pub overflow_mul-i-in-loop-i : goal.overflow_mul-i-in-loop-i
overflow_mul-i-in-loop-i c =
    let s = c.in-Some.ensures.steps in
    let f = count_few _ _ _ _ _ _ c.loop-i.invariant _ _ _ s.0.1.0 s.0.1.1 s.1 in
    search (rules, f)

pub put_line-requires : goal.put_line-requires
put_line-requires c =
    let s = c.in-Some.ensures.steps in
    let f = count_few _ _ _ _ _ _ c.loop-i.invariant _ _ _ s.0.1.0 s.0.1.1 s.1 in
    search (rules, f)

pub loop-i-preserved : goal.loop-i-preserved
loop-i-preserved c =
    let s = c.in-Some.ensures.steps in
    putting_next _ _ _ _ _ _ c.loop-i.invariant _ _ _ s.0.1.0 s.0.1.1 s.1 _ _ _ _ s.0.0 s.2 c.data_record_of-record.ensures c.put_line.ensures

pub returns : goal.returns
returns c = putting_end _ _ _ _ _ _ c.loop-i.invariant c.in-None.ensures.steps.0.1.0
