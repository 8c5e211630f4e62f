use Rattle.std.proofs.Common.{arith, rules}
use Rattle.intelhex.specs.Sound.{judged_miscounted, judged_bad_end, judged_unsummed, judged_end, judged_unknown, judged_above, judged_data}
use Rattle.intelhex.proofs.record.judge.Goals as goal

pub returns-in_default : goal.returns-in_default
returns-in_default c = judged_miscounted _ (λ e. let h = c.in_default.len_below in omega arith)

pub returns-then-bytes-count : goal.returns-then-bytes-count
returns-then-bytes-count c = judged_miscounted _ c.if-bytes-count.true

pub returns-then-is_bad_end : goal.returns-then-is_bad_end
returns-then-is_bad_end c =
    let a = c.from_be_bytes-address.ensures in judged_bad_end _ _ (omega arith) c.if-bytes-count.false _ c.is_bad_end.ensures c.if-is_bad_end.true

pub returns-then-sum_of-ne0 : goal.returns-then-sum_of-ne0
returns-then-sum_of-ne0 c =
    let a = c.from_be_bytes-address.ensures in
    judged_unsummed _ _ (omega arith) c.if-bytes-count.false _ c.is_bad_end.ensures c.if-is_bad_end.false _ c.sum_of.ensures c.if-sum_of-ne0.true

pub returns-in-0 : goal.returns-in-0
returns-in-0 c =
    let a = c.from_be_bytes-address.ensures in
    judged_above _ _ (omega arith) c.if-bytes-count.false _ c.is_bad_end.ensures c.if-is_bad_end.false _ c.sum_of.ensures c.if-sum_of-ne0.false c.in-0.is _ c.is_above.ensures c.if-is_above.true

pub returns-in-0-2 : goal.returns-in-0-2
returns-in-0-2 c =
    let a = c.from_be_bytes-address.ensures in
    judged_data _ _ (omega arith) c.if-bytes-count.false _ c.is_bad_end.ensures c.if-is_bad_end.false _ c.sum_of.ensures c.if-sum_of-ne0.false c.in-0.is _ c.is_above.ensures c.if-is_above.false

pub returns-in-1 : goal.returns-in-1
returns-in-1 c =
    let a = c.from_be_bytes-address.ensures in
    judged_end _ _ (omega arith) c.if-bytes-count.false _ c.is_bad_end.ensures c.if-is_bad_end.false _ c.sum_of.ensures c.if-sum_of-ne0.false c.in-1.is

pub returns-in_default-record_type : goal.returns-in_default-record_type
returns-in_default-record_type c =
    let a = c.from_be_bytes-address.ensures in
    judged_unknown _ _ (omega arith) c.if-bytes-count.false _ c.is_bad_end.ensures c.if-is_bad_end.false _ c.sum_of.ensures c.if-sum_of-ne0.false (search rules) (search rules)
