use Rattle.std.proofs.Common.{Err, rules}
use Rattle.intelhex.specs.Turning.{by_after, by_before}
use Rattle.intelhex.proofs.readers.take_next.Goals as goal

pub returns-in_err-end_after : goal.returns-in_err-end_after
returns-in_err-end_after c = let k = by_after _ _ c.args.image.now _ _ (Err _) c.if-over.true c.end_after.ensures c.in_err-end_after.was in search (rules, k)

pub returns-then-over : goal.returns-then-over
returns-then-over c = by_after _ _ _ _ _ _ c.if-over.true c.end_after.ensures c.in_ok-end_after.was

pub returns : goal.returns
returns c = by_before _ _ _ _ _ c.if-over.false c.take_before.ensures
