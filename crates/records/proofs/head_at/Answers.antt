use Rattle.records.specs.Records.{head_at, head-by}
use Rattle.base.specs.Rules.{cases}
use Rattle.records.proofs.head_at.Goals as goal

pub returns-then-all-at : goal.returns-then-all-at
unfolding head_at
returns-then-all-at c = search cases

pub returns-then-left-lt4 : goal.returns-then-left-lt4
unfolding head_at
returns-then-left-lt4 c = search cases

pub returns-then-size-left : goal.returns-then-size-left
returns-then-size-left c = head-by _ _ _ _ _ c.pair_at-length.ensures c.pair_at-kind.ensures (search cases)

pub returns : goal.returns
returns c = head-by _ _ _ _ _ c.pair_at-length.ensures c.pair_at-kind.ensures (search cases)
