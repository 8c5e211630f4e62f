use Rattle.line.specs.Tables.{chip_for}
use Rattle.base.specs.Rules.{cases}
use Rattle.line.proofs.tables.chip_for.Goals as goal

pub returns-then-place-n : goal.returns-then-place-n
unfolding chip_for
returns-then-place-n c = search cases

pub returns-else-place-n : goal.returns-else-place-n
unfolding chip_for
returns-else-place-n c = search cases

pub returns-else-n-le16 : goal.returns-else-n-le16
unfolding chip_for
returns-else-n-le16 c = search cases
