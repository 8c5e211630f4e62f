use Rattle.base.specs.Rules.{cases}
use Rattle.line.specs.Carrier.{spot_after}
use Rattle.line.proofs.carrier.spot_after.Goals as goal

pub returns-then-p-le65535-3 : goal.returns-then-p-le65535-3
unfolding spot_after
returns-then-p-le65535-3 c = search (cases, ← c.image_size-size.ensures.value, ← c.pad_size-room.ensures.value)

pub returns-then-p-le65535-2 : goal.returns-then-p-le65535-2
unfolding spot_after
returns-then-p-le65535-2 c = search cases

pub returns-then-p-le65535 : goal.returns-then-p-le65535
unfolding spot_after
returns-then-p-le65535 c = search cases

pub returns : goal.returns
unfolding spot_after
returns c = search cases
