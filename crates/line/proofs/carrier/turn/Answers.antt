use Rattle.line.specs.Carrier.{turned_is}
use Rattle.line.proofs.carrier.turn.Goals as goal

pub returns : goal.returns
returns c = let a = c.args in turned_is a.plan a.value a.c a.p a.ms.now a.ss.now _ _ _ _ c.does_at-after.ensures c.spot_after-spot.ensures
