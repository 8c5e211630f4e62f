use Rattle.search.specs.Pass.{put_fits, shl_one}
use Rattle.search.proofs.host.put_bit.Goals as goal

pub overflow_add-result : goal.overflow_add-result
overflow_add-result c = let p = c.requires in record { fits = put_fits c.args.k c.args.path p.0 p.1 }

pub returns-then-d : goal.returns-then-d
returns-then-d c = rw (c.if-d.true, shl_one c.args.k c.requires.0)
