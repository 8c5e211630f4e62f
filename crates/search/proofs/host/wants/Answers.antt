use Rattle.search.specs.Pass.{up_fits, up_code, pow_some}
use Rattle.search.proofs.host.wants.Goals as goal

pub nonzero_rem-result : goal.nonzero_rem-result
nonzero_rem-result c = pow_some c.args.parting c.requires

pub overflow_add-result : goal.overflow_add-result
overflow_add-result c = record { fits = up_fits c.args.parting c.args.path c.requires }

pub returns : goal.returns
returns c = up_code c.args.parting c.args.path c.requires
