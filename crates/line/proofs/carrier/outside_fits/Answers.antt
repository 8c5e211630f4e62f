use Rattle.line.specs.Event.{outside_fits}
use Rattle.base.specs.Rules.{cases}
use Rattle.line.proofs.carrier.outside_fits.Goals as goal

pub returns-then-e-eq4 : goal.returns-then-e-eq4
unfolding outside_fits
returns-then-e-eq4 c = search (cases, c.are_both.ensures, ← c.are_both-small.ensures, ← c.takes_outside.ensures)

pub returns : goal.returns
unfolding outside_fits
returns c = search (cases, ← c.are_both-small.ensures)
