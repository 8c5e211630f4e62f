use Rattle.base.specs.Rules.{cases}
use Rattle.base.specs.Bits.{both}
use Rattle.line.specs.Slots.{run_fits}
use Rattle.line.proofs.carrier.run_fits.Goals as goal

pub returns-then-slots-le-SLOTS_MOST : goal.returns-then-slots-le-SLOTS_MOST
unfolding run_fits both
returns-then-slots-le-SLOTS_MOST c = let e = c.bytes_asked-asked.ensures in rw (← e) (search (cases, c.are_both.ensures))

pub returns : goal.returns
unfolding run_fits both
returns c = search cases
