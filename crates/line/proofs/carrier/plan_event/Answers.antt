use Rattle.line.specs.Event.{plan_event}
use Rattle.base.specs.Rules.{cases}
use borrow.Author.Rules.{rules}
use Rattle.line.proofs.carrier.plan_event.Goals as goal

pub asked_of-requires : goal.asked_of-requires
asked_of-requires c = record { kind_value = search (rules, ← c.outside_fits.ensures); number_bound = search rules }

pub returns-then-e-gt4 : goal.returns-then-e-gt4
unfolding plan_event
returns-then-e-gt4 c = search cases

pub returns-then-not-outside_fits : goal.returns-then-not-outside_fits
unfolding plan_event
returns-then-not-outside_fits c = search (cases, ← c.outside_fits.ensures)

pub returns : goal.returns
unfolding plan_event
returns c = search (cases, c.asked_of.ensures, ← c.outside_fits.ensures)
