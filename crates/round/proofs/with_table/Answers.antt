use native.Mathlib.Omega.{arith}
use mathlib.Core.Path.{sym}
use lib.Seq.{length-take-le}
use Rattle.round.proofs.with_table.Goals as goal

pub slice_bounds-make_round-end : goal.slice_bounds-make_round-end
slice_bounds-make_round-end c = sym (length-take-le _ _ (omega (arith, c.used_places-n.ensures.most)))

pub slice_bounds-make_round-end-5 : goal.slice_bounds-make_round-end-5
slice_bounds-make_round-end-5 c = sym (length-take-le _ _ (omega (arith, c.pads_asked-s.ensures.most, c.pad_room-pads.ensures.pads_most_value)))
