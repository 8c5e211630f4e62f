use Rattle.std.proofs.Common.{false, sym, refl, length-take-le}
use Rattle.intelhex.specs.Turning.{line_within, line_few, by_standing}
use Rattle.intelhex.proofs.readers.take_before.Goals as goal

pub slice_bounds-take_line-end : goal.slice_bounds-take_line-end
slice_bounds-take_line-end c = sym (length-take-le _ _ (line_within false c.args.text.now c.args.text.now _ _ _ c.standing_in.ensures c.in-Line.is))

pub take_line-requires : goal.take_line-requires
take_line-requires c = (line_few false c.args.text.now c.args.text.now _ _ _ c.standing_in.ensures c.in-Line.is, c.requires)

pub returns-in-Endless : goal.returns-in-Endless
returns-in-Endless c = by_standing _ _ _ _ _ _ c.standing_in.ensures c.in-Endless.is refl

pub returns-in-Line : goal.returns-in-Line
returns-in-Line c = by_standing _ _ _ _ _ _ c.standing_in.ensures c.in-Line.is c.take_line.ensures
