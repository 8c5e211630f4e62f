use Rattle.std.proofs.Common.{◌∙◌, pos}
use Rattle.std.specs.Int.{w64}
use Rattle.std.proofs.lemmas.Int.{to_z-of_z}
use Rattle.setpoints.specs.Judging.{in_range}
use Rattle.setpoints.proofs.kinds.is_allowed.Goals as goal

pub returns-in-Degrees : goal.returns-in-Degrees
returns-in-Degrees c =
    c.contains.ensures.value
    ∙ rw (c.new.ensures.start, c.new.ensures.end, c.new.ensures.exhausted, to_z-of_z w64 c.args.value c.ranges.value, c.in-Degrees.is) (in_range (pos 10) c.args.value (pos 35))

pub returns-in-Tenths : goal.returns-in-Tenths
returns-in-Tenths c =
    c.contains-in-Tenths.ensures.value
    ∙ rw (c.new-in-Tenths.ensures.start, c.new-in-Tenths.ensures.end, c.new-in-Tenths.ensures.exhausted, to_z-of_z w64 c.args.value c.ranges.value, c.in-Tenths.is) (in_range (pos 180) c.args.value (pos 270))
