use Rattle.std.proofs.Common.{◌∙◌}
use Rattle.std.proofs.Math.Seq.{take-length}
use Rattle.packed.specs.Puts.{first_unpacked, zeros_unpacked}
use Rattle.packed.proofs.record.unpack.Goals as goal

pub returns-in-Some : goal.returns-in-Some
returns-in-Some c = c.unpack_whole.ensures ∙ first_unpacked _ _ c.in-Some.ensures.cases.same

pub returns : goal.returns
returns c = c.unpack_whole-2.ensures ∙ zeros_unpacked _ _ (cc (take-length c.args.s.now, c.copy_from_slice.ensures.after))
