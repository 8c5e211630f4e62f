use Rattle.std.proofs.Common.{rules, ◌∙◌, ◌≡◌}
use Rattle.std.proofs.lemmas.Grind.{common_steps}
use Rattle.std.specs.List.{fold}
use Rattle.crc.specs.Loop.{crc_folded}
use Rattle.crc.specs.Crc.{poly16, crc_byte}
use Rattle.crc.proofs.crc16.Goals as goal

pub returns : goal.returns
returns c =
    let e : c.fold.result ≡ fold (crc_byte poly16) 0 c.args.s.now = grind (rules, common_steps) in
    e ∙ crc_folded poly16 0 c.args.s.now
