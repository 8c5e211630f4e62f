use Rattle.crc.specs.Drawn.{drawn-byte}
use Rattle.crc.specs.Stages.{byte_of_stages}
use Rattle.crc.specs.Figure4.{stages_of}
use borrow.Author.Rules.{rules}
use Rattle.crc.proofs.byte8.Goals as goal

pub returns : goal.returns
returns c =
    let a = c.args in
    cc (drawn-byte (stages_of a.x) a.b, byte_of_stages a.x (search rules))
