use Rattle.rounds.specs.Reading.{page_put}
use Rattle.rounds.proofs.host.read_page.Goals as goal

pub returns : goal.returns
returns c =
    page_put c.args.code c.args.at _ _ _ _ _ _ _ _ _ _ c.reset.ensures.1 c.write_byte.ensures c.write_code.ensures c.write_byte-2.ensures c.write_byte-3.ensures c.write_byte-4.ensures
    c.read_bytes.ensures
