use Rattle.round.specs.PagesLaw.{line_put}
use Rattle.round.proofs.answer.page_line.Goals as goal

pub returns : goal.returns
returns c = line_put c.args.page.now _ c.requires c.put_digits.ensures
