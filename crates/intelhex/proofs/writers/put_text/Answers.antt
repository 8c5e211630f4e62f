use Rattle.intelhex.specs.Putting.{text_put}
use Rattle.intelhex.proofs.writers.put_text.Goals as goal

pub returns : goal.returns
returns c = text_put c.args.image.now c.args.text.now _ _ c.told-image c.told-text c.put_data_lines.ensures c.put_line.ensures
