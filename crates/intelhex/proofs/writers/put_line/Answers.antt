use Rattle.std.proofs.Common.{refl}
use Rattle.intelhex.specs.Putting.{line_put}
use Rattle.intelhex.proofs.writers.put_line.Goals as goal

pub returns : goal.returns
returns c = let a = c.args in line_put a.bytes.now a.text.now _ _ _ _ a.at _ _ c.check_of.ensures refl c.put_at.ensures c.put_digits.ensures c.put_digits-2.ensures c.put_at-2.ensures
