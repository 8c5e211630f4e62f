use mathlib.Core.Path.{◌∙◌}
use Rattle.toemsakun.specs.Laws.{images_found}
use Rattle.toemsakun.proofs.tk_images_size.Goals as goal

pub returns : goal.returns
returns c = let t = c.unpack-t in record { value = c.images_asked.ensures.value ∙ images_found _ t.result t.ensures; most = c.images_asked.ensures.most }
