use mathlib.Core.Path.{◌∙◌}
use Rattle.toemsakun.specs.Laws.{pads_found}
use Rattle.toemsakun.proofs.tk_pads_size.Goals as goal

pub returns : goal.returns
returns c = let t = c.unpack-t in record { value = c.pads_asked.ensures.value ∙ pads_found _ t.result t.ensures; most = c.pads_asked.ensures.most }
