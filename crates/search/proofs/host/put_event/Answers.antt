use Rattle.std.proofs.Common.{◌∙◌, ap}
use Rattle.line.specs.Attached.{says_of, leaves_of, left_by}
use Rattle.line.specs.Event.{Outcome}
use Rattle.search.specs.Host.{heard}
use Rattle.search.proofs.host.put_event.Goals as goal

pub returns : goal.returns
unfolding says_of leaves_of
returns c = let e = c.take_event-happened.ensures in (c.bit_heard.ensures ∙ ap (λ (o : Outcome). heard o.answer) e, ap left_by e)
