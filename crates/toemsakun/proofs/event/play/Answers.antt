use Rattle.toemsakun.specs.Acting.{played}
use Rattle.toemsakun.proofs.event.play.Goals as goal

pub returns : goal.returns
returns c = let a = c.args in let t = c.all_turn in played a.table.now a.ms.now a.ss.now t.new.table t.new.ms t.new.ss a.plan c.line_value-value.result t.ensures.table16 c.line_value-value.ensures t.ensures.ss_after
