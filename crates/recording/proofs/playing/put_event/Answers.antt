use Rattle.recording.specs.Puts.{event_bit, event_refused}
use Rattle.recording.proofs.playing.put_event.Goals as goal

pub returns-in_default : goal.returns-in_default
returns-in_default c = let a = c.args in let t = c.take_event-happened in event_refused a.e a.t.n a.t.chips a.ms.now a.ss.now t.result.answer t.result.table.n t.result.table.chips _ _ t.ensures a.place a.out.now _ _ c.in_default.is c.refused_event.ensures

pub returns : goal.returns
returns c = let a = c.args in let t = c.take_event-happened in event_bit a.e a.t.n a.t.chips a.ms.now a.ss.now t.result.answer t.result.table.n t.result.table.chips _ _ t.ensures a.place a.out.now _ _ _ c.in-Ok.is c.digit_of.ensures c.put_at.ensures
