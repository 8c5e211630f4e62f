use Rattle.line.specs.Loops.{lies_in, lies_past, begins_past}
use Rattle.line.proofs.loops.lies_in.Goals as goal

pub returns-then-size-bytes : goal.returns-then-size-bytes
returns-then-size-bytes c = lies_in _ _ _ c.if-at-bytes.true c.if-size-bytes.true

pub returns-then-at-bytes : goal.returns-then-at-bytes
returns-then-at-bytes c = lies_past _ _ _ c.if-at-bytes.true c.if-size-bytes.false

pub returns : goal.returns
returns c = begins_past _ _ _ c.if-at-bytes.false
