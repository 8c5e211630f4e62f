use Rattle.console.proofs.Moving.{moved_by_copy}
use Rattle.console.specs.InputLaw.{moved_whole}
use Rattle.console.proofs.input.move_down.Goals as goal

pub returns-then-at-eq0-clause-bytes_after : goal.returns-then-at-eq0-clause-bytes_after
returns-then-at-eq0-clause-bytes_after c = moved_whole _ _ _ c.if-at-eq0.true

pub returns-clause-bytes_after : goal.returns-clause-bytes_after
returns-clause-bytes_after c = cc (moved_by_copy c.args.at c.args.held c.args.bytes.now)
