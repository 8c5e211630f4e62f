use Rattle.std.proofs.Common.{take}
use Rattle.std.specs.Io.KnownBytes.{Consumes}
use Rattle.console.specs.Input.{IsPrefixLen}
use Rattle.console.proofs.input.fill.Given as goal

abbrev pub invariant-loop : goal.invariant-loop
invariant-loop g l = IsPrefixLen l.h.bytes l.bytes × Consumes (g.R.Read.remaining l.initial.input) (g.R.Read.remaining l.input) (take l.h.bytes l.bytes)
