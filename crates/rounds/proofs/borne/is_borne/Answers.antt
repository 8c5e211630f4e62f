use Rattle.std.proofs.Common.{rules, tests, ◌∙◌}
use Rattle.std.proofs.lemmas.Iterator.{YieldsList-from_slice}
use Rattle.std.proofs.lemmas.Iterator.Search.{any_from_yields_List}
use Rattle.chip.specs.declared.Chip.{Chip}
use Rattle.rounds.specs.Borne.{bears_code}
use Rattle.rounds.specs.BorneLaw.{borne_any}
use Rattle.rounds.proofs.borne.is_borne.Goals as goal

pub returns : goal.returns
returns c =
    any_from_yields_List (λ (d : Chip). bears_code c.args.code d.kind d.code) _ _ _ c.any.ensures.ran (YieldsList-from_slice c.args.chips.now cc) (λ x b q k. search (rules, tests))
    ∙ borne_any c.args.code c.args.chips.now
