use Rattle.std.proofs.Common.{sym, ◌∙◌, ap, Bool, eqb}
use Rattle.base.specs.Bits.{both}
use Rattle.base.specs.Pick.{pick}
use Rattle.rounds.proofs.borne.bears.Goals as goal

pub returns-then-is_ds28ec20 : goal.returns-then-is_ds28ec20
unfolding both pick
returns-then-is_ds28ec20 c = ap (λ (t : Bool). both t (eqb c.args.code c.args.c.code)) (sym c.if-is_ds28ec20.true ∙ c.is_ds28ec20.ensures)

pub returns-else-is_ds28ec20 : goal.returns-else-is_ds28ec20
unfolding both pick
returns-else-is_ds28ec20 c =
    c.if-is_ds28ec20.false ∙ ap (λ (t : Bool). both t (eqb c.args.code c.args.c.code)) (sym c.if-is_ds28ec20.false ∙ c.is_ds28ec20.ensures)
