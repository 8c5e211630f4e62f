use Rattle.std.proofs.Common.{ℕ, ◌+◌, List, get_or, set, ap, ◌∙◌, rules}
use Rattle.base.specs.Stores.{stored_next}
use Rattle.intelhex.proofs.storing.put_bytes.Goals as goal

pub loop-i-preserved : goal.loop-i-preserved
loop-i-preserved c =
    let l = c.loop-i in
    let a = c.args in
    (search rules, c.put_at.ensures ∙ ap (λ (x : List ℕ). set x (a.at + l.i) (get_or a.bytes.now l.i 0)) l.invariant.1 ∙ stored_next _ _ l.i _ (search rules))
