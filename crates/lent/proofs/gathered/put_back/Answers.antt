use Rattle.std.proofs.Common.{rules, arith, ℕ, ◌≡◌, ◌<◌, ◌≤◌, ◌-◌, suc, ◌+◌, List, ◌∙◌, sym, length, get_or, set, add-one}
use Rattle.chip.specs.declared.Chip.{Chip}
use Rattle.chip.specs.With.{no_chip}
use Rattle.line.specs.declared.Table.{Table}
use Rattle.line.specs.Tables.{chip_for}
use Rattle.lent.specs.Gathered.{puts}
use Rattle.lent.specs.Back.{puts_turn, puts_none}
use Rattle.lent.proofs.gathered.put_back.Goals as goal

-- a turn at place i of n, and the end
more : (t : Table) (n i : ℕ) (cs : List Chip) (c : Chip) → i < n → c ≡ chip_for t i (get_or cs i no_chip) → puts t (n - (i + 1)) (i + 1) (set cs i c) ≡ puts t (n - i) i cs
more t n i cs c h e =
    let k : n - i ≡ suc (n - (i + 1)) = omega arith in
    (λ j. puts t (n - (i + 1)) (add-one i j) (set cs i c)) ∙ puts_turn t (n - (i + 1)) i cs c e ∙ (λ j. puts t (sym k j) i cs)

done : (t : Table) (n i : ℕ) (cs : List Chip) → n ≤ i → cs ≡ puts t (n - i) i cs
done t n i cs h = let z : n - i ≡ 0 = omega arith in puts_none t i cs ∙ (λ j. puts t (sym z j) i cs)

pub loop-i-preserved : goal.loop-i-preserved
loop-i-preserved c =
    more _ (length c.args.table.now) _ _ _ (search rules) c.chip_for-c.ensures ∙ c.loop-i.invariant

pub returns : goal.returns
returns c = done _ (length c.args.table.now) _ _ (omega arith) ∙ c.loop-i.invariant
