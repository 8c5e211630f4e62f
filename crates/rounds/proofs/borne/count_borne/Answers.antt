use Rattle.std.proofs.Common.{arith, sym, ◌∙◌}
use Rattle.rounds.specs.BorneLaw.{counts_last, counts_shared, counts_other, counts_all}
use Rattle.rounds.proofs.borne.count_borne.Goals as goal
use Rattle.rounds.proofs.borne.count_borne.Goals.{then-is_ds28ec20+then-not-is_borne, else-is_ds28ec20, else-is_ds28ec20-via-then-is_ds28ec20+else-not-is_borne, else-is_ds28ec20-via-else-is_ds28ec20}

pub loop-i-preserved : goal.loop-i-preserved
loop-i-preserved c =
    let l = c.loop-i in
    let g = l.invariant.counted in
    let d = c.is_ds28ec20 in
    elim c.if-is_ds28ec20.branch [
      | then-is_ds28ec20+then-not-is_borne w ↦ record {
        few = omega arith;
        counted = rw w.codes-is (counts_last _ l.i l.codes c.loop-i-test.true g _ w.is_borne.ensures (sym d.ensures ∙ w.if-is_ds28ec20.true) w.if-not-is_borne.true);
      }
      | else-is_ds28ec20 w ↦ record {
        few = omega arith;
        counted = rw w.codes-is (elim w.else-is_ds28ec20.branch [
          | else-is_ds28ec20-via-then-is_ds28ec20+else-not-is_borne v ↦
              counts_shared _ l.i l.codes c.loop-i-test.true g _ v.is_borne.ensures (sym d.ensures ∙ v.if-is_ds28ec20.true) v.if-not-is_borne.false
          | else-is_ds28ec20-via-else-is_ds28ec20 v ↦ counts_other _ l.i l.codes c.loop-i-test.true g (sym d.ensures ∙ v.if-is_ds28ec20.false)
        ]);
      }
    ]

pub returns-clause-value : goal.returns-clause-value
returns-clause-value c = let l = c.loop-i in counts_all c.args.chips.now l.i l.codes c.loop-i-test.false l.invariant.counted
