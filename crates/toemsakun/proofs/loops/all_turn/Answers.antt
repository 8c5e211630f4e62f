use Rattle.line.specs.declared.Spot.{Spot}
use Rattle.line.specs.Carrier.{acts}
use Rattle.packed.specs.Packed.{unpacked_table}
use lib.ListN.{length}
use mathlib.Core.Path.{ap, ◌∙◌}
use Rattle.toemsakun.specs.Acting.{acting_start, acting_next, acting_end}
use Rattle.toemsakun.proofs.loops.all_turn.Goals as goal

pub loop-i-init : goal.loop-i-init
loop-i-init c = acting_start c.args.plan c.args.value c.args.table.now c.args.ms.now c.args.ss.now _ c.requires

pub loop-i-preserved : goal.loop-i-preserved
loop-i-preserved c = let t = c.turn-r in let p = c.put_record in acting_next _ _ _ _ _ _ _ _ _ _ _ _ c.loop-i.invariant c.unpack-c.result t.result.chip t.result.spot p.new.s t.new.ms t.new.ss c.loop-i-test.true c.unpack-c.ensures t.ensures p.ensures t.auto.ms t.auto.ss

pub returns : goal.returns
returns c = let a = c.args in record { table16 = c.loop-i.invariant.table; ss_after = acting_end _ _ _ _ _ _ _ _ _ _ _ _ c.loop-i.invariant c.loop-i-test.false ∙ ap (λ (s : Spot). acts a.plan a.value (length (unpacked_table a.table.now)) 0 s (unpacked_table a.table.now) a.ms.now a.ss.now) c.first_spot-spot.ensures }
