use Rattle.packed.specs.Packed.{unpacked_table}
use lib.ListN.{length}
use mathlib.Core.Path.{ap, ◌∙◌}
use Rattle.line.specs.Carrier.{bus_with, over}
use Rattle.line.specs.declared.Bus.{Bus}
use Rattle.chip.specs.declared.Chip.{Chip}
use Rattle.toemsakun.specs.Acting.{walking_start, walking_next, walking_end, sum_with, sum_is}
use Rattle.toemsakun.proofs.loops.line_value.Goals as goal

pub loop-i-init : goal.loop-i-init
loop-i-init c = walking_start _ c.args.table.now _ c.requires

pub loop-i-preserved : goal.loop-i-preserved
loop-i-preserved c = let l = c.loop-i in let u = c.unpack-c in let bit = c.puts_at-bit in walking_next _ _ _ _ _ _ l.invariant u.result (sum_with c.are_both-value.result c.spot_after-spot.result) c.loop-i-test.true u.ensures (sum_is _ _ l.value l.spot _ _ bit.result _ _ bit.ensures c.are_both-value.ensures c.spot_after-spot.ensures)

pub returns : goal.returns
returns c = let a = c.args in let f : Chip → Bus → Bus = λ (x : Chip) (s : Bus). bus_with a.plan x s a.ms.now a.ss.now in ap (λ (s : Bus). s.value) (walking_end f _ _ _ _ _ c.loop-i.invariant c.loop-i-test.false ∙ ap (λ (s : Bus). over f (length (unpacked_table a.table.now)) 0 (unpacked_table a.table.now) s) (λ j. sum_with (c.host_bit-value.ensures j) (c.first_spot-spot.ensures j)))
