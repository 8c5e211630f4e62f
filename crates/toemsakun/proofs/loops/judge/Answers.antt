use native.Mathlib.Omega.{arith}
use Rattle.toemsakun.specs.Standing.{judging_start, judging_next}
use Rattle.toemsakun.specs.Surveys.{survey_made, survey_short, survey_many}
use Rattle.toemsakun.proofs.loops.judge.Goals as goal

pub returns-then-n-gt16 : goal.returns-then-n-gt16
returns-then-n-gt16 c = survey_many _ _ c.if-n-gt16.true

pub loop-i-init : goal.loop-i-init
loop-i-init c = judging_start _ c.args.table.now c.if-n-gt16.false (omega arith)

pub loop-i-preserved : goal.loop-i-preserved
loop-i-preserved c = judging_next _ _ _ _ _ _ c.loop-i.invariant c.stands-good.result c.are_both-ok.result c.kind_of-kind.result c.image_size-image.result c.pad_size-pad.result c.loop-i-test.true c.stands-good.ensures c.are_both-ok.ensures c.kind_of-kind.ensures c.image_size-image.ensures.value c.pad_size-pad.ensures.value

pub returns-then-not-whole : goal.returns-then-not-whole
returns-then-not-whole c = survey_short _ _ _ _ _ _ _ c.loop-i.invariant c.loop-i-test.false c.are_both-whole.ensures c.if-not-whole.true

pub returns : goal.returns
returns c = survey_made _ _ _ _ _ _ _ _ c.loop-i.invariant c.loop-i-test.false c.are_both-whole.ensures c.if-not-whole.false c.kind_named-named.ensures
