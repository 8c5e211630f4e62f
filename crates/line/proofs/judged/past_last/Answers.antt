use Rattle.std.proofs.Common.{arith, rules, ◌≡◌, ◌∙◌, ap, length}
use Rattle.line.specs.declared.Spot.{Spot}
use Rattle.line.specs.Carried.{table_images, table_pads, images_none, pads_none}
use Rattle.line.proofs.judged.past_last.Goals as goal

pub returns-then-t-gt16 : goal.returns-then-t-gt16
returns-then-t-gt16 c =
    let t = c.args.t in
    let e = c.first_spot.ensures in
    record {
      images = (ap (λ (s : Spot). s.image) e ∙ images_none t.n t.chips (search rules), omega (arith, ap (λ (s : Spot). s.image) e));
      pads = (ap (λ (s : Spot). s.pad) e ∙ pads_none t.n t.chips (search rules), omega (arith, ap (λ (s : Spot). s.pad) e));
    }

pub returns : goal.returns
returns c =
    let t = c.args.t in
    let full : length t.chips ≡ 16 = omega arith in
    record {
      images = table_images t.n t.chips full c.survey.result c.survey.ensures (search rules);
      pads = table_pads t.n t.chips full c.survey.result c.survey.ensures (search rules);
    }
