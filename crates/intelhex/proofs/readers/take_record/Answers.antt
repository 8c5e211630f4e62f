use Rattle.std.proofs.Common.{Ok, ap, ◌∙◌, refl, rules}
use Rattle.intelhex.specs.Turning.{data_fits, by_data, by_record}
use Rattle.intelhex.proofs.readers.take_record.Goals as goal

pub slice_bounds-put_bytes-end : goal.slice_bounds-put_bytes-end
slice_bounds-put_bytes-end c = let h = (data_fits c.args.bytes.now c.args.image.now 0 _ _ _ c.judge.ensures (c.in_ok-address.was ∙ ap Ok c.in-Data.is)).1.1.0 in search (rules, h)

pub returns-in-Data : goal.returns-in-Data
returns-in-Data c = by_data c.args.bytes.now _ _ _ _ _ _ _ c.judge.ensures (c.in_ok-address.was ∙ ap Ok c.in-Data.is) refl c.put_bytes.ensures

pub returns-in-End : goal.returns-in-End
returns-in-End c = by_record c.args.bytes.now _ _ _ _ _ c.judge.ensures (c.in_ok-address.was ∙ ap Ok c.in-End.is) refl
