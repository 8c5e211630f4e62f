use Rattle.std.proofs.Common.{◌∙◌, sym, length-take-le, rules}
use Rattle.intelhex.specs.Turning.{bytes_fit, bytes_room, by_bytes}
use Rattle.intelhex.proofs.readers.take_line.Goals as goal

pub slice_bounds-decode-count : goal.slice_bounds-decode-count
slice_bounds-decode-count c = let p = (bytes_fit c.args.line.now c.args.image.now 0 _ _ c.form_of.ensures c.in_ok-n.was).0 in search (rules, p)

pub slice_bounds-decode-start : goal.slice_bounds-decode-start
slice_bounds-decode-start c = let p = (bytes_fit c.args.line.now c.args.image.now 0 _ _ c.form_of.ensures c.in_ok-n.was).0 in search (rules, p)

pub slice_bounds-take_record-end : goal.slice_bounds-take_record-end
slice_bounds-take_record-end c = bytes_room c.args.line.now c.args.image.now 0 _ _ c.decode.new.bytes c.form_of.ensures c.in_ok-n.was c.requires.0 (c.decode.auto.bytes ∙ c.requires.1)

pub slice_bounds-take_record-end-2 : goal.slice_bounds-take_record-end-2
slice_bounds-take_record-end-2 c =
    sym (length-take-le _ _ (bytes_room c.args.line.now c.args.image.now 0 _ _ c.decode.new.bytes c.form_of.ensures c.in_ok-n.was c.requires.0 (c.decode.auto.bytes ∙ c.requires.1)))

pub returns : goal.returns
returns c =
    let r = bytes_room c.args.line.now c.args.image.now 0 _ _ c.decode.new.bytes c.form_of.ensures c.in_ok-n.was c.requires.0 (c.decode.auto.bytes ∙ c.requires.1) in
    let l = c.decode.auto.bytes in let k = c.requires.1 in
    by_bytes c.args.line.now c.args.image.now _ _ _ _ _ _ c.form_of.ensures c.in_ok-n.was (search (rules, r, l, k)) c.decode.ensures c.take_record.ensures
