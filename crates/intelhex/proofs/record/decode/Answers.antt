use Rattle.std.proofs.Common.{set, ◌∙◌, arith}
use Rattle.std.proofs.lemmas.List.Edits.{sets}
use Rattle.intelhex.specs.Bytes.{bytes_of}
use Rattle.intelhex.specs.Decoding.{decoded_next, decoded_all}
use Rattle.intelhex.proofs.record.decode.Goals as goal

pub loop-i-preserved : goal.loop-i-preserved
loop-i-preserved c =
    let l = c.loop-i in
    let s = c.in-Some.ensures.steps in (
      s.0.0 ∙ l.invariant.0,
      (λ j. sets (set l.bytes (s.1 j) (c.byte_of.ensures j)) (s.2 j) (bytes_of c.next.new.self.iter.rest.now))
          ∙ decoded_next l.bytes c.in-Some.pair.now _ _ _ s.0.1.0 (s.0.1.1 ∙ l.invariant.0) ∙ l.invariant.1,
    )

pub returns : goal.returns
returns c =
    let l = c.loop-i in
    let h = c.in-None.ensures.steps.0.1.0 in
    let z = l.invariant.0 in
    decoded_all l.bytes l.i-iterator.iter.rest.now l.i-iterator.count (omega arith) ∙ l.invariant.1
