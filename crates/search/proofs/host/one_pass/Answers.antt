use Rattle.std.proofs.Common.{◌≡◌, true, false, sym, ◌∙◌}
use Rattle.base.specs.Bits.{both}
use Rattle.base.specs.Pick.{pick}
use Rattle.search.specs.Branch.{marked}
use Rattle.search.specs.Pass.{going_next, going_up, going_end}
use Rattle.search.proofs.host.one_pass.Goals as goal
use Rattle.search.proofs.host.one_pass.Goals.{else-a-via-then-a+else-b, else-a-via-else-a, else-bits-test, then-bits-test+then-a+then-b}

pub bits-preserved : goal.bits-preserved
unfolding both pick
bits-preserved c =
    let s = c.bits in
    let x = c.slot-a in
    let y = c.slot-b in
    let z = c.slot in
    let e : both x.result y.result ≡ false =
    elim c.else-a.branch [ else-a-via-then-a+else-b w ↦ rw (w.if-a.true, w.if-b.false) | else-a-via-else-a w ↦ rw w.if-a.false ] in
    record {
      going = going_next _ _ _ _ _ _ s.k s.code (marked s.parting) s.slots _ _ _ _ _ _ s.invariant.going c.bits-test.true x.ensures.0 x.ensures.1 y.ensures.0 y.ensures.1 e
          c.bit_of-wanted.ensures c.turn_of-d.ensures z.ensures.1 c.put_bit-code.ensures c.parting_of-parting.ensures;
      whole_is = s.invariant.whole_is;
    }

pub returns-then-whole-clause-slots_after : goal.returns-then-whole-clause-slots_after
returns-then-whole-clause-slots_after c =
    let s = c.bits in
    elim c.bits-test.branch [
      | else-bits-test w ↦ rw (w.t-is, w.ms-is, w.ss-is, w.slots-is) (going_end _ _ _ s.k s.code (marked s.parting) s.slots s.invariant.going w.bits-test.false)
      | then-bits-test+then-a+then-b w ↦ let no : true ≡ false = sym c.if-whole.true ∙ w.whole-is in search
    ]

pub returns-else-whole-clause-slots_after : goal.returns-else-whole-clause-slots_after
unfolding both pick
returns-else-whole-clause-slots_after c =
    let s = c.bits in
    elim c.bits-test.branch [
      | else-bits-test w ↦ let no : true ≡ false = sym s.invariant.whole_is ∙ sym w.whole-is ∙ c.if-whole.false in search
      | then-bits-test+then-a+then-b w ↦
          let x = w.slot-a in
          let y = w.slot-b in
          rw (w.t-is, w.ms-is, w.ss-is, w.slots-is)
          (going_up _ _ _ _ _ s.k s.code (marked s.parting) s.slots _ _ s.invariant.going w.bits-test.true x.ensures.0 x.ensures.1 y.ensures.0 y.ensures.1 (rw (w.if-a.true, w.if-b.true)))
    ]
