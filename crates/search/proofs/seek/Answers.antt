use Rattle.std.proofs.Common.{arith, length-set, ℕ, ◌≡◌, ◌+◌, refl, true, Option, sym, ap, ◌∙◌}
use Rattle.line.specs.Attached.{Attached}
use Rattle.search.specs.Host.{Played, End, played}
use Rattle.search.specs.Branch.{ended, marked}
use Rattle.search.specs.Passes.{seeking_start, seek_absent, seek_up, seek_last, full_stays, seek_full, seek_again, seek_stays, found_all, found_some}
use Rattle.search.specs.declared.host.Branch.{Branch}
use Rattle.search.proofs.seek.Goals as goal

-- how a pass ended, by what was found of its branch
branched : (o p : Option Branch) (e : End) (l : Attached) (s : ℕ) (q : Played End Attached) → o ≡ p → played (ended o e) l 0 s ≡ q → played (ended p e) l 0 s ≡ q
branched o p e l s q f g = ap (λ (b : Option Branch). played (ended b e) l 0 s) (sym f) ∙ g

pub loop-n-init : goal.loop-n-init
loop-n-init c = let a = c.args in let p = c.requires in record { seeking = seeking_start a.places _ a.list.now p.0 p.2 }

pub returns-then-reset : goal.returns-then-reset
returns-then-reset c =
    let s = c.loop-n in
    let g = s.invariant.seeking in
    found_all s.n s.list _ _ _ s.slots _ (omega (arith, g.room, c.loop-n-test.true)) g.stays
    (seek_absent _ _ _ _ _ s.list s.want s.n s.slots _ g c.loop-n-test.true c.reset.ensures.0 c.reset.ensures.1 c.if-reset.true)

pub returns-in_default : goal.returns-in_default
returns-in_default c =
    let s = c.loop-n in
    let g = s.invariant.seeking in
    let p = c.reset in
    let e = c.one_pass-pass in
    found_all s.n s.list _ _ _ _ _ (omega (arith, g.room, c.loop-n-test.true)) g.stays
    (seek_up _ _ _ _ _ _ _ s.list s.want s.n s.slots _ _ _ e.result.slots.0 _ g p.ensures.0 p.ensures.1 c.if-reset.false c.loop-n-test.true c.write_byte.ensures
    (branched _ _ _ _ _ _ c.in_default.is e.ensures.slots_after) refl)

pub returns-in_default-parting : goal.returns-in_default-parting
returns-in_default-parting c =
    let s = c.loop-n in
    let g = s.invariant.seeking in
    let p = c.reset in
    let e = c.one_pass-pass in
    let b = c.in-Some.branch in
    let f = branched _ _ _ _ _ _ c.in-Some.is e.ensures.slots_after in
    found_all (s.n + 1) _ _ _ _ _ _ (simp length-set (omega (arith, g.room, c.loop-n-test.true)))
    (seek_stays _ _ _ _ _ _ _ s.list s.want s.n s.slots _ b.code _ e.result.slots.0 true g p.ensures.0 p.ensures.1 c.if-reset.false c.loop-n-test.true c.write_byte.ensures f refl)
    (seek_last _ _ _ _ _ _ _ s.list s.want s.n s.slots _ b.code _ e.result.slots.0 true g p.ensures.0 p.ensures.1 c.if-reset.false c.loop-n-test.true c.write_byte.ensures f refl
    (ap marked c.in_default-parting.is))

pub loop-n-preserved : goal.loop-n-preserved
loop-n-preserved c =
    let s = c.loop-n in
    let g = s.invariant.seeking in
    let p = c.reset in
    let e = c.one_pass-pass in
    let b = c.in-Some.branch in
    let f = branched _ _ _ _ _ _ c.in-Some.is e.ensures.slots_after in
    record {
      seeking = seek_again _ _ _ _ _ _ _ s.list s.want s.n s.slots _ b.code _ e.result.slots.0 true g p.ensures.0 p.ensures.1 c.if-reset.false c.loop-n-test.true c.write_byte.ensures f refl
          c.in-Some-parting.parting _ (ap marked c.in-Some-parting.is) c.wants-want.ensures e.ensures.last_bound.1;
    }

pub returns : goal.returns
returns c =
    let s = c.loop-n in
    let g = s.invariant.seeking in
    let q : s.n ≡ c.args.places = omega (arith, c.loop-n-test.false) in
    found_some c.args.places s.list _ _ _ s.slots _ g.room (full_stays _ _ _ _ _ s.want s.n s.slots g q) (seek_full _ _ _ _ _ s.want s.n s.slots g q)
