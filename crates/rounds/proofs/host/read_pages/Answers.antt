use Rattle.std.proofs.Common.{arith, refl}
use Rattle.rounds.specs.Pages.{paging_past, paging_next, paging_end}
use Rattle.rounds.proofs.host.read_pages.Goals as goal
use Rattle.rounds.proofs.host.read_pages.Goals.{then-is_borne, else-is_borne}

pub loop-code-preserved : goal.loop-code-preserved
loop-code-preserved c =
    let s = c.loop-code in
    let g = s.invariant.paging in
    elim c.if-is_borne.branch [
      | then-is_borne w ↦ rw (w.t-is, w.pages-is, w.ms-is, w.ss-is, w.count-is, w.at-is) (record {
        paging = paging_next _ _ _ _ _ _ s.count s.at s.code-index _ _ g c.loop-code-test.true refl c.is_borne.ensures _ _ w.if-is_borne.true w.read_page.ensures;
      })
      | else-is_borne w ↦ rw (w.t-is, w.pages-is, w.ms-is, w.ss-is, w.count-is, w.at-is) (record {
        paging = paging_past _ _ _ _ _ _ s.count s.at s.code-index _ _ g c.loop-code-test.true refl c.is_borne.ensures w.if-is_borne.false;
      })
    ]

pub returns-clause-pages_after : goal.returns-clause-pages_after
returns-clause-pages_after c = let s = c.loop-code in (paging_end _ _ _ _ _ _ s.count s.at s.code-index s.invariant.paging c.loop-code-test.false).0

pub returns-clause-pages_value : goal.returns-clause-pages_value
returns-clause-pages_value c =
    let s = c.loop-code in
    ((paging_end _ _ _ _ _ _ s.count s.at s.code-index s.invariant.paging c.loop-code-test.false).1, omega (arith, s.invariant.paging.few, s.invariant.paging.within, c.requires))
