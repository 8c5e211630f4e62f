use Rattle.std.proofs.Common.{arith, length-take-le, ap, sym}
use Rattle.line.specs.Refusals.{in_range_few, judged_well}
use Rattle.line.specs.Attached.{attached}
use Rattle.search.specs.Search.{searched}
use Rattle.rounds.specs.Round.{borne_on}
use Rattle.rounds.specs.Rounds.{search_well, listed_few, listed_room, resets_few, slots_few, round_stops, round_reads_on}
use Rattle.rounds.proofs.go_round.Goals as goal

pub shared_ref_as_front-read_pages : goal.shared_ref_as_front-read_pages
shared_ref_as_front-read_pages c = in_range_few _ _ (judged_well _ _ _ _ c.requires).0

pub slice_bounds-read_pages-end-in-Ok : goal.slice_bounds-read_pages-end-in-Ok
slice_bounds-read_pages-end-in-Ok c =
    let a = c.args in
    let l = attached a.t.n a.t.chips a.ms.now a.ss.now in
    listed_room a.list.now l _ _ _ _ _ _ (search_well a.list.now l _ c.requires c.search_line-found.ensures)

pub slice_bounds-read_pages-end-in-Ok-2 : goal.slice_bounds-read_pages-end-in-Ok-2
slice_bounds-read_pages-end-in-Ok-2 c =
    let a = c.args in
    let l = attached a.t.n a.t.chips a.ms.now a.ss.now in
    sym (length-take-le _ _ (listed_room a.list.now l _ _ _ _ _ _ (search_well a.list.now l _ c.requires c.search_line-found.ensures)))

pub read_pages-read-requires : goal.read_pages-read-requires
read_pages-read-requires c =
    let a = c.args in
    let l = attached a.t.n a.t.chips a.ms.now a.ss.now in
    let e = search_well a.list.now l _ c.requires c.search_line-found.ensures in
    rw (length-take-le _ _ (listed_room a.list.now l _ _ _ _ _ _ e)) (listed_few a.list.now l _ _ _ _ _ _ e)

pub overflow_add-result : goal.overflow_add-result
overflow_add-result c =
    let a = c.args in
    let l = attached a.t.n a.t.chips a.ms.now a.ss.now in
    record { fits = omega (arith, resets_few a.list.now l _ _ _ _ _ _ (search_well a.list.now l _ c.requires c.search_line-found.ensures), c.read_pages-read.ensures.pages_value.1) }

pub overflow_add-result-in-Ok : goal.overflow_add-result-in-Ok
overflow_add-result-in-Ok c =
    let a = c.args in
    let l = attached a.t.n a.t.chips a.ms.now a.ss.now in
    record { fits = omega (arith, slots_few a.list.now l _ _ _ _ _ _ (search_well a.list.now l _ c.requires c.search_line-found.ensures), c.read_pages-read.ensures.pages_value.1) }

pub returns-in-Ok : goal.returns-in-Ok
returns-in-Ok c =
    let a = c.args in
    let l = attached a.t.n a.t.chips a.ms.now a.ss.now in
    let e = search_well a.list.now l _ c.requires c.search_line-found.ensures in
    round_reads_on a.list.now l _ _ _ _ _ _ e a.pages.now (borne_on l) _ _ _ c.read_pages-read.ensures.pages_after c.read_pages-read.ensures.pages_value.0 (ap searched c.in-Ok.is)

pub returns-in-Err : goal.returns-in-Err
returns-in-Err c =
    let a = c.args in
    let l = attached a.t.n a.t.chips a.ms.now a.ss.now in
    let e = search_well a.list.now l _ c.requires c.search_line-found.ensures in
    round_stops a.list.now l _ _ _ _ _ _ e a.pages.now (borne_on l) _ (ap searched c.in-Err.is)
