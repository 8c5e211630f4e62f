-- Document 02, M-111, "The list after trouble": a search after any events, and after any calls.
use Rattle.std.specs.Prelude.{ℕ, List, ◌∷◌, ◌≡◌, refl, length}
use Rattle.std.proofs.Common.{sym}
use Rattle.line.specs.declared.Event.{Event}
use Rattle.line.specs.Attached.{Attached, Stands, line_from}
use Rattle.search.specs.Search.{search_of}
use Rattle.histories.specs.Below.{Codes}
use Rattle.histories.specs.Histories.{codes_of}
use Rattle.histories.specs.Joined.{run_on, stands_on}
use Rattle.histories.specs.Calls.{Call, search_call, calls_on, events_of_calls, calls_run, stands_calls}
use Rattle.histories.specs.Kept.{run_on_codes, calls_codes}
use Rattle.listing.proofs.Listing.{equal_members}
use Rattle.listing.proofs.AfterTrouble.{ListedAlike, SameSearch, same_codes_same_list, one_list}

-- M-111. A table with its buffers that is refused by neither 8 nor 5; then any events, refused ones counted in; then a search. It
-- answers, lists and counts what it would have on the table before.
pub list_after_trouble : (es : List Event) (list : List ℕ) (l : Attached) → Stands l → Codes (codes_of (line_from l))
    → SameSearch (search_of list (run_on es l)) (search_of list l)
list_after_trouble es list l s fits =
    let e = run_on_codes es l s in
    one_list list (search_of list (run_on es l)) (search_of list l)
    (same_codes_same_list list list (run_on es l) l (stands_on es l s) s (rw e fits) (equal_members _ _ e) refl)

-- Earlier searches are such events: the same after any calls, events, searches and runs of slots. A search that was broken off is no call of its own: it
-- is events alone.
pub list_after_calls : (cs : List Call) (list : List ℕ) (l : Attached) → Stands l → Codes (codes_of (line_from l))
    → SameSearch (search_of list (calls_on cs l)) (search_of list l)
list_after_calls cs list l s fits = rw (calls_run cs l s) (list_after_trouble (events_of_calls cs l) list l s fits)

-- What a technician does: a search, any calls, a second search into a list of as many places, which may be the one that the first has
-- filled. The two lists have the same codes.
pub second_list : (first second : List ℕ) (cs : List Call) (l : Attached) → Stands l → Codes (codes_of (line_from l))
    → length first ≡ length second
    → ListedAlike first second (search_of first l) (search_of second (calls_on cs (search_of first l).line))
second_list first second cs l s fits long =
    let k = calls_on (search_call first ∷ cs) l in
    same_codes_same_list first second l k s (stands_calls (search_call first ∷ cs) l s) fits (equal_members _ _ (sym (calls_codes (search_call first ∷ cs) l s))) long
