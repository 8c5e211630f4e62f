-- M-111, "The list after trouble", of the lent form. It is the plain form's theorem: the lent search is the plain search of its chips, and
-- its calls keep their number.
use Rattle.std.specs.Prelude.{ℕ, List, ◌∷◌, ◌≡◌, length}
use Rattle.line.specs.Layout.{Lent}
use Rattle.search.specs.Search.{search_of}
use Rattle.histories.specs.Below.{Codes}
use Rattle.line.specs.Attached.{Stands}
use Rattle.histories.specs.Calls.{Call, search_call}
use Rattle.listing.specs.Order.{SameMembers}
use Rattle.listing.proofs.AfterTrouble.{ListedAlike, SameSearch, same_codes_same_list}
use Rattle.listing.proofs.AfterCalls.{list_after_calls, second_list}
use Rattle.agreement.specs.Slice.{of_lent, codes_in, run_lent, run-lent, codes_lent}

-- M-111 of `lent::search_line`: after any calls of it and of `lent::take_event`, as before them
pub list_after_trouble_lent : (cs : List Call) (list : List ℕ) (x : Lent) → Stands (of_lent x) → Codes (codes_in x.chips)
    → SameSearch (search_of list (of_lent (run_lent cs x))) (search_of list (of_lent x))
list_after_trouble_lent cs list x s fits = rw (run-lent cs x) (list_after_calls cs list (of_lent x) s (rw (codes_lent x) fits))

-- and on two slices with the same codes
pub same_codes_same_list_lent : (list list' : List ℕ) (x y : Lent) → Stands (of_lent x) → Stands (of_lent y) → Codes (codes_in x.chips)
    → SameMembers (codes_in x.chips) (codes_in y.chips)
    → length list ≡ length list'
    → ListedAlike list list' (search_of list (of_lent x)) (search_of list' (of_lent y))
same_codes_same_list_lent list list' x y s t fits same long =
    same_codes_same_list list list' (of_lent x) (of_lent y) s t (rw (codes_lent x) fits) (rw (codes_lent x, codes_lent y) same) long

-- and a search, any calls, and a second search with as many places
pub second_list_lent : (first second : List ℕ) (cs : List Call) (x : Lent) → Stands (of_lent x) → Codes (codes_in x.chips)
    → length first ≡ length second
    → ListedAlike first second (search_of first (of_lent x)) (search_of second (of_lent (run_lent (search_call first ∷ cs) x)))
second_list_lent first second cs x s fits long = rw (run-lent (search_call first ∷ cs) x) (second_list first second cs (of_lent x) s (rw (codes_lent x) fits) long)
