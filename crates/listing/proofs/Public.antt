-- Demand 2, "the search lists each code once, in branch order": of the public search, over a table, its buffers and a lent list.
use Rattle.std.specs.Prelude.{ℕ, max, ◌*◌, ◌≤◌, List, ◌++◌, ◌≡◌, leb, length, take, drop}
use Rattle.std.proofs.Common.{arith, ◌∙◌, ap}
use Rattle.base.specs.Pick.{pick}
use Rattle.line.specs.Refusals.{in_range_few}
use Rattle.search.specs.Host.{Listed, play, search_host}
use Rattle.line.specs.Attached.{Attached, Stands, line_from}
use Rattle.search.specs.Search.{Search, complete, refused, search_of}
use Rattle.histories.specs.Below.{Codes}
use Rattle.histories.specs.Histories.{line_wire, codes_of}
use Rattle.line.proofs.Standing.{line_length}
use Rattle.histories.specs.Joined.{search_joined}
use Rattle.listing.specs.Order.{branch_order}
use Rattle.listing.proofs.Listing.{listing_of_16}

-- the codes of a table's line, in branch order
abbrev pub order_of : Attached → List ℕ
order_of l = branch_order 64 0 (codes_of (line_from l))

-- what a search on a table that stands well answers, lists and counts, by the codes and the places alone
pub record Found (places : List ℕ) (l : Attached) (s : Search) : Type 0 where
  pub answer : s.answer ≡ pick (leb (length (order_of l)) (length places)) complete (refused 4)
  pub number : s.number ≡ length (take (length places) (order_of l))
  pub list : s.list ≡ take (length places) (order_of l) ++ drop (length (take (length places) (order_of l))) places
  pub resets : s.resets ≡ max 1 (length (take (length places) (order_of l)))
  pub slots : s.slots ≡ 200 * length (take (length places) (order_of l))

pub search_finds : (list : List ℕ) (l : Attached) → Stands l → Codes (codes_of (line_from l)) → Found list l (search_of list l)
search_finds list l s c =
    let p = play line_wire (search_host (length list)) (line_from l) in
    let few : length (line_from l) ≤ 16 = let k = in_range_few l.count l.lent.chips s.range in let n = line_length l s in omega arith in
    let found = listing_of_16 (length list) (line_from l) few c in
    let j = search_joined list l s in
    record {
      answer = ap (λ (x : Search). x.answer) j ∙ ap (λ (x : Listed). pick x.complete complete (refused 4)) found.result;
      number = ap (λ (x : Search). x.number) j ∙ ap (λ (x : Listed). length x.codes) found.result;
      list = ap (λ (x : Search). x.list) j ∙ ap (λ (x : Listed). x.codes ++ drop (length x.codes) list) found.result;
      resets = ap (λ (x : Search). x.resets) j ∙ found.resets;
      slots = ap (λ (x : Search). x.slots) j ∙ found.slots;
    }
