-- Document 02, M-111, "The list after trouble": "the search's list and count depend only on the set of codes attached and the places
-- given: not on memory, latches, RC, scratchpads or any events before, where neither 8 nor 5 is given." Of the public search, over a
-- table, its buffers and a lent list. Refusal 4 is inside: whether it is given, and what is listed under it. Nothing is said of the line
-- that a search leaves. `Stands` is that neither 8 nor 5 is given; `Codes` that the codes have 64 bits, as every `u64` has.
use Rattle.std.specs.Prelude.{ℕ, ◌≤◌, List, ◌++◌, ◌≡◌, length, drop}
use Rattle.std.proofs.Common.{arith, ◌∙◌, ap, sym, length-take}
use Rattle.search.specs.Host.{Listed, play, search_host}
use Rattle.line.specs.Attached.{Attached, Stands, line_from}
use Rattle.search.specs.Search.{Search, complete_or4, search_of}
use Rattle.histories.specs.Below.{Codes}
use Rattle.histories.specs.Histories.{line_wire, codes_of}
use Rattle.histories.specs.Joined.{search_joined}
use Rattle.listing.specs.Order.{SameMembers, SameListing}
use Rattle.listing.proofs.Listing.{by_members}
use Rattle.listing.proofs.Public.{order_of, search_finds}

-- what two searches come to, each with its own list: the same answer, the same codes in the first places of both lists, as many as
-- both say, and the same counts of resets and of slots; past the codes each list is as it was found
pub record ListedAlike (list list' : List ℕ) (s t : Search) : Type 0 where
  pub codes : List ℕ
  pub places : length codes ≤ length list
  pub answer : s.answer ≡ t.answer
  pub number : (s.number ≡ length codes) × (t.number ≡ length codes)
  pub listed : (s.list ≡ codes ++ drop (length codes) list) × (t.list ≡ codes ++ drop (length codes) list')
  pub resets : s.resets ≡ t.resets
  pub slots : s.slots ≡ t.slots

-- what two searches with one list come to: all of it is the same, but for the line that they leave
pub record SameSearch (s t : Search) : Type 0 where
  pub answer : s.answer ≡ t.answer
  pub number : s.number ≡ t.number
  pub list : s.list ≡ t.list
  pub resets : s.resets ≡ t.resets
  pub slots : s.slots ≡ t.slots

-- M-111. Two tables with their buffers, each refused by neither 8 nor 5, that have the same codes, in whatever order and however
-- often, on chips of whatever kinds in whatever state; and two lists of one length, whatever stands in them. The two searches answer,
-- list and count alike.
pub same_codes_same_list : (list list' : List ℕ) (l k : Attached) → Stands l → Stands k → Codes (codes_of (line_from l))
    → SameMembers (codes_of (line_from l)) (codes_of (line_from k))
    → length list ≡ length list'
    → ListedAlike list list' (search_of list l) (search_of list' k)
same_codes_same_list list list' l k s t fits same long =
    let p = play line_wire (search_host (length list)) (line_from l) in
    let q = play line_wire (search_host (length list')) (line_from k) in
    -- both premises by a tactic, so that a weaker one leaves the goal that it no longer proves
    let same_codes : SameMembers (codes_of (line_from l)) (codes_of (line_from k)) = search same in
    let as_long : length list ≡ length list' = omega arith in
    let c : SameListing p q = rw (← as_long) (by_members (length list) (line_from l) (line_from k) same_codes fits) in
    let i = search_joined list l s in
    let j = search_joined list' k t in
    let number : (search_of list l).number ≡ length p.result.codes = ap (λ (x : Search). x.number) i in
    record {
      codes = p.result.codes;
      places = omega (arith, number, (search_finds list l s fits).number, length-take (length list) (order_of l));
      answer = ap (λ (x : Search). x.answer) i ∙ ap (λ (x : Listed). complete_or4 x.complete) c.result ∙ sym (ap (λ (x : Search). x.answer) j);
      number = (number, ap (λ (x : Search). x.number) j ∙ ap (λ (x : Listed). length x.codes) (sym c.result));
      listed = (ap (λ (x : Search). x.list) i, ap (λ (x : Search). x.list) j ∙ ap (λ (x : Listed). x.codes ++ drop (length x.codes) list') (sym c.result));
      resets = ap (λ (x : Search). x.resets) i ∙ c.resets ∙ sym (ap (λ (x : Search). x.resets) j);
      slots = ap (λ (x : Search). x.slots) i ∙ c.slots ∙ sym (ap (λ (x : Search). x.slots) j);
    }

-- with one list the lists that are left are equal
pub one_list : (list : List ℕ) (s t : Search) → ListedAlike list list s t → SameSearch s t
one_list list s t c = record {
  answer = c.answer;
  number = c.number.0 ∙ sym c.number.1;
  list = c.listed.0 ∙ sym c.listed.1;
  resets = c.resets;
  slots = c.slots;
}
