-- Document 01, "Search", as theorems: on every line, whatever its chips were doing, the search lists the codes in branch order,
-- each once, cut to the places; and branch order is what it should be.
use Rattle.std.specs.Prelude.{ℕ, ◌≤◌, true, false, List, ◌≡◌, length}
use Rattle.std.proofs.Common.{arith, ◌∙◌, sym}
use Rattle.std.proofs.lemmas.List.{length-map}
use Rattle.chip.specs.Chip.{Whole}
use Rattle.line.specs.Layout.{capped}
use Rattle.line.specs.Line.{absent}
use Rattle.line.specs.Events.{reset_event}
use Rattle.search.specs.Host.{ask, play, write, begun, pass, search_host}
use Rattle.histories.specs.Below.{Codes}
use Rattle.histories.specs.Histories.{line_wire, codes_of}
use Rattle.listing.specs.Order.{branch_order, SameMembers, Before, Sorted, InBranchOrder, Lists, SameListing}
use Rattle.listing.specs.Branch.{order_length}
use Rattle.listing.specs.Sorted.{order_sorted, sorted_distinct, order_members, sorted_one}
use Rattle.listing.specs.Slots.{reset_played, command_played}
use Rattle.listing.specs.Line.{absent_codes}
use Rattle.listing.specs.Pass.{pass_opened}
use Rattle.listing.specs.Passes.{passes_list, capped_cut}

-- branch order --------------------------------------------------------------------------------

-- one list has the members of another that it is equal to
pub equal_members : (xs ys : List ℕ) → xs ≡ ys → SameMembers xs ys
equal_members xs ys e x = rw e ((λ i. i), (λ i. i))

-- branch order by 64 bits is sorted, has no code twice, and has the codes that the list has
pub branch-order : (xs : List ℕ) → Codes xs → InBranchOrder xs (branch_order 64 0 xs)
branch-order xs fits = record {
  sorted = order_sorted 64 0 xs;
  distinct = sorted_distinct 64 0 (branch_order 64 0 xs) (order_sorted 64 0 xs);
  members = order_members 64 xs fits;
}

-- it is no longer than the list
pub branch_order_length : (xs : List ℕ) → length (branch_order 64 0 xs) ≤ length xs
branch_order_length xs = order_length 64 0 xs

-- two sorted lists with the same members are equal
pub sorted_unique : (xs ys : List ℕ) → Sorted (Before 64 0) xs → Sorted (Before 64 0) ys → SameMembers xs ys → xs ≡ ys
sorted_unique xs ys s t m = sorted_one 64 0 xs ys s t m

-- so the codes of a list in branch order are no other list, and how they stood in the list and how often does not matter
pub branch_order_unique : (xs ys zs : List ℕ) → InBranchOrder xs zs → Codes ys → SameMembers xs ys → zs ≡ branch_order 64 0 ys
branch_order_unique xs ys zs o fits m =
    let b = branch-order ys fits in
    sorted_unique zs (branch_order 64 0 ys) o.sorted b.sorted
    (λ x. ((λ i. (b.members x).1 ((m x).0 ((o.members x).0 i))), (λ i. (o.members x).1 ((m x).1 ((b.members x).0 i)))))

-- the search ------------------------------------------------------------------------------------

-- Demand 2. On every line, whatever state its chips are in, and with every number of places: the search lists the line's codes
-- in branch order, as many as there are places for; it says whether these are all; it puts one reset on the line for each code
-- listed, and one if none is, and 200 slots for each; and the chips keep their codes, kinds and memories. No more than 16 places are used.
pub listing : (places : ℕ) (L : List Whole) → Codes (codes_of L)
    → Lists (branch_order 64 0 (codes_of L)) (capped places) L (play line_wire (search_host places) L)
listing places L fits = passes_list (capped places) L fits

-- On a line of at most 16 chips the cap does not show: the list is cut to the places that there are.
pub listing_of_16 : (places : ℕ) (L : List Whole) → length L ≤ 16 → Codes (codes_of L)
    → Lists (branch_order 64 0 (codes_of L)) places L (play line_wire (search_host places) L)
listing_of_16 places L few fits =
    let r = listing places L fits in
    let short : length (branch_order 64 0 (codes_of L)) ≤ 16 = omega (arith, branch_order_length (codes_of L), length-map L (λ (w : Whole). w.chip.code)) in
    let c = capped_cut places (branch_order 64 0 (codes_of L)) short in
    record {
      result = rw (← c.0, ← c.1) r.result;
      resets = rw (← c.0) r.resets;
      slots = rw (← c.0) r.slots;
      codes = r.codes;
      stores = r.stores;
    }

-- "A pass is given up as soon as no chip answers, which never comes here after presence": on a line with a chip, after a reset
-- and F0h, a pass is whole, whatever it takes where the codes part.
pub never_given_up : (want : ℕ) (L : List Whole) → absent L ≡ false → Codes (codes_of L)
    → (play line_wire (pass 64 (begun want)) (play line_wire (ask reset_event λ x. write 8 0 0xF0) L).line).result.whole ≡ true
never_given_up want L there fits =
    let p = pass_opened want L (sym (absent_codes L) ∙ there) fits in
    rw (reset_played (λ x. write 8 0 0xF0) L, command_played L, p.played)

-- The list, the word on it and the counts depend on the places and on which codes the line has, and on nothing else.
pub by_members : (places : ℕ) (L K : List Whole) → SameMembers (codes_of L) (codes_of K) → Codes (codes_of L)
    → SameListing (play line_wire (search_host places) L) (play line_wire (search_host places) K)
by_members places L K m fits =
    let fits' : Codes (codes_of K) = λ x i. fits x ((m x).1 i) in
    let e : branch_order 64 0 (codes_of L) ≡ branch_order 64 0 (codes_of K) = branch_order_unique (codes_of L) (codes_of K) (branch_order 64 0 (codes_of L)) (branch-order (codes_of L) fits) fits' m in
    let r = listing places L fits in
    let s = listing places K fits' in
    record {
      result = r.result ∙ rw e (sym s.result);
      resets = r.resets ∙ rw e (sym s.resets);
      slots = r.slots ∙ rw e (sym s.slots);
    }

-- So lines with the same codes come to the same, whatever else differs.
pub by_codes : (places : ℕ) (L K : List Whole) → codes_of L ≡ codes_of K → Codes (codes_of L)
    → SameListing (play line_wire (search_host places) L) (play line_wire (search_host places) K)
by_codes places L K e fits = by_members places L K (equal_members (codes_of L) (codes_of K) e) fits
