-- Demand 2, "the search lists each code once, in branch order", and M-111, "The list after trouble": of calls.
use Rattle.std.specs.Prelude.{ℕ, List, ◌≡◌, length}
use Rattle.std.proofs.Common.{◌∙◌, ap, sym}
use Rattle.search.specs.Host.{search_host}
use Rattle.line.specs.Attached.{Attached, line_from}
use Rattle.search.specs.Search.{Search, search_of}
use Rattle.histories.specs.Below.{Codes}
use Rattle.histories.specs.Histories.{codes_of}
use Rattle.histories.specs.Calls.{events_of}
use Rattle.histories.specs.SearchEvents.{RunOfEvents, search_is_run}
use Rattle.histories.specs.Kept.{calls_codes}
use Rattle.listing.specs.Order.{branch_order}
use Rattle.listing.proofs.Public.{order_of, Found, search_finds}
use Rattle.calls.specs.Form.{Form, CallTold, calls_of, Ran, Well, ran_leaves, stands_on}

-- a search that told a and left z of y found what the codes of a table l and the places give, by a run of resets and slots on y
pub record Lists (F : Form) (places : List ℕ) (l : Attached) (a : F.Listing) (y z : F.Loan) : Type 0 where
  pub search : Search
  pub tells : a ≡ F.listing search
  pub found : Found places l search
  pub leaves : F.table z ≡ search.line
  pub run : RunOfEvents search (events_of (search_host (length places)) (F.table y)) (F.table y)

-- after any calls a search tells what the codes on the table before those calls and the places give, under refusal 4 too, and leaves the line as its
-- resets and slots do
abbrev pub ListsCodes : Form → Type 2
ListsCodes F = (cs : List (CallTold F)) (x y z : F.Loan) (list : List ℕ) (a : F.Listing)
    → Well F x → Codes (codes_of (line_from (F.table x)))
    → Ran F cs x y → F.PermitsSearch list y a z
    → Lists F list (F.table x) a y z

-- THEOREM, in each form
pub lists_codes : (F : Form) → ListsCodes F
lists_codes F cs x y z list a w c r p =
    let k = ran_leaves F w.is-table r in
    let same : codes_of (line_from (F.table y)) ≡ codes_of (line_from (F.table x)) = ap (λ (l : Attached). codes_of (line_from l)) k.table ∙ calls_codes (calls_of cs) (F.table x) w.stands in
    let order : order_of (F.table y) ≡ order_of (F.table x) = ap (branch_order 64 0) same in
    let m = F.search_is list y a z k.is-table p in
    let f = search_finds list (F.table y) (stands_on F cs x y w r).stands (rw same c) in
    record {
      search = search_of list (F.table y);
      tells = m.tells;
      leaves = m.leaves;
      run = search_is_run list (F.table y) (stands_on F cs x y w r).stands;
      found = record {
        answer = rw (sym order) f.answer;
        number = rw (sym order) f.number;
        list = rw (sym order) f.list;
        resets = rw (sym order) f.resets;
        slots = rw (sym order) f.slots;
      };
    }
