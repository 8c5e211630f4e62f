-- Calls by contract: a caller asks events, searches and runs of slots of what it lends, one after the other, each with an outcome that the contract of the
-- function called permits, the next on what the last left. A table is lent in one of three forms (Plain, Slice, InC), and what is said
-- here holds of each.
use Rattle.std.specs.Prelude.{ℕ, List, [], ◌∷◌, ◌≡◌, refl}
use Rattle.std.proofs.Common.{◌∙◌, ap}
use Rattle.line.specs.Event.{Answered}
use Rattle.line.specs.Slots.{RunOutcome}
use Rattle.line.specs.declared.Event.{Event}
use Rattle.line.specs.Attached.{Attached, says_of, leaves_of, Stands}
use Rattle.search.specs.Search.{Search, search_of}
use Rattle.histories.specs.Slots.{slots_on, left_by_run}
use Rattle.histories.specs.Calls.{Call, event_call, search_call, slots_call, leaves_call, calls_on, stands_calls}

-- what a call told and left is what was to be told and left, and what it left is a table
pub record Meets {A : Type 0} (told due : A) (left owed : Attached) (IsTable : Type 0) : Type 0 where
  pub tells : told ≡ due
  pub leaves : left ≡ owed
  pub is-table : IsTable

-- a form in which a table is lent
pub record Form : Type 3 where
  -- what is lent: a table with its buffers
  pub Loan : Type 0
  -- it is a table, and which one
  pub IsTable : Loan → Type 0
  pub table : Loan → Attached
  -- what an event tells its caller, by what it answers
  pub Answer : Type 0
  pub answer : Answered → Answer
  -- what a search tells its caller beside the line: answer, number, list and counts
  pub Listing : Type 0
  pub listing : Search → Listing
  -- what a run of slots tells its caller beside the line: its answer, and the bytes of answers
  pub Slots : Type 0
  pub slots : RunOutcome → Slots
  -- the contract permits that an event, a search with a list, and a run of so many slots with the host's bits and a place for the answers tells
  -- this and leaves that
  pub PermitsEvent : Event → Loan → Answer → Loan → Type 2
  pub PermitsSearch : List ℕ → Loan → Listing → Loan → Type 2
  pub PermitsSlots : ℕ → List ℕ → List ℕ → Loan → Slots → Loan → Type 2
  -- what it permits is what document 01 says of the table
  pub event_is : (e : Event) (x : Loan) (a : Answer) (y : Loan) → IsTable x → PermitsEvent e x a y
      → Meets a (answer (says_of e (table x))) (table y) (leaves_of e (table x)) (IsTable y)
  pub search_is : (list : List ℕ) (x : Loan) (a : Listing) (y : Loan) → IsTable x → PermitsSearch list x a y
      → Meets a (listing (search_of list (table x))) (table y) (search_of list (table x)).line (IsTable y)
  pub slots_is : (n : ℕ) (bits out : List ℕ) (x : Loan) (a : Slots) (y : Loan) → IsTable x → PermitsSlots n bits out x a y
      → Meets a (slots (slots_on n bits out (table x))) (table y) (left_by_run (slots_on n bits out (table x))) (IsTable y)

-- a call, with what it told
pub data CallTold (F : Form) : Type 0 where
  event_told : Event → F.Answer → CallTold F
  search_told : List ℕ → F.Listing → CallTold F
  slots_told : ℕ → List ℕ → List ℕ → F.Slots → CallTold F

-- the contract of the function called permits that it leaves y of x
abbrev pub Permits : (F : Form) → CallTold F → F.Loan → F.Loan → Type 2
Permits F (event_told e a) x y = F.PermitsEvent e x a y
Permits F (search_told list a) x y = F.PermitsSearch list x a y
Permits F (slots_told n bits out a) x y = F.PermitsSlots n bits out x a y

-- calls one after the other, from x to y
pub data Ran (F : Form) : List (CallTold F) → F.Loan → F.Loan → Type 2 where
  no_more : {x : F.Loan} → Ran F [] x x
  and_then : {c : CallTold F} {cs : List (CallTold F)} {x y z : F.Loan} → Permits F c x y → Ran F cs y z → Ran F (c ∷ cs) x z

-- the call alone
abbrev pub call_of : {F : Form} → CallTold F → Call
call_of (event_told e a) = event_call e
call_of (search_told list a) = search_call list
call_of (slots_told n bits out a) = slots_call n bits out

abbrev pub calls_of : {F : Form} → List (CallTold F) → List Call
calls_of [] = []
calls_of (c ∷ cs) = call_of c ∷ calls_of cs

-- a table that neither 8 nor 5 refuses
pub record Well (F : Form) (x : F.Loan) : Type 0 where
  pub is-table : F.IsTable x
  pub stands : Stands (F.table x)

module _ (F : Form) where
  -- what is left is a table, the one that the definition leaves
  pub record Leaves (y : F.Loan) (owed : Attached) : Type 0 where
    pub table : F.table y ≡ owed
    pub is-table : F.IsTable y

  -- by one call
  permits_leaves : (c : CallTold F) {x y : F.Loan} → F.IsTable x → Permits F c x y → Leaves y (leaves_call (call_of c) (F.table x))
  permits_leaves (event_told e a) {x} {y} i p = let m = F.event_is e x a y i p in record { table = m.leaves; is-table = m.is-table }
  permits_leaves (search_told list a) {x} {y} i p = let m = F.search_is list x a y i p in record { table = m.leaves; is-table = m.is-table }
  permits_leaves (slots_told n bits out a) {x} {y} i p = let m = F.slots_is n bits out x a y i p in record { table = m.leaves; is-table = m.is-table }

  -- by calls one after the other
  pub ran_leaves : {cs : List (CallTold F)} {x y : F.Loan} → F.IsTable x → Ran F cs x y → Leaves y (calls_on (calls_of cs) (F.table x))
  ran_leaves i no_more = record { table = refl; is-table = i }
  ran_leaves i (and_then {c = c} {cs = cs} p r) =
      let q = permits_leaves c i p in
      let n = ran_leaves q.is-table r in
      record { table = n.table ∙ ap (calls_on (calls_of cs)) q.table; is-table = n.is-table }

-- a table that neither 8 nor 5 refuses is refused by neither after any calls
abbrev pub StandsOn : Form → Type 2
StandsOn F = (cs : List (CallTold F)) (x y : F.Loan) → Well F x → Ran F cs x y → Well F y

-- THEOREM, in each form
pub stands_on : (F : Form) → StandsOn F
stands_on F cs x y w r =
    let n = ran_leaves F w.is-table r in
    record { is-table = n.is-table; stands = rw n.table (stands_calls (calls_of cs) (F.table x) w.stands) }
