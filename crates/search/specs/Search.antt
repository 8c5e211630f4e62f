-- Document 01, "Search" and "Refusal numbers": the search over a table, its buffers and a lent list, for every input.
use Rattle.std.specs.Prelude.{ℕ, Bool, List, ◌++◌, length, drop, Result, Ok, Err}
use Rattle.base.specs.Pick.{pick}
use Rattle.line.specs.Attached.{Attached, says_of, leaves_of, verdict_at}
use Rattle.line.specs.Event.{number_of}
use Rattle.line.specs.declared.Refusal.{Refusal}
use Rattle.search.specs.Host.{Wire, Played, played, End, end, Listed, play, search_host}
use Rattle.search.specs.declared.Fault.{Fault}
use Rattle.search.specs.declared.Fault.TheVariants.{TooFewPlaces, Refused}

-- what a search answers: that the list is complete, or document 01's refusal number
pub data Searched : Type 0 where
  complete : Searched
  refused : ℕ → Searched

abbrev pub fault_number : Fault → ℕ
fault_number TooFewPlaces = 4
fault_number (Refused r) = number_of r

abbrev pub searched : Result (Unit {0}) Fault → Searched
searched (Ok x) = complete
searched (Err f) = refused (fault_number f)

-- the same as one number: 0 where the list is complete, else the refusal's
abbrev pub number_in : Searched → ℕ
number_in complete = 0
number_in (refused n) = n

-- the line's own events as a wire
abbrev pub wire : Wire
wire = record { L = Attached; says = says_of; does = leaves_of }

-- a pass, and a byte written, with the line that is left and the slots that were put on it
abbrev pub played_pass : Attached → ℕ → ℕ → Bool → ℕ → Played End Attached
played_pass l path last whole s = played (end path last whole) l 0 s

abbrev pub played_write : Attached → ℕ → Played (Unit {0}) Attached
played_write l n = played tt l 0 n

-- what a search answers, its list, its counts, and the line that it leaves
pub record Search : Type 0 where
  pub answer : Searched
  pub number : ℕ
  pub list : List ℕ
  pub resets : ℕ
  pub slots : ℕ
  pub line : Attached

abbrev pub outcome : Searched → ℕ → List ℕ → ℕ → ℕ → Attached → Search
outcome a n l r s k = record { answer = a; number = n; list = l; resets = r; slots = s; line = k }

-- a search whose events were all put on the line
abbrev pub complete_or4 : Bool → Searched
complete_or4 b = pick b complete (refused 4)

-- "4: the list has fewer places than distinct codes: list filled to its end, line as after those passes";
-- "Places past the codes listed stay as found."
abbrev pub from_played : List ℕ → Played Listed Attached → Search
from_played list p =
    outcome (complete_or4 p.result.complete) (length p.result.codes)
    (p.result.codes ++ drop (length p.result.codes) list) p.resets p.slots p.line

-- "Search: 8, 5 (both without an event, counts 0), then 4.": by what the table is judged to
abbrev pub search_by : Result (Unit {0}) Refusal → List ℕ → Attached → Search
search_by (Ok tt) list l = from_played list (play wire (search_host (length list)) l)
search_by (Err r) list l = outcome (refused (number_of r)) 0 list 0 0 l

unfoldable pub search_of : List ℕ → Attached → Search
search_of list l = search_by (verdict_at l) list l
