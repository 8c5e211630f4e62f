-- The request M-108: the round over a table, its buffers, a lent list and a lent page buffer, for every input.
use Rattle.std.specs.Prelude.{ℕ, List, [], ◌∷◌, ◌++◌, eqb, length, take, Result, Ok, Err}
use Rattle.line.specs.declared.Refusal.{Refusal}
use Rattle.std.proofs.lemmas.List.Edits.{sets}
use Rattle.line.specs.Attached.{Attached}
use Rattle.line.specs.Event.{Test, test, judge, table_tests, table_in_range, sizes_fit, number_of}
use Rattle.line.specs.declared.Refusal.TheVariants.{WrongSize}
use Rattle.search.specs.Host.{Played, played, play}
use Rattle.search.specs.Search.{refused, wire, Search, outcome, from_played}
use Rattle.rounds.specs.Borne.{borne_in, pages_asked}
use Rattle.rounds.specs.Host.{Rounded, round_host}

-- what a round answers, lists and counts, with the line that it leaves, in the search's own form; and the page buffer
pub record Round : Type 0 where
  pub found : Search
  pub pages : List ℕ

abbrev pub round : Search → List ℕ → Round
round s pages = record { found = s; pages = pages }

-- the codes that the DS28EC20s of a table bear
abbrev pub borne_on : Attached → List ℕ
borne_on l = borne_in (take l.count l.lent.chips)

-- "Refusals: 8; 5 for images or scratchpads; 5 for a page buffer not of 32 m bytes, m being that of the whole table"
abbrev pub round_tests : List ℕ → Attached → List Test
round_tests pages l =
    table_tests (table_in_range l.count l.lent.chips) (sizes_fit l.count l.lent.chips l.lent.images l.lent.pads)
    ++ (test (eqb (length pages) (pages_asked l.count l.lent.chips)) WrongSize ∷ [])

unfoldable pub round_verdict : List ℕ → Attached → Result (Unit {0}) Refusal
round_verdict pages l = judge (round_tests pages l)

-- a round whose events were all put on the line: the list, the answer and the refusal 4 as of the search, the counts of all events, and the
-- bytes that were read in the first places of the page buffer
abbrev pub from_round : List ℕ → List ℕ → Played Rounded Attached → Round
from_round list pages p =
    round (from_played list (played p.result.listed p.line p.resets p.slots)) (sets pages 0 p.result.bytes)

-- "these without an event, counts 0, list and pages as found. Then 4": by what the table is judged to
abbrev pub round_by : Result (Unit {0}) Refusal → List ℕ → List ℕ → Attached → Round
round_by (Ok tt) list pages l = from_round list pages (play wire (round_host (length list) (borne_on l)) l)
round_by (Err r) list pages l = round (outcome (refused (number_of r)) 0 list 0 0 l) pages

unfoldable pub round_of : List ℕ → List ℕ → Attached → Round
round_of list pages l = round_by (round_verdict pages l) list pages l
