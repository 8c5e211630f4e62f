-- Histories: events on a line of whole chips, one after the other, refused ones counted in.
use Rattle.std.specs.Prelude.{ℕ, List, [], ◌∷◌, map, get_or, Result}
use Rattle.line.specs.declared.Refusal.{Refusal}
use Rattle.chip.specs.Chip.{Whole, whole}
use Rattle.line.specs.Line.{after_plan}
use Rattle.chip.specs.With.{no_chip}
use Rattle.line.specs.Event.{Answered, plan_on, answer_plan}
use Rattle.line.specs.declared.Event.{Event}
use Rattle.line.specs.declared.Plan.{Plan}
use Rattle.search.specs.Host.{Wire}

-- what is at a place past the line
abbrev pub no_whole : Whole
no_whole = whole no_chip [] []

-- chip i of a line
abbrev pub at : ℕ → List Whole → Whole
at i L = get_or L i no_whole

-- the codes of a line, in table order
abbrev pub codes_of : List Whole → List ℕ
codes_of L = map (λ (w : Whole). w.chip.code) L

-- and their kinds
abbrev pub kinds_of : List Whole → List ℕ
kinds_of L = map (λ (w : Whole). w.chip.kind) L

-- a chip's code, its kind and its memory
pub record Stored : Type 0 where
  pub code : ℕ
  pub kind : ℕ
  pub memory : List ℕ

abbrev pub stored_in : Whole → Stored
stored_in w = record { code = w.chip.code; kind = w.chip.kind; memory = w.memory }

-- those of a line, in table order
abbrev pub stores_of : List Whole → List Stored
stores_of L = map stored_in L

-- what an event answers on a line that stands well, and the line that it leaves; a refused event leaves it as it was
unfoldable pub answer_of : Event → List Whole → Answered
answer_of e L = answer_plan (plan_on e L) L

unfoldable pub after_of : Event → List Whole → List Whole
after_of e L = after_plan (plan_on e L) L

-- the line after a history, and the answers of its events
abbrev pub run : List Event → List Whole → List Whole
run [] L = L
run (e ∷ es) L = run es (after_of e L)

abbrev pub answers : List Event → List Whole → List Answered
answers [] L = []
answers (e ∷ es) L = answer_of e L ∷ answers es (after_of e L)

-- what each event of a history comes to
abbrev pub came : List Event → List Whole → List (Result Plan Refusal)
came [] L = []
came (e ∷ es) L = plan_on e L ∷ came es (after_of e L)

-- a line of whole chips as something that answers events
abbrev pub line_wire : Wire
line_wire = record { L = List Whole; says = answer_of; does = after_of }
