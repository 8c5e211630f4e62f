-- Demand 2, "the line shows the wired AND": of an event after any calls. An event is what its number says, whatever its other
-- fields hold.
use Rattle.std.specs.Prelude.{ℕ, ◌<◌, Bool, true, List, ◌≡◌}
use Rattle.std.proofs.Common.{◌∙◌, ap}
use Rattle.chip.specs.Chip.{takes_of}
use Rattle.line.specs.Event.{Answered, bit, refused}
use Rattle.line.specs.declared.Event.{Event}
use Rattle.line.specs.Attached.{Attached, says_of, leaves_of, line_from}
use Rattle.histories.specs.Histories.{at}
use Rattle.wired.specs.Wired.{AllSendOne}
use Rattle.wired.specs.Public.{Writes, Shows, slot_shows_and, reset_shows_presence, power_on_answers_1, outside_answers_1, chips_take_the_bus}
use Rattle.calls.specs.Form.{Form, Meets, CallTold, Ran, Well, stands_on}

-- what a slot of the host's bit b told: 1 exactly if that bit and the bit of every chip is 1, else 0; and every chip took the bit that was told
pub record SlotTold (F : Form) (b : Bool) (y z : F.Loan) (a : F.Answer) : Type 0 where
  pub answer : Answered
  pub told : a ≡ F.answer answer
  pub shows_and : Shows ((b ≡ true) × AllSendOne (line_from (F.table y))) ((b ≡ true) × AllSendOne (line_from (F.table y)) → ⊥) answer
  pub chips_take : (v : Bool) → answer ≡ bit v → (i : ℕ) → i < (F.table y).count → at i (line_from (F.table z)) ≡ takes_of v (at i (line_from (F.table y)))

-- what a reset told: 0 exactly if a chip is there, else 1
pub record ResetTold (F : Form) (y : F.Loan) (a : F.Answer) : Type 0 where
  pub answer : Answered
  pub told : a ≡ F.answer answer
  pub shows_presence : Shows ((F.table y).count ≡ 0) (0 < (F.table y).count) answer

-- an event, after any calls from a table that neither 8 nor 5 refuses, that was told a
abbrev pub After : (F : Form) → (Event → F.Loan → F.Answer → F.Loan → Type 0) → Type 2
After F P = (cs : List (CallTold F)) (x y z : F.Loan) → Well F x → Ran F cs x y → (e : Event) (a : F.Answer) → F.PermitsEvent e y a z → P e y a z

-- a slot shows the AND, and every chip takes it
abbrev pub SlotsShowAnd : Form → Type 2
SlotsShowAnd F = After F (λ e y a z. (b : Bool) → Writes b e → SlotTold F b y z a)

-- a reset shows whether a chip is there
abbrev pub ResetsShowPresence : Form → Type 2
ResetsShowPresence F = After F (λ e y a z. e.number ≡ 2 → ResetTold F y a)

-- "Events 3 and 4 answer 1.", outside levels where they are not refused
abbrev pub OthersAnswer1 : Form → Type 2
OthersAnswer1 F = After F (λ e y a z. (e.number ≡ 3 → a ≡ F.answer (bit true)) × (e.number ≡ 4 → (a ≡ F.answer (refused 7) → ⊥) → a ≡ F.answer (bit true)))

module _ (F : Form) {cs : List (CallTold F)} {x y z : F.Loan} (w : Well F x) (r : Ran F cs x y) (e : Event) {a : F.Answer} (p : F.PermitsEvent e y a z) where
  -- the table that the event finds stands well, and the event is what document 01 says of it
  here : Well F y
  here = stands_on F cs x y w r

  meets : Meets a (F.answer (says_of e (F.table y))) (F.table z) (leaves_of e (F.table y)) (F.IsTable z)
  meets = F.event_is e y a z here.is-table p

  slot_by : (b : Bool) → Writes b e → SlotTold F b y z a
  slot_by b h =
      record {
        answer = says_of e (F.table y);
        told = meets.tells;
        shows_and = slot_shows_and (F.table y) here.stands b e h;
        chips_take = λ v q i k. ap (λ (l : Attached). at i (line_from l)) meets.leaves ∙ chips_take_the_bus (F.table y) here.stands b e h v q i k;
      }

  reset_by : e.number ≡ 2 → ResetTold F y a
  reset_by h = record { answer = says_of e (F.table y); told = meets.tells; shows_presence = reset_shows_presence (F.table y) here.stands e h }

  power_on_by : e.number ≡ 3 → a ≡ F.answer (bit true)
  power_on_by h = meets.tells ∙ ap F.answer (power_on_answers_1 (F.table y) here.stands e h)

  outside_by : e.number ≡ 4 → (a ≡ F.answer (refused 7) → ⊥) → a ≡ F.answer (bit true)
  outside_by h n = meets.tells ∙ ap F.answer (outside_answers_1 (F.table y) here.stands e h (λ q. n (meets.tells ∙ ap F.answer q)))

-- THEOREMS, in each form
pub slots_show_and : (F : Form) → SlotsShowAnd F
slots_show_and F cs x y z w r e a p = slot_by F w r e p

pub resets_show_presence : (F : Form) → ResetsShowPresence F
resets_show_presence F cs x y z w r e a p = reset_by F w r e p

pub others_answer_1 : (F : Form) → OthersAnswer1 F
others_answer_1 F cs x y z w r e a p = (power_on_by F w r e p, outside_by F w r e p)
