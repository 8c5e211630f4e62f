-- Events alone, one after the other, each with what its contract permits it to tell: they are the history of document 01's events on the table.
use Rattle.std.specs.Prelude.{List, [], ◌∷◌, map, refl}
use Rattle.std.proofs.Common.{◌∙◌, ap}
use Rattle.line.specs.declared.Event.{Event}
use Rattle.line.specs.Attached.{Attached}
use Rattle.histories.specs.Joined.{run_on, answers_on}
use Rattle.calls.specs.Form.{Form, Meets}

-- these events, told these answers, from x to y
pub data Put (F : Form) : List Event → List F.Answer → F.Loan → F.Loan → Type 2 where
  no_more : {x : F.Loan} → Put F [] [] x x
  and_then : {e : Event} {es : List Event} {a : F.Answer} {told : List F.Answer} {x y z : F.Loan} → F.PermitsEvent e x a y → Put F es told y z → Put F (e ∷ es) (a ∷ told) x z

-- THEOREM: the answers are those of the history, and so is the table that is left
pub put_is : (F : Form) {es : List Event} {told : List F.Answer} {x y : F.Loan} → F.IsTable x → Put F es told x y
    → Meets told (map F.answer (answers_on es (F.table x))) (F.table y) (run_on es (F.table x)) (F.IsTable y)
put_is F i no_more = record { tells = refl; leaves = refl; is-table = i }
put_is F i (and_then {e = e} {es = es} {a = a} {x = x} {y = y} p r) =
    let m = F.event_is e x a y i p in
    let n = put_is F m.is-table r in
    record {
      tells = λ j. m.tells j ∷ (n.tells ∙ ap (λ (l : Attached). map F.answer (answers_on es l)) m.leaves) j;
      leaves = n.leaves ∙ ap (run_on es) m.leaves;
      is-table = n.is-table;
    }
