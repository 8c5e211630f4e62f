-- One host on a table with its buffers, and on the line of whole chips: what it comes to is the same.
use Rattle.std.specs.Prelude.{ℕ, List, [], ◌∷◌, ◌≡◌, refl, length, Result}
use Rattle.line.specs.declared.Refusal.{Refusal}
use Rattle.std.proofs.Common.{◌∙◌, ap, sym}
use Rattle.chip.specs.Chip.{Whole}
use Rattle.line.specs.Event.{Answered}
use Rattle.line.specs.declared.Event.{Event}
use Rattle.search.specs.Host.{Host, done, ask, Played, played, more, resets_of, slots_of, play, search_host}
use Rattle.line.specs.Refusals.{well_judged}
use Rattle.line.specs.Attached.{Attached, says_of, leaves_of, Stands, line_from, with_line}
use Rattle.search.specs.Search.{wire, from_played, search_by, search_of}
use Rattle.histories.specs.Histories.{answer_of, after_of, run, answers, line_wire}
use Rattle.line.proofs.Standing.{line_length, put_back, again}
use Rattle.histories.specs.Standing.{says_is, leaves_is, stands_after, line_after, after_length}

-- what was played on the line of a table, with that line put back
abbrev pub in_table : {A : Type 0} → Attached → Played A (List Whole) → Played A Attached
in_table l p = played p.result (with_line l p.line) p.resets p.slots

pub play_joined : {A : Type 0} (h : Host A) (l : Attached) → Stands l → play wire h l ≡ in_table l (play line_wire h (line_from l))
unfolding play
play_joined (done a) l s = ap (λ (k : Attached). played a k 0 0) (sym (put_back l s))
play_joined (ask e f) l s =
    let L = line_from l in
    let p = play line_wire (f (answer_of e L)) (after_of e L) in
    ap (more (resets_of e) (slots_of e))
    (ap (λ (x : Answered). play wire (f x) (leaves_of e l)) (says_is l s e)
    ∙ play_joined (f (answer_of e L)) (leaves_of e l) (stands_after l e s)
    ∙ ap (λ (K : List Whole). in_table (leaves_of e l) (play line_wire (f (answer_of e L)) K)) (line_after l e s)
    ∙ ap (λ (k : Attached). in_table k p) (leaves_is l s e)
    ∙ ap (λ (k : Attached). played p.result k p.resets p.slots) (again l (after_of e L) p.line (after_length e L ∙ line_length l s)))

-- the public search, on a table that stands well, is the search of its line of whole chips
pub search_joined : (list : List ℕ) (l : Attached) → Stands l
    → search_of list l ≡ from_played list (in_table l (play line_wire (search_host (length list)) (line_from l)))
unfolding search_of
search_joined list l s =
    ap (λ (v : Result (Unit {0}) Refusal). search_by v list l) (well_judged l.count l.lent.chips l.lent.images l.lent.pads s.range s.sizes)
    ∙ ap (from_played list) (play_joined (search_host (length list)) l s)

-- a history of the public event on a table with its buffers: what it leaves, and what it answers
abbrev pub run_on : List Event → Attached → Attached
run_on [] l = l
run_on (e ∷ es) l = run_on es (leaves_of e l)

abbrev pub answers_on : List Event → Attached → List Answered
answers_on [] l = []
answers_on (e ∷ es) l = says_of e l ∷ answers_on es (leaves_of e l)

-- it leaves the table with the line that the history of the line leaves
pub run_left : (es : List Event) (l : Attached) → Stands l → run_on es l ≡ with_line l (run es (line_from l))
run_left [] l s = sym (put_back l s)
run_left (e ∷ es) l s =
    let M = run es (after_of e (line_from l)) in
    run_left es (leaves_of e l) (stands_after l e s)
    ∙ ap (λ (K : List Whole). with_line (leaves_of e l) (run es K)) (line_after l e s)
    ∙ ap (λ (k : Attached). with_line k M) (leaves_is l s e)
    ∙ again l (after_of e (line_from l)) M (after_length e (line_from l) ∙ line_length l s)

-- it is the history of the line of whole chips: so each theorem about lines speaks of tables, images and scratchpads
pub run_joined : (es : List Event) (l : Attached) → Stands l → line_from (run_on es l) ≡ run es (line_from l)
run_joined [] l s = refl
run_joined (e ∷ es) l s = run_joined es (leaves_of e l) (stands_after l e s) ∙ ap (run es) (line_after l e s)

pub answers_joined : (es : List Event) (l : Attached) → Stands l → answers_on es l ≡ answers es (line_from l)
answers_joined [] l s = refl
answers_joined (e ∷ es) l s =
    (λ j. says_is l s e j ∷ (answers_joined es (leaves_of e l) (stands_after l e s) ∙ ap (answers es) (line_after l e s)) j)

-- refusals 8 and 5 never come up in a history from a table that stands well
pub stands_on : (es : List Event) (l : Attached) → Stands l → Stands (run_on es l)
stands_on [] l s = s
stands_on (e ∷ es) l s = stands_on es (leaves_of e l) (stands_after l e s)
