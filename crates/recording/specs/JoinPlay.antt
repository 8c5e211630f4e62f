-- Laws: runs of slots that are joined into one play as the records that they stand in.
use Rattle.std.specs.Prelude.{ℕ, suc, ◌+◌, ◌-◌, ◌≤◌, Bool, true, List, [], ◌++◌, ◌≡◌, refl, eqb, length, take, drop, Result, Ok, Err}
use Rattle.line.specs.declared.Refusal.{Refusal}
use Rattle.std.proofs.Common.{arith, append_assoc, ◌∙◌, ap, sym, eqb-true}
use Rattle.base.specs.Pick.{pick_if}
use Rattle.chip.specs.Chip.{Whole}
use Rattle.line.specs.Attached.{Attached, verdict_at, Stands, line_from, with_line}
use Rattle.line.specs.Refusals.{well_judged}
use Rattle.line.specs.Runs.{run_append, run_full}
use Rattle.line.specs.Slots.{host_bits, Run, run_on}
use Rattle.line.proofs.Standing.{line_length, put_back, again, judged_stands, run_stands, run_line}
use Rattle.recording.specs.declared.Fault.{Fault}
use Rattle.recording.specs.Reading.{found_at}
use Rattle.recording.specs.Cards.{room_for}
use Rattle.recording.specs.Playing.{bits, Step, step, run_step, slots_step, record_step, Played, played, after, on_step, play_on, play_from}
use Rattle.recording.specs.Next.{found_lies}
use Rattle.recording.specs.Joining.{Row, none, run, PlaysAs, alone, joined}
use Rattle.recording.specs.declared.Found.{Found}
use Rattle.recording.specs.declared.Found.TheVariants as found
use Rattle.recording.specs.declared.Record.{Record}
use Rattle.recording.specs.declared.Record.TheVariants as record_of

-- answers after answers
pub after_after : (bs cs : List Bool) (p : Played) → after bs (after cs p) ≡ after (bs ++ cs) p
after_after bs cs p = ap (λ (l : List Bool). played l p.ends p.at p.line) (sym (append_assoc bs cs p.answers))

-- ---- a run on a line that stands well

-- what a run comes to there, and the line with its buffers after it
abbrev pub run_of : List Bool → Attached → Run
run_of hs l = run_on hs (line_from l)

abbrev pub after_run : List Bool → Attached → Attached
after_run hs l = with_line l (run_of hs l).line

-- it is put on the line
well_step : (hs : List Bool) (l : Attached) → Stands l → run_step (verdict_at l) hs l ≡ step (bits (run_of hs l).bits) (after_run hs l)
well_step hs l s = ap (λ (v : Result (Unit {0}) Refusal). run_step v hs l) (well_judged l.count l.lent.chips l.lent.images l.lent.pads s.range s.sizes)

-- so is one of a record, and one without a slot leaves the line as it is
pub slots-step : (count : ℕ) (bytes : List ℕ) (l : Attached) → Stands l → slots_step count bytes l ≡ step (bits (run_of (host_bits count bytes) l).bits) (after_run (host_bits count bytes) l)
unfolding slots_step
slots-step count bytes l s =
    pick_if (λ (d : Step). d ≡ step (bits (run_of (host_bits count bytes) l).bits) (after_run (host_bits count bytes) l)) (eqb count 0) _ _
    (λ e. (λ j. step (bits []) (sym (put_back l s) j)) ∙ ap (λ (n : ℕ). step (bits (run_of (host_bits n bytes) l).bits) (after_run (host_bits n bytes) l)) (sym (eqb-true count 0 e)))
    (λ e. well_step (host_bits count bytes) l s)

-- one run after another
module _ (hs bs : List Bool) (l : Attached) (s : Stands l) where
  runs_left : after_run bs (after_run hs l) ≡ after_run (hs ++ bs) l
  runs_left =
      ap (λ (L : List Whole). with_line (after_run hs l) (run_on bs L).line) (run_line hs l s)
      ∙ again l (run_of hs l).line (run_on bs (run_of hs l).line).line (run_full hs (line_from l) ∙ line_length l s)
      ∙ ap (λ (r : Run). with_line l r.line) (sym (run_append hs bs (line_from l)))

  pub runs_said : (run_of hs l).bits ++ (run_of bs (after_run hs l)).bits ≡ (run_of (hs ++ bs) l).bits
  runs_said =
      ap (λ (L : List Whole). (run_of hs l).bits ++ (run_on bs L).bits) (run_line hs l s)
      ∙ ap (λ (r : Run). r.bits) (sym (run_append hs bs (line_from l)))

-- ---- runs one after the other

-- how playing goes on after the step of what stands for some records, the first of them at an offset
pub record Onward (more : Bool) (s : List ℕ) (at end : ℕ) (d : Step) (p : Played) : Type 0 where
  pub turns : ℕ
  pub enough : length s ≤ end + turns
  pub goes : p ≡ on_step (λ n m. play_from (suc turns) more s n m) at end d.said d.line

-- where a run is found, playing goes on after it
first_run : (more : Bool) (s : List ℕ) (k count from to next : ℕ) (l : Attached) (turns : ℕ) → found_at s k (room_for l.count) true more ≡ Ok (found.Record (record_of.Slots count from to) next)
    → play_from (suc turns) more s k l ≡ (let d = slots_step count (take (to - from) (drop from s)) l in on_step (λ n x. play_from turns more s n x) k next d.said d.line)
unfolding play_from
first_run more s k count from to next l turns e = ap (λ (x : Result Found Fault). play_on (λ n m. play_from turns more s n m) s k l x) e

-- what is left to play after one run and others is what is left after all of them
all_runs : (more : Bool) (s : List ℕ) (hs bs : List Bool) (l : Attached) → Stands l → (turns end : ℕ) (p : Played) → p ≡ after (run_of bs (after_run hs l)).bits (play_from (suc turns) more s end (after_run bs (after_run hs l)))
    → after (run_of hs l).bits p ≡ after (run_of (hs ++ bs) l).bits (play_from (suc turns) more s end (after_run (hs ++ bs) l))
all_runs more s hs bs l w turns end p e =
    let m = after_run hs l in
    ap (after (run_of hs l).bits) e ∙ after_after (run_of hs l).bits (run_of bs m).bits (play_from (suc turns) more s end (after_run bs m))
    ∙ (λ j. after (runs_said hs bs l w j) (play_from (suc turns) more s end (runs_left hs bs l w j)))

-- runs in a row play as one run of all their bits
row_plays : {more : Bool} {s : List ℕ} {room at : ℕ} {bs : List Bool} {end : ℕ} → Row more s room at bs end → (first : ℕ) (l : Attached) → Stands l → room ≡ room_for l.count
    → (turns : ℕ) → length s ≤ at + turns → Onward more s first end (step (bits (run_of bs l).bits) (after_run bs l)) (play_from (suc turns) more s at l)
row_plays {more = more} {s = s} (none k) first l w q turns h =
    record { turns = turns; enough = h; goes = ap (λ (m : Attached). play_from (suc turns) more s k m) (sym (put_back l w)) }
row_plays {more = more} {s = s} {room = room} (run k count from to next end bs f g) first l w q turns h =
    let hs = host_bits count (take (to - from) (drop from s)) in
    let i = found_lies s k room true more (record_of.Slots count from to) next f in
    let a = i.further in
    let b = i.within in
    let t : suc (turns - 1) ≡ turns = omega arith in
    let r = row_plays g first (after_run hs l) (run_stands hs l w) q (turns - 1) (omega arith) in
    record {
      turns = r.turns;
      enough = r.enough;
      goes =
          first_run more s k count from to next l turns (ap (λ (n : ℕ). found_at s k n true more) (sym q) ∙ f)
          ∙ ap (λ (d : Step). on_step (λ n x. play_from turns more s n x) k next d.said d.line) (slots-step count (take (to - from) (drop from s)) l w)
          ∙ ap (λ (n : ℕ). after (run_of hs l).bits (play_from n more s next (after_run hs l))) (sym t)
          ∙ all_runs more s hs bs l w r.turns end (play_from (suc (turns - 1)) more s next (after_run hs l)) r.goes;
    }

-- they do not end before they begin
row_further : {more : Bool} {s : List ℕ} {room at : ℕ} {bs : List Bool} {end : ℕ} → Row more s room at bs end → at ≤ end
row_further (none k) = omega arith
row_further {more = more} {s = s} {room = room} (run k count from to next end bs f g) =
    let a = row_further g in
    let b = (found_lies s k room true more (record_of.Slots count from to) next f).further in
    omega arith

-- ---- what is put on the line for a record

module _ (more : Bool) (s : List ℕ) (room at next : ℕ) (l : Attached) (q : room ≡ room_for l.count) (places : 16 ≤ length l.lent.chips) (turns : ℕ) (h : length s ≤ next + turns) where
  -- after a step, as playing goes on record by record
  abbrev goes_on : Step → Played
  goes_on d = on_step (λ n m. play_from (suc turns) more s n m) at next d.said d.line

  -- a run with some that follow it, by the verdict
  runs_play : (hs bs : List Bool) (end : ℕ) → Row more s room next bs end → (v : Result (Unit {0}) Refusal) → v ≡ verdict_at l → Onward more s at end (run_step v (hs ++ bs) l) (goes_on (run_step v hs l))
  runs_play hs bs end j (Ok tt) e =
      let w = judged_stands l.count l.lent.chips l.lent.images l.lent.pads places e in
      let r = row_plays j at (after_run hs l) (run_stands hs l w) q turns h in
      record { turns = r.turns; enough = r.enough; goes = all_runs more s hs bs l w r.turns end (play_from (suc turns) more s next (after_run hs l)) r.goes }
  runs_play hs bs end j (Err r) e = record { turns = turns; enough = let f = row_further j in omega arith; goes = refl }

  -- what is put on the line for a record, a run with some that follow it or the record alone, plays as the records that it stands for
  pub joined_plays : {taken : Record} {host : List ℕ} {r : Record} {end : ℕ} → PlaysAs more s room taken next host r end → Onward more s at end (record_step host r l) (goes_on (record_step s taken l))
  joined_plays (alone r e) = record { turns = turns; enough = h; goes = ap goes_on (sym (e l)) }
  joined_plays (joined r end hs bs e f j) =
      let o = runs_play hs bs end j (verdict_at l) refl in
      record {
        turns = o.turns;
        enough = o.enough;
        goes = ap goes_on (e l) ∙ o.goes ∙ ap (λ (d : Step). on_step (λ n m. play_from (suc o.turns) more s n m) at end d.said d.line) (sym (f l));
      }
