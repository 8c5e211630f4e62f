-- Laws: the loop that plays the records of a recording.
use Rattle.std.specs.Prelude.{ℕ, suc, ◌+◌, ◌-◌, ◌*◌, ◌<◌, ◌≤◌, Bool, List, [], ◌++◌, ◌≡◌, refl, eqb, length, take, drop, Result, Ok, Err}
use Rattle.line.specs.declared.Refusal.{Refusal}
use Rattle.std.proofs.Common.{arith, zero-add, append-nil, ◌∙◌, sym, length-append}
use Rattle.std.proofs.Math.Bool.{true}
use Rattle.std.proofs.Math.Path.{ap}
use Rattle.base.specs.Pick.{pick_both}
use Rattle.line.specs.Attached.{Attached, attached, says_of, verdict_at, line_from}
use Rattle.line.specs.Event.{Answered, bit, refused}
use Rattle.line.specs.Runs.{run_length, host_most}
use Rattle.line.specs.Slots.{host_bits}
use Rattle.line.proofs.Standing.{event_places, run_places}
use Rattle.recording.specs.declared.Fault.{Fault}
use Rattle.recording.specs.Reading.{found_at}
use Rattle.recording.specs.Cards.{room_for, stopped_by}
use Rattle.recording.specs.Playing.{Ends, ends_of, Said, bits, none, Step, said_by, run_step, slots_step, record_step, Played, played, after, on_step, play_on, play_from, play_all, put_digits, Handed, handed, handed_from}
use Rattle.recording.specs.Putting.{Written, wrote, unwritten, ends_after, Put, put, put_said, put_from, answers_most}
use Rattle.recording.specs.Next.{Lies, found_lies}
use Rattle.recording.specs.Digits.{put_length, put_append}
use Rattle.recording.specs.Joining.{JoinedTo}
use Rattle.recording.specs.JoinPlay.{after_after, Onward, joined_plays}
use Rattle.recording.specs.declared.Record.{Record}
use Rattle.recording.specs.declared.Record.TheVariants as record_of
use Rattle.recording.specs.declared.Played.{Played as PlayedTo}
use Rattle.recording.specs.declared.Found.{Found}
use Rattle.recording.specs.declared.Found.TheVariants as found
use Rattle.recording.specs.declared.Ending.{Ending}

-- ---- how many answers a record has

-- the bits that were answered
abbrev pub bits_said : Said → List Bool
bits_said (bits bs) = bs
bits_said (none r) = []

-- an event has one answer
event_few : (a : Answered) → length (bits_said (said_by a)) ≤ 1
event_few (bit b) = omega arith
event_few (refused r) = omega arith

-- a run has no more answers than slots, by its verdict
run_few : (v : Result (Unit {0}) Refusal) (count : ℕ) (host : List ℕ) (l : Attached) → length (bits_said (run_step v (host_bits count host) l).said) ≤ count
run_few (Ok tt) count host l =
    let h = run_length (host_bits count host) (line_from l) in
    let m = host_most count host in
    omega arith
run_few (Err r) count host l = omega arith

-- a run has no more answers than slots
slots_few : (count : ℕ) (host : List ℕ) (l : Attached) → length (bits_said (slots_step count host l).said) ≤ count
unfolding slots_step
slots_few count host l =
    pick_both (λ (d : Step). length (bits_said d.said) ≤ count) (eqb count 0) _ _ (omega arith)
    (run_few (verdict_at l) count host l)

-- a record has no more answers than the most of it
pub said_few : (s : List ℕ) (r : Record) (l : Attached) → length (bits_said (record_step s r l).said) ≤ answers_most r
said_few s (record_of.Chip code kind) l = omega arith
said_few s (record_of.Slots count from to) l = slots_few count (take (to - from) (drop from s)) l
said_few s (record_of.Event e) l = event_few (says_of e l)

-- a record leaves as many places in the table: a run by its verdict, and so any
run_leaves : (v : Result (Unit {0}) Refusal) (hs : List Bool) (l : Attached) → 16 ≤ length l.lent.chips → v ≡ verdict_at l
    → length (run_step v hs l).line.lent.chips ≡ length l.lent.chips
run_leaves (Ok tt) hs l h e = run_places l.count l.lent.chips l.lent.images l.lent.pads h hs e
run_leaves (Err r) hs l h e = refl

step_places : (s : List ℕ) (r : Record) (l : Attached) → 16 ≤ length l.lent.chips → length (record_step s r l).line.lent.chips ≡ length l.lent.chips
unfolding slots_step
step_places s (record_of.Chip code kind) l h = refl
step_places s (record_of.Slots count from to) l h =
    pick_both (λ (d : Step). length d.line.lent.chips ≡ length l.lent.chips) (eqb count 0) _ _ refl
    (run_leaves (verdict_at l) (host_bits count (take (to - from) (drop from s))) l h refl)
step_places s (record_of.Event e) l h = event_places l.count l.lent.chips l.lent.images l.lent.pads h e

-- ---- the loop

-- the number in what was written
abbrev number_written : Written → ℕ
number_written (wrote n) = n
number_written (unwritten r) = r

-- where no record is found, playing stops
stops : (go : ℕ → Attached → Played) (s : List ℕ) (at : ℕ) (l : Attached) (f : Result Found Fault) → ((r : Record) (next : ℕ) → f ≡ Ok (found.Record r next) → ⊥)
    → play_on go s at l f ≡ played [] (ends_of (stopped_by f)) at l
stops go s at l (Ok found.End) absent = refl
stops go s at l (Ok found.Part) absent = refl
stops go s at l (Ok (found.Record r next)) absent = absurd (absent r next refl)
stops go s at l (Err f) absent = refl

-- what the player hands back, with the text and the buffers
abbrev pub handed_by : List ℕ → List ℕ → List ℕ → PlayedTo → Handed
handed_by out ms ss u = handed (ends_of u.ending) u.at u.answers out (attached u.table.n u.table.chips ms ss)

-- where the loop stands: what was answered so far, and how many more records there may be after this one
pub record Underway (more : Bool) (s out₀ : List ℕ) (l₀ : Attached) (out : List ℕ) (l : Attached) (at place : ℕ) : Type 0 where
  pub said : List Bool
  pub turns : ℕ
  pub left : after said (play_from (suc turns) more s at l) ≡ play_all more s l₀
  pub enough : length s ≤ at + turns
  pub within : at ≤ length s
  pub text : out ≡ put_digits said 0 out₀
  pub number : place ≡ length said
  pub few : place ≤ 8 * at
  pub room : length out₀ ≡ 8 * length s
  pub long : length out ≡ length out₀
  pub places : length l.lent.chips ≡ 16
  pub images : length l.lent.images ≡ length l₀.lent.images
  pub pads : length l.lent.pads ≡ length l₀.lent.pads

-- it stands so at the beginning
pub underway_start : (more : Bool) (s out : List ℕ) (l : Attached) → length out ≡ 8 * length s → length l.lent.chips ≡ 16
    → Underway more s out l out l 0 0
unfolding play_all
underway_start more s out l r c = record {
  said = [];
  turns = length s;
  left = refl;
  enough = omega arith;
  within = omega arith;
  text = refl;
  number = refl;
  few = omega arith;
  room = r;
  long = refl;
  places = c;
  images = refl;
  pads = refl;
}

module _ (more : Bool) (s out₀ : List ℕ) (l₀ : Attached) (out : List ℕ) (l : Attached) (at place : ℕ) (g : Underway more s out₀ l₀ out l at place)
    (room : ℕ) (q : room ≡ room_for l.count) (f : Result Found Fault) (d : f ≡ found_at s at room true more) where
  -- what is found says how playing goes on
  by_found : after g.said (play_on (λ n m. play_from g.turns more s n m) s at l f) ≡ play_all more s l₀
  unfolding play_from
  by_found = ap (λ (x : Result Found Fault). after g.said (play_on (λ n m. play_from g.turns more s n m) s at l x)) (d ∙ ap (λ (j : ℕ). found_at s at j true more) q) ∙ g.left

  -- playing ends here, with the text as it is
  ends_here : (e : Ends) (text : List ℕ) (k : Attached) → text ≡ out → after g.said (played [] e at k) ≡ play_all more s l₀ → handed e at place text k ≡ handed_from out₀ (play_all more s l₀)
  ends_here e text k t h =
      let n : g.said ≡ g.said ++ [] = sym (append-nil g.said) in
      (λ j. handed e at ((g.number ∙ ap length n) j) ((t ∙ g.text ∙ ap (λ (bs : List Bool). put_digits bs 0 out₀) n) j) k) ∙ ap (handed_from out₀) h

  -- no record can be taken
  pub underway_stopped : (x : Result Ending Fault) → ((r : Record) (next : ℕ) → f ≡ Ok (found.Record r next) → ⊥) → x ≡ stopped_by f
      → handed (ends_of x) at place out l ≡ handed_from out₀ (play_all more s l₀)
  underway_stopped x absent e =
      ends_here (ends_of x) out l refl
      (ap (λ (y : Result Ending Fault). after g.said (played [] (ends_of y) at l)) e
      ∙ sym (ap (after g.said) (stops (λ n m. play_from g.turns more s n m) s at l f absent))
      ∙ by_found)

  module _ (taken : Record) (next : ℕ) (k : f ≡ Ok (found.Record taken next)) where
    -- the record lies in the recording
    pub underway_lies : Lies s at taken next
    underway_lies = found_lies s at room true more taken next (sym d ∙ k)

    module _ (bytes : List ℕ) (r : Record) (end : ℕ) (o : JoinedTo more s room taken next bytes r end) where
      -- the answers of what stands for it have room
      pub underway_room : place + answers_most r ≤ length out
      underway_room =
          let a = g.few in
          let b = underway_lies.few in
          let c = o.few in
          let e = o.within in
          let h = g.room in
          let i = g.long in
          omega arith

      -- less of the recording is left after it
      pub underway_less : length s - end < length s - at
      underway_less = let a = underway_lies.further in let b = o.further in let c = o.within in omega arith

      -- it says how playing goes on
      goes : Onward more s at end (record_step bytes r l) (let x = record_step s taken l in on_step (λ n m. play_from (suc (g.turns - 1)) more s n m) at next x.said x.line)
      goes =
          let a = underway_lies.further in
          let b = underway_lies.within in
          let c = g.enough in
          joined_plays more s room at next l q (let p = g.places in omega arith) (g.turns - 1) (omega arith) o.plays

      abbrev later : ℕ → Attached → Played
      later n m = play_from (suc goes.turns) more s n m

      by_joined : after g.said (on_step later at end (record_step bytes r l).said (record_step bytes r l).line) ≡ play_all more s l₀
      by_joined =
          let a = underway_lies.further in
          let b = underway_lies.within in
          let c = g.enough in
          let t : suc (g.turns - 1) ≡ g.turns = omega arith in
          ap (after g.said) (sym goes.goes)
          ∙ ap (λ (x : ℕ). after g.said (let y = record_step s taken l in on_step (λ n m. play_from x more s n m) at next y.said y.line)) t
          ∙ ap (λ (x : Result Found Fault). after g.said (play_on (λ n m. play_from g.turns more s n m) s at l x)) (sym k)
          ∙ by_found

      module _ (w : Written) (text : List ℕ) (m : Attached) where
        -- refused, by what its events say
        refused_by : (n : ℕ) (x : Said) (y : Attached) → w ≡ unwritten n → put w text m ≡ put_said place out x y
            → after g.said (on_step later at end x y) ≡ play_all more s l₀ → handed (ends_after w) at place text m ≡ handed_from out₀ (play_all more s l₀)
        refused_by n (bits bs) y u e p =
            let c : unwritten n ≡ wrote (length bs) = sym u ∙ ap (λ (z : Put). z.written) e in
            let z : ◌≡◌ {A = ℕ} 0 1 = cc in
            absurd (omega arith)
        refused_by n (none i) y u e p =
            ends_here (ends_after w) text m (ap (λ (z : Put). z.text) e) ((λ j. after g.said (played [] (ends_after (e j).written) at (e j).line)) ∙ p)

        -- an event of it is refused
        pub underway_refused : (n : ℕ) (e : Ends) → w ≡ unwritten n → e ≡ ends_after w → put w text m ≡ put_from place out (record_step bytes r l)
            → handed e at place text m ≡ handed_from out₀ (play_all more s l₀)
        underway_refused n e u y p =
            ap (λ (x : Ends). handed x at place text m) y ∙ refused_by n (record_step bytes r l).said (record_step bytes r l).line u p by_joined

        module _ (n : ℕ) (images : length m.lent.images ≡ length l.lent.images)
            (pads : length m.lent.pads ≡ length l.lent.pads) where
          -- answered, by what its events say
          next-by : (x : Said) (y : Attached) → w ≡ wrote n → put w text m ≡ put_said place out x y → length (bits_said x) ≤ answers_most r → length y.lent.chips ≡ length l.lent.chips
              → after g.said (on_step later at end x y) ≡ play_all more s l₀ → Underway more s out₀ l₀ text m end (place + n)
          next-by (none i) y u e c k p =
              let c : wrote n ≡ unwritten i = sym u ∙ ap (λ (z : Put). z.written) e in
              let z : ◌≡◌ {A = ℕ} 0 1 = cc in
              absurd (omega arith)
          next-by (bits bs) y u e c k p =
              let a = underway_lies.few in
              let b = o.few in
              let t : text ≡ put_digits bs place out = ap (λ (z : Put). z.text) e in
              let z : n ≡ length bs = ap number_written (sym u ∙ ap (λ (z : Put). z.written) e) in
              let v = g.number in
              let x = g.few in
              let i = length-append g.said bs in
              record {
                said = g.said ++ bs;
                turns = goes.turns;
                left =
                    sym (after_after g.said bs (play_from (suc goes.turns) more s end m))
                    ∙ (λ j. after g.said (after bs (play_from (suc goes.turns) more s end (e j).line)))
                    ∙ p;
                enough = goes.enough;
                within = o.within;
                text =
                    t ∙ (λ j. put_digits bs (v j) (g.text j))
                    ∙ ap (λ (i : ℕ). put_digits bs i (put_digits g.said 0 out₀)) (sym (zero-add (length g.said)))
                    ∙ sym (put_append g.said bs 0 out₀);
                number = omega arith;
                few = omega arith;
                room = g.room;
                long = ap length t ∙ put_length bs place out ∙ g.long;
                places = ap (λ (z : Put). length z.line.lent.chips) e ∙ k ∙ g.places;
                images = images ∙ g.images;
                pads = pads ∙ g.pads;
              }

          -- its answers are put, and playing goes on after it
          pub underway_next : w ≡ wrote n → put w text m ≡ put_from place out (record_step bytes r l) → Underway more s out₀ l₀ text m end (place + n)
          underway_next u p = next-by (record_step bytes r l).said (record_step bytes r l).line u p (said_few bytes r l) (step_places bytes r l (let a = g.places in omega arith)) by_joined
