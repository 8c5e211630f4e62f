-- Laws: the first bytes of a recording, handed over before the rest, come as far as the recording comes in them.
use Prim.Native.Nat.{ℕ, suc, ◌+◌, ◌<◌, ◌≤◌}
use Rattle.std.proofs.Math.Nat.{zero-add}
use Rattle.std.proofs.Common.{arith, ◌∙◌, subst, take-append-drop, length-take-le}
use Rattle.std.specs.Prelude.{Bool, ◌≡◌, length, take, drop, Result, Ok, Err}
use Rattle.std.proofs.Math.Bool.{true, false}
use mathlib.Core.List.{List, [], ◌++◌}
use Rattle.std.proofs.Math.Path.{refl, ap, sym}
use Rattle.std.proofs.Math.Dec.{leb}
use borrow.Author.Tests.{leb-true, leb-false}
use Rattle.base.specs.Pick.{pick_true, pick_false}
use Rattle.chip.specs.Chip.{set_up_chip}
use Rattle.line.specs.Attached.{Attached}
use Rattle.line.specs.Tables.{blank_table, joined}
use Rattle.line.specs.declared.Table.{Table}
use Rattle.recording.specs.declared.Fault.{Fault}
use Rattle.recording.specs.Reading.{found_at, starts_event}
use Rattle.recording.specs.Unused.{no_bytes}
use Rattle.recording.specs.There.{size_at, next_at, found_awaited, starts_not}
use Rattle.recording.specs.Ways.{found_has}
use Rattle.recording.specs.Next.{found_lies}
use Rattle.recording.specs.Cards.{room_for, cards_on, cards_from, cards_of}
use Rattle.recording.specs.Playing.{Ends, ended, part, refusal, Said, Step, record_step, Played, on_step, play_on, play_from, play_all, set_up_line, playback}
use Rattle.recording.specs.declared.CardsRead.{CardsRead}
use Rattle.recording.specs.declared.Record.{Record}
use Rattle.recording.specs.declared.Record.TheVariants as record_of
use Rattle.recording.specs.declared.Found.{Found}
use Rattle.recording.specs.declared.Found.TheVariants as found
use Rattle.played.specs.Prefix.{starts_stays, size_stays, whole_stays}
use Rattle.played.specs.Fuel.{play_fuel, cards_fuel, play_there}
use Rattle.played.specs.Resumed.{step_stays}
use Rattle.played.specs.Handed.{Stage, carding, playing, over, Hand, hand, start, card_after, hand_piece, came_to}
use Rattle.played.specs.Pieces.{came_after}
use Rattle.played.specs.Counted.{piece_counted}
use Rattle.played.specs.Starts.{found_starts}
use Rattle.played.specs.Reached.{CardReached, first, chip, Reached, card, onto, Faulty, in_card, in_record, in_events}
use Rattle.played.specs.Cut.{after_refusal}

-- a record that is found ends where its length says
abbrev EndsBy : List ℕ → ℕ → Result Found Fault → Type 0
EndsBy s at (Ok found.End) = Unit
EndsBy s at (Ok found.Part) = Unit
EndsBy s at (Ok (found.Record x next)) = next_at s at ≡ next
EndsBy s at (Err f) = Unit

pub ends-by : (s : List ℕ) (at room : ℕ) (event more : Bool) (x : Record) (next : ℕ) → found_at s at room event more ≡ Ok (found.Record x next) → next_at s at ≡ next
ends-by s at room event more x next e =
    subst (EndsBy s at) e (found_has (EndsBy s at) s at room event more (λ e. tt) (λ a. tt) (λ f. tt) (λ w k t r. refl) (λ w k t u. refl) (λ w t. refl))

-- a recording that was refused is over
abbrev Refuses : Ends → Type 0
Refuses ended = ⊥
Refuses part = ⊥
Refuses (refusal r) = Unit

over_refused : (h : Hand) (r : ℕ) → (came_to h).ends ≡ refusal r → h.stage ≡ over (refusal r) (came_to h).line
over_refused h r = by_stage h.stage
  where
    by_stage : (g : Stage) → (came_to (hand g [] 0 [])).ends ≡ refusal r → g ≡ over (refusal r) (came_to (hand g [] 0 [])).line
    by_stage (carding t) e = absurd (subst Refuses (sym e) tt)
    by_stage (playing l) e = absurd (subst Refuses (sym e) tt)
    by_stage (over x l) e = ap (λ (y : Ends). over y l) e

module _ (s : List ℕ) (p : ℕ) (w : p ≤ length s) where
  -- the first p bytes of a recording, handed over before the rest
  abbrev before : List ℕ
  before = take p s

  -- how far they come
  abbrev came : Hand
  came = hand_piece true before start

  -- they are as many
  many : length before ≡ p
  many = length-take-le p s w

  -- a record that ends in them is found as in the recording, and so is its kind
  starts_before : (at : ℕ) → at + 4 ≤ p → starts_event before at ≡ starts_event s at
  starts_before at h =
      let m = many in
      sym (starts_stays before (drop p s) at (omega arith)) ∙ ap (λ (z : List ℕ). starts_event z at) (take-append-drop p s)

  found_before : (at room : ℕ) (event : Bool) → at + 4 ≤ p → next_at s at ≤ p → found_at before at room event true ≡ found_at s at room event false
  found_before at room event h g =
      let m = many in
      let n : size_at s at ≡ size_at before at = ap (λ (z : List ℕ). size_at z at) (sym (take-append-drop p s)) ∙ size_stays before (drop p s) at (omega arith) in
      sym (whole_stays before (drop p s) at (omega arith) room event false (omega arith)) ∙ ap (λ (z : List ℕ). found_at z at room event false) (take-append-drop p s)

  record_before : (at room : ℕ) (event : Bool) (x : Record) (next : ℕ) → found_at s at room event false ≡ Ok (found.Record x next) → next ≤ p → found_at before at room event true ≡ Ok (found.Record x next)
  record_before at room event x next e h =
      let a = (found_lies s at room event false x next e).further in
      let n = ends-by s at room event false x next e in
      found_before at room event (omega arith) (omega arith) ∙ e

  -- reading them reaches the offsets that reading the recording reaches
  card_before : (t : Table) (at : ℕ) → CardReached s t at → at ≤ p → cards_of true before (blank_table 0) ≡ cards_from (suc (length before)) true before at t
  unfolding cards_of cards_from
  card_before t at first h = refl
  card_before t at (chip {t = u} {at = o} code kind next r e) h =
      let m = many in
      let a = (found_lies s o (room_for u.n) false false (record_of.Chip code kind) next e).further in
      let f = record_before o (room_for u.n) false (record_of.Chip code kind) next e h in
      card_before u o r (omega arith)
      ∙ pick_false _ _ _ (found_starts before o (room_for u.n) false true (record_of.Chip code kind) next f)
      ∙ ap (cards_on (λ next v. cards_from (length before) true before next v) o u) f
      ∙ cards_fuel true before (length before) (suc (length before)) next (joined (set_up_chip code kind) u) (omega arith) (omega arith) (omega arith)

  -- how playing ends, and where
  abbrev view : Played → Ends × ℕ
  view x = (x.ends, x.at)

  -- what comes of a card that was read of them
  abbrev after_card : CardsRead → Played
  after_card c = came_to (card_after true before 0 [] c.at c.table c.ending)

  -- where fewer than four of them are left, playing awaits more
  awaited : (l : Attached) (at : ℕ) → p < at + 4 → view (play_from (suc (length before)) true before at l) ≡ (part, at)
  unfolding play_from
  awaited l at h =
      let m = many in
      ap (λ (x : Result Found Fault). view (play_on (λ next k. play_from (length before) true before next k) before at l x)) (found_awaited before at (room_for l.count) true (omega arith))

  -- the events of a record that ends in them
  step_before : (at room : ℕ) (event : Bool) (x : Record) (next : ℕ) (l : Attached) → found_at before at room event true ≡ Ok (found.Record x next) → record_step before x l ≡ record_step s x l
  step_before at room event x next l f =
      sym (step_stays false before (drop p s) x l (found_lies before at room event true x next f).fits) ∙ ap (λ (z : List ℕ). record_step z x l) (take-append-drop p s)

  -- playing them reaches the offsets that playing the recording reaches
  play_before : (l : Attached) (at : ℕ) → Reached s l at → at ≤ p → view (came_to came) ≡ view (play_from (suc (length before)) true before at l)
  unfolding hand_piece cards_from play_from
  play_before l at (card {t = t} r e) h = ap (λ (c : CardsRead). view (after_card c)) (card_before t at r h) ∙ by_head (leb (at + 4) p) refl
    where
      by_head : (b : Bool) → leb (at + 4) p ≡ b → view (after_card (cards_from (suc (length before)) true before at t)) ≡ view (play_from (suc (length before)) true before at (set_up_line t))
      by_head true q =
          let m = many in
          let o = play_all true (drop at before) (set_up_line t) in
          ap (λ (c : CardsRead). view (after_card c)) (pick_true _ _ _ (starts_before at (leb-true _ _ q) ∙ e))
          ∙ ap view (came_after (drop at before) (0 + at) [] o)
          ∙ (λ j. (o.ends, zero-add at j + o.at))
          ∙ sym (ap view (play_there true before at (omega arith) (suc (length before)) (omega arith) (set_up_line t)))
      by_head false q =
          let m = many in
          let f = leb-false _ _ q in
          ap (λ (c : CardsRead). view (after_card c))
          (pick_false _ _ _ (starts_not before at (omega arith)) ∙ ap (cards_on (λ next v. cards_from (length before) true before next v) at t) (found_awaited before at (room_for t.n) false (omega arith)))
          ∙ (λ j. (part, zero-add at j)) ∙ sym (awaited (set_up_line t) at f)
  play_before l at (onto {l = k} {at = o} x next bs r e b) h =
      let m = many in
      let a = (found_lies s o (room_for k.count) true false x next e).further in
      let f = record_before o (room_for k.count) true x next e h in
      let go : ℕ → Attached → Played = λ next m. play_from (length before) true before next m in
      play_before k o r (omega arith)
      ∙ ap (λ (y : Result Found Fault). view (play_on go before o k y)) f
      ∙ ap (λ (y : Step). view (on_step go o next y.said y.line)) (step_before o (room_for k.count) true x next k f)
      ∙ ap (λ (y : Said). view (on_step go o next y (record_step s x k).line)) b
      ∙ ap view (play_fuel true before (length before) (suc (length before)) next (record_step s x k).line (omega arith) (omega arith) (omega arith))

  -- so nothing of them is held back where playing reaches their end
  pub none_held : (l : Attached) → Reached s l p → came.held ≡ []
  none_held l r =
      let m = many in
      let c = piece_counted true before start in
      let n : came.taken ≡ p = ap (λ (x : Ends × ℕ). x.1) (play_before l p r (omega arith) ∙ awaited l p (omega arith)) in
      no_bytes came.held (omega arith)

  -- and they are refused where what is at fault in the recording ends in them
  refused_before : (r q : ℕ) → Faulty s r q → q + 4 ≤ p → next_at s q ≤ p → (came_to came).ends ≡ refusal r
  unfolding hand_piece cards_from play_from
  refused_before r q (in_card t f h n e k) a b =
      ap (λ (c : CardsRead). (after_card c).ends)
      (card_before t q h (omega arith) ∙ pick_false _ _ _ (starts_before q a ∙ n)
      ∙ ap (cards_on (λ next v. cards_from (length before) true before next v) q t) (found_before q (room_for t.n) false a b ∙ e))
      ∙ ap refusal k
  refused_before r q (in_record l f h e k) a b =
      ap (λ (x : Ends × ℕ). x.0) (play_before l q h (omega arith))
      ∙ ap (λ (y : Result Found Fault). (play_on (λ next m. play_from (length before) true before next m) before q l y).ends) (found_before q (room_for l.count) true a b ∙ e)
      ∙ ap refusal k
  refused_before r q (in_events l x next h e k) a b =
      let n = ends-by s q (room_for l.count) true false x next e in
      let f = record_before q (room_for l.count) true x next e (omega arith) in
      let go : ℕ → Attached → Played = λ next m. play_from (length before) true before next m in
      ap (λ (x : Ends × ℕ). x.0) (play_before l q h (omega arith))
      ∙ ap (λ (y : Result Found Fault). (play_on go before q l y).ends) f
      ∙ ap (λ (y : Step). (on_step go q next y.said y.line).ends) (step_before q (room_for l.count) true x next l f)
      ∙ ap (λ (y : Said). (on_step go q next y (record_step s x l).line).ends) k

  -- then nothing that comes after them changes anything
  pub after_fault : (r q : ℕ) → Faulty s r q → q + 4 ≤ p → next_at s q ≤ p → (later : List ℕ) → playback (before ++ later) ≡ playback s
  after_fault r q f a b later =
      after_refusal before later (drop p s) (refusal r) (came_to came).line (over_refused came r (refused_before r q f a b)) ∙ ap playback (take-append-drop p s)
