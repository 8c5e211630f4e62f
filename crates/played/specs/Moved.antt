-- Laws: reading at an offset is reading from there on, so many bytes further on.
use Prim.Native.Nat.{ℕ, zero, suc, ◌+◌, ◌-◌, ◌<◌, ◌≤◌}
use Rattle.std.proofs.Common.{add_assoc, ◌∙◌, length-drop, get_or-drop, drop-drop}
use native.Mathlib.Omega.{arith}
use Rattle.std.specs.Prelude.{Bool, List, ◌≡◌, eqb, ltb, take, drop, get_or, Result, Ok, Err}
use Rattle.std.proofs.Math.Bool.{true, false}
use Rattle.std.proofs.Math.Path.{refl, ap, sym}
use Rattle.std.proofs.Math.ListN.{length}
use Rattle.base.specs.Bits.{both}
use Rattle.base.specs.Pick.{pick, pick_of}
use Rattle.chip.specs.Chip.{set_up_chip}
use Rattle.line.specs.Attached.{Attached}
use Rattle.line.specs.Slots.{bytes_asked}
use Rattle.line.specs.Tables.{joined}
use Rattle.line.specs.declared.Table.{Table}
use Rattle.recording.specs.declared.Fault.{Fault}
use Rattle.recording.specs.Reading.{length_asked, cut_off, may_be_right, cut_record, at_end, found_at, starts_event}
use Rattle.recording.specs.There.{There, nothing, few, head, all, there, found_end, found_short, found_cut, starts_not}
use Rattle.recording.specs.Cards.{room_for, cards_read, cards_on, cards_from}
use Rattle.recording.specs.Playing.{Said, bits, none, slots_step, record_step, Played, after, on_step, play_on, play_from, further}
use Rattle.recording.specs.declared.CardsRead.{CardsRead}
use Rattle.recording.specs.declared.Record.{Record}
use Rattle.recording.specs.declared.Record.TheVariants as record_of
use Rattle.recording.specs.declared.Found.{Found}
use Rattle.recording.specs.declared.Found.TheVariants as found
use Rattle.played.specs.Choices.{pick_like}
use Rattle.played.specs.Alike.{moved_record, moved, Alike, alike_on, number_2, size_alike, kind_alike, starts_alike, found_alike}

-- a record that is not all there is so wherever it stands
cut_off_moved : (k : ℕ) (right more : Bool) → cut_off right more ≡ moved k (cut_off right more)
unfolding cut_off pick
cut_off_moved k true true = refl
cut_off_moved k true false = refl
cut_off_moved k false more = refl

module _ (s : List ℕ) (k : ℕ) (l : k ≤ length s) (at : ℕ) where
  -- how many bytes there are from k on
  rest : length (drop k s) ≡ length s - k
  rest = length-drop k s

  -- the same bytes
  dropped : (n : ℕ) → Alike (drop k s) at s (k + at) n
  dropped n i h = ap (λ (x : ℕ). get_or s x 0) (add_assoc k at i) ∙ sym (get_or-drop k s (at + i) 0)

  -- the same length is asked
  asked_moved : (kind : ℕ) → length_asked s (k + at + 4) kind ≡ length_asked (drop k s) (at + 4) kind
  unfolding length_asked
  asked_moved kind =
      ap (λ (n : ℕ). pick (eqb kind 16) (4 + bytes_asked n) (pick (eqb kind 19) 4 2))
      (number_2 (drop k s) (at + 4) s (k + at + 4) 2 (alike_on (drop k s) at s (k + at) 6 (dropped 6) 4 2 (omega arith)) (omega arith))

  -- it may still be right in both
  right_moved : (size kind : ℕ) → may_be_right s (k + at) size kind ≡ may_be_right (drop k s) at size kind
  unfolding may_be_right
  right_moved size kind =
      let e = rest in
      let m : length s - (k + at) ≡ length (drop k s) - at = omega arith in
      λ j. pick (both (eqb kind 16) (ltb (m j) 6)) true (eqb size (asked_moved kind j))

  -- a record of which not all is there
  cut_moved : (more : Bool) (size kind : ℕ) → cut_record s (k + at) more size kind ≡ moved k (cut_record (drop k s) at more size kind)
  unfolding cut_record
  cut_moved more size kind =
      pick_like (moved k) _ _ _ _ _ _ refl (λ e. (λ j. cut_off (right_moved size kind j) more) ∙ cut_off_moved k _ more)
      (λ e. pick_like (moved k) _ _ _ _ _ _ refl (λ f. cut_off_moved k _ more) (λ f. refl))

  -- what is found
  pub found_moved : (room : ℕ) (over more : Bool) → found_at s (k + at) room over more ≡ moved k (found_at (drop k s) at room over more)
  unfolding at_end
  found_moved room over more = go (there (drop k s) at)
    where
      go : There (drop k s) at → found_at s (k + at) room over more ≡ moved k (found_at (drop k s) at room over more)
      go (nothing h) =
          let e = rest in
          found_end s (k + at) room over more (omega arith) ∙ sym (ap (moved k) (found_end (drop k s) at room over more h) ∙ pick_of (moved k) more _ _)
      go (few h g) =
          let e = rest in
          found_short s (k + at) room over more (omega arith) (omega arith) ∙ cut_off_moved k true more ∙ ap (moved k) (sym (found_short (drop k s) at room over more h g))
      go (head h g) =
          let e = rest in
          let a = size_alike (drop k s) s k at (dropped _) (omega arith) h in
          let b = kind_alike (drop k s) s k at (dropped _) (omega arith) h in
          found_cut s (k + at) room over more (omega arith) (omega arith)
          ∙ (λ j. cut_record s (k + at) more (a j) (b j))
          ∙ cut_moved more _ _
          ∙ ap (moved k) (sym (found_cut (drop k s) at room over more h g))
      go (all h g) = let e = rest in found_alike (drop k s) s k at (dropped _) (omega arith) h room over more more g

  -- whether an event starts
  starts_moved : starts_event s (k + at) ≡ starts_event (drop k s) at
  starts_moved = go (there (drop k s) at)
    where
      none : length (drop k s) < at + 4 → starts_event s (k + at) ≡ starts_event (drop k s) at
      none h = let e = rest in starts_not s (k + at) (omega arith) ∙ sym (starts_not (drop k s) at h)

      some : at + 4 ≤ length (drop k s) → starts_event s (k + at) ≡ starts_event (drop k s) at
      some h = let e = rest in starts_alike (drop k s) s k at (dropped _) (omega arith) h

      go : There (drop k s) at → starts_event s (k + at) ≡ starts_event (drop k s) at
      go (nothing h) = none (omega arith)
      go (few h g) = none g
      go (head h g) = some h
      go (all h g) = some h

-- a card that was read, so many bytes further on
abbrev pub further_cards : ℕ → CardsRead → CardsRead
further_cards n c = cards_read c.ending (n + c.at) c.table

module _ (s : List ℕ) (k : ℕ) (g : k ≤ length s) where
  -- what the events of a record answer and leave
  step_moved : (r : Record) (l : Attached) → record_step s (moved_record k r) l ≡ record_step (drop k s) r l
  step_moved (record_of.Chip code kind) l = refl
  step_moved (record_of.Slots count from to) l =
      let m : k + to - (k + from) ≡ to - from = omega arith in
      λ j. slots_step count (take (m j) (sym (drop-drop from k s) j)) l
  step_moved (record_of.Event e) l = refl

  -- playing goes on further on, where it does after the record
  module _ (at : ℕ) (l : Attached) (on on' : ℕ → Attached → Played) (e : (next : ℕ) (u : Attached) → on (k + next) u ≡ further k (on' next u)) where
    said_moved : (next : ℕ) (x : Said) (u : Attached) → on_step on (k + at) (k + next) x u ≡ further k (on_step on' at next x u)
    said_moved next (bits bs) u = ap (after bs) (e next u)
    said_moved next (none r) u = refl

    play_on_moved : (x : Result Found Fault) → play_on on s (k + at) l (moved k x) ≡ further k (play_on on' (drop k s) at l x)
    play_on_moved (Ok found.End) = refl
    play_on_moved (Ok found.Part) = refl
    play_on_moved (Ok (found.Record r next)) =
        let d = step_moved r l in
        (λ j. on_step on (k + at) (k + next) (d j).said (d j).line) ∙ said_moved next (record_step (drop k s) r l).said (record_step (drop k s) r l).line
    play_on_moved (Err f) = refl

  -- playing from any offset on
  pub play_moved : (most : ℕ) (more : Bool) (at : ℕ) (l : Attached) → play_from most more s (k + at) l ≡ further k (play_from most more (drop k s) at l)
  unfolding play_from
  play_moved zero more at l = refl
  play_moved (suc m) more at l =
      ap (play_on (λ next u. play_from m more s next u) s (k + at) l) (found_moved s k g at (room_for l.count) true more)
      ∙ play_on_moved at l (λ next u. play_from m more s next u) (λ next u. play_from m more (drop k s) next u) (λ next u. play_moved m more next u) (found_at (drop k s) at (room_for l.count) true more)

  -- and so does reading a card
  cards_on_moved : (at : ℕ) (t : Table) (on on' : ℕ → Table → CardsRead) → ((next : ℕ) (u : Table) → on (k + next) u ≡ further_cards k (on' next u)) → (x : Result Found Fault)
      → cards_on on (k + at) t (moved k x) ≡ further_cards k (cards_on on' at t x)
  cards_on_moved at t on on' e (Ok found.End) = refl
  cards_on_moved at t on on' e (Ok found.Part) = refl
  cards_on_moved at t on on' e (Ok (found.Record (record_of.Chip code kind) next)) = e next (joined (set_up_chip code kind) t)
  cards_on_moved at t on on' e (Ok (found.Record (record_of.Slots count from to) next)) = refl
  cards_on_moved at t on on' e (Ok (found.Record (record_of.Event v) next)) = refl
  cards_on_moved at t on on' e (Err f) = refl

  -- reading from any offset on
  pub cards_moved : (most : ℕ) (more : Bool) (at : ℕ) (t : Table) → cards_from most more s (k + at) t ≡ further_cards k (cards_from most more (drop k s) at t)
  unfolding cards_from
  cards_moved zero more at t = refl
  cards_moved (suc m) more at t =
      pick_like (further_cards k) _ _ _ _ _ _ (starts_moved s k g at) (λ e. refl)
      (λ e. ap (cards_on (λ next u. cards_from m more s next u) (k + at) t) (found_moved s k g at (room_for t.n) false more)
      ∙ cards_on_moved at t (λ next u. cards_from m more s next u) (λ next u. cards_from m more (drop k s) next u) (λ next u. cards_moved m more next u) (found_at (drop k s) at (room_for t.n) false more))
