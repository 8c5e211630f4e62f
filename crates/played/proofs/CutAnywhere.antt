-- A run of slots cut into two records, wherever it stands in a recording.
use Rattle.std.specs.Prelude.{ℕ, ◌+◌, ◌-◌, ◌≤◌, Bool, true, false, List, [], ◌++◌, ◌≡◌, refl, ltb, length, take, drop, Result, Ok, Err}
use Rattle.std.proofs.Common.{add-zero, arith, true≢false, ◌∙◌, ap, sym, subst, take-append-drop, length-take-le, drop-drop, le-ltb}
use Rattle.base.specs.Pick.{pick_false}
use Rattle.chip.specs.Chip.{set_up_chip}
use Rattle.line.specs.Attached.{Attached}
use Rattle.line.specs.Slots.{host_bits}
use Rattle.line.specs.Tables.{blank_table, joined}
use Rattle.line.specs.declared.Table.{Table}
use Rattle.recording.specs.declared.Fault.{Fault}
use Rattle.recording.specs.Reading.{number_of_fault, found_at, starts_event}
use Rattle.recording.specs.There.{next_at, found_whole}
use Rattle.recording.specs.Ways.{Awaited, of_head, of-event, of-card, found_has}
use Rattle.recording.specs.Next.{found_lies}
use Rattle.recording.specs.Cards.{room_for}
use Rattle.recording.specs.Playing.{Said, bits, none, record_step, played, set_up_line, playback}
use Rattle.recording.specs.declared.Record.{Record}
use Rattle.recording.specs.declared.Record.TheVariants as record_of
use Rattle.recording.specs.declared.Found.{Found}
use Rattle.recording.specs.declared.Found.TheVariants as found
use Rattle.histories.specs.Below.{Bytes, drop_bytes}
use Rattle.played.specs.Alike.{moved}
use Rattle.played.specs.Moved.{found_moved}
use Rattle.played.specs.Handed.{start, hand_piece}
use Rattle.played.specs.Starts.{found_starts}
use Rattle.played.specs.Reached.{CardReached, first, chip, Reached, card, onto, Faulty, in_card, in_record, in_events, playback_refused}
use Rattle.played.specs.Written.{slots_bytes}
use Rattle.played.specs.Cut.{bytes_added, place_moved}
use Rattle.played.proofs.Taken.{taken_cut}
use Rattle.played.specs.Before.{ends-by, none_held, after_fault}

-- where records start ----------------------------------------------------------------------------------------

-- an offset at which a record starts, by the lengths of those before it: each has its kind, and is all there, whatever else is wrong with it
pub data RecordStarts (s : List ℕ) : ℕ → Type 0 where
  at_first : RecordStarts s 0
  at_next : {at : ℕ} → RecordStarts s at → at + 4 ≤ next_at s at → next_at s at ≤ length s → RecordStarts s (next_at s at)

-- where a record that was found ends, one starts
past_record : (s : List ℕ) (at room : ℕ) (event : Bool) (x : Record) (next : ℕ) → RecordStarts s at → found_at s at room event false ≡ Ok (found.Record x next) → RecordStarts s next
past_record s at room event x next h e =
    let i = found_lies s at room event false x next e in
    let a = i.further in
    let w = i.within in
    let n = ends-by s at room event false x next e in
    subst (RecordStarts s) n (at_next h (omega arith) (omega arith))

-- so is every offset that reading reaches, and every one that playing reaches
pub card_starts : (s : List ℕ) (t : Table) (p : ℕ) → CardReached s t p → RecordStarts s p
card_starts s t p first = at_first
card_starts s t p (chip {t = u} {at = at} code kind next r e) = past_record s at (room_for u.n) false (record_of.Chip code kind) next (card_starts s u at r) e

pub reached_starts : (s : List ℕ) (l : Attached) (p : ℕ) → Reached s l p → RecordStarts s p
reached_starts s l p (card {t = t} r e) = card_starts s t p r
reached_starts s l p (onto {l = m} {at = at} x next bs r e b) = past_record s at (room_for m.count) true x next (reached_starts s m at r) e

-- playing comes there, in the card or from the first record of kinds 16 to 19 on, or ended at a fault before
data Comes (s : List ℕ) (p : ℕ) : Type 0 where
  to_card : (t : Table) → CardReached s t p → Comes s p
  to_events : (l : Attached) → Reached s l p → Comes s p
  not_there : (r q : ℕ) → Faulty s r q → q + 4 ≤ p → next_at s q ≤ p → Comes s p

-- where a record is all there, one is found or refused
abbrev Judged : Result Found Fault → Type 0
Judged (Ok found.End) = ⊥
Judged (Ok found.Part) = ⊥
Judged (Ok (found.Record x next)) = Unit
Judged (Err f) = Unit

module _ (s : List ℕ) (at : ℕ) (a : at + 4 ≤ next_at s at) (w : next_at s at ≤ length s) where
  judged : (room : ℕ) (event : Bool) → Judged (found_at s at room event false)
  judged room event =
      subst Judged (found_whole s at room event true (omega arith) w ∙ sym (found_whole s at room event false (omega arith) w))
      (found_has Judged s at room event true (λ e. true≢false e) by_awaited (λ f. tt) (λ w k t r. tt) (λ w k t u. tt) (λ w t. tt))
    where
      by_awaited : Awaited s at → ⊥
      by_awaited (of_head h) = absurd (omega arith)
      by_awaited (of-event h r) = absurd (omega arith)
      by_awaited (of-card h r) = absurd (omega arith)

  -- from there playing comes to the next, or not past what stands there
  events_come : (l : Attached) → Reached s l at → Comes s (next_at s at)
  events_come l r = by_found (found_at s at (room_for l.count) true false) refl
    where
      by_said : (x : Record) (next : ℕ) → found_at s at (room_for l.count) true false ≡ Ok (found.Record x next) → (y : Said) → (record_step s x l).said ≡ y → Comes s (next_at s at)
      by_said x next e (bits bs) b = subst (Comes s) (sym (ends-by s at (room_for l.count) true false x next e)) (to_events (record_step s x l).line (onto x next bs r e b))
      by_said x next e (none n) b = not_there n at (in_events l x next r e b) a (omega arith)

      by_found : (x : Result Found Fault) → found_at s at (room_for l.count) true false ≡ x → Comes s (next_at s at)
      by_found (Ok found.End) e = absurd (subst Judged e (judged (room_for l.count) true))
      by_found (Ok found.Part) e = absurd (subst Judged e (judged (room_for l.count) true))
      by_found (Ok (found.Record x next)) e = by_said x next e (record_step s x l).said refl
      by_found (Err f) e = not_there (number_of_fault f) at (in_record l f r e refl) a (omega arith)

  -- so does reading the card
  card_comes : (t : Table) → CardReached s t at → Comes s (next_at s at)
  card_comes t r = by_kind (starts_event s at) refl
    where
      by_found : starts_event s at ≡ false → (x : Result Found Fault) → found_at s at (room_for t.n) false false ≡ x → Comes s (next_at s at)
      by_found n (Ok found.End) e = absurd (subst Judged e (judged (room_for t.n) false))
      by_found n (Ok found.Part) e = absurd (subst Judged e (judged (room_for t.n) false))
      by_found n (Ok (found.Record (record_of.Chip code kind) next)) e =
          subst (Comes s) (sym (ends-by s at (room_for t.n) false false _ next e)) (to_card (joined (set_up_chip code kind) t) (chip code kind next r e))
      by_found n (Ok (found.Record (record_of.Slots count from to) next)) e = absurd (true≢false (sym (found_starts s at (room_for t.n) false false _ next e) ∙ n))
      by_found n (Ok (found.Record (record_of.Event x) next)) e = absurd (true≢false (sym (found_starts s at (room_for t.n) false false _ next e) ∙ n))
      by_found n (Err f) e = not_there (number_of_fault f) at (in_card t f r n e refl) a (omega arith)

      by_kind : (b : Bool) → starts_event s at ≡ b → Comes s (next_at s at)
      by_kind true e = events_come (set_up_line t) (card r e)
      by_kind false e = by_found e (found_at s at (room_for t.n) false false) refl

  -- and what ended before stays ended
  next_comes : Comes s at → Comes s (next_at s at)
  next_comes (to_card t r) = card_comes t r
  next_comes (to_events l r) = events_come l r
  next_comes (not_there r q f h g) = not_there r q f (omega arith) (omega arith)

-- so for every record
comes : (s : List ℕ) (p : ℕ) → RecordStarts s p → Comes s p
comes s p at_first = to_card (blank_table 0) first
comes s p (at_next {at = at} h a w) = next_comes s at a w (comes s at h)

-- the cut ----------------------------------------------------------------------------------------------------

-- a run of slots that is found at an offset can be cut there after k bits
abbrev Cuts : List ℕ → ℕ → Result Found Fault → Type 0
Cuts s p (Ok found.End) = Unit
Cuts s p (Ok found.Part) = Unit
Cuts s p (Ok (found.Record (record_of.Chip code kind) next)) = Unit
Cuts s p (Ok (found.Record (record_of.Slots count from to) next)) =
    let hs = host_bits count (take (to - from) (drop from s)) in
    (k : ℕ) → k ≤ count → playback (take p s ++ (slots_bytes (take k hs) ++ (slots_bytes (drop k hs) ++ drop next s))) ≡ place_moved p (bytes_added k hs) (playback s)
Cuts s p (Ok (found.Record (record_of.Event e) next)) = Unit
Cuts s p (Err f) = Unit

module _ (s : List ℕ) (p : ℕ) (w : p ≤ length s) (room : ℕ) (event more : Bool) where
  -- where nothing of what comes before is held back
  cut_there : Bytes s → (hand_piece true (take p s) start).held ≡ [] → Cuts s p (found_at s p room event more)
  cut_there b e =
      subst (Cuts s p) (sym (found_moved s p w 0 room event more) ∙ ap (λ (x : ℕ). found_at s x room event more) (add-zero p))
      (by_found (found_at (drop p s) 0 room event more) refl)
    where
      by_found : (x : Result Found Fault) → found_at (drop p s) 0 room event more ≡ x → Cuts s p (moved p x)
      by_found (Ok found.End) f = tt
      by_found (Ok found.Part) f = tt
      by_found (Ok (found.Record (record_of.Chip code kind) next)) f = tt
      by_found (Ok (found.Record (record_of.Slots count from to) next)) f = λ k h.
          let m : to - from ≡ p + to - (p + from) = omega arith in
          let d : take (to - from) (drop from (drop p s)) ≡ take (p + to - (p + from)) (drop (p + from) s) = λ j. take (m j) (drop-drop from p s j) in
          let two : List Bool → List ℕ → List ℕ = λ hs later. take p s ++ (slots_bytes (take k hs) ++ (slots_bytes (drop k hs) ++ later)) in
          (λ j. playback (two (host_bits count (sym d j)) (sym (drop-drop next p s) j)))
          ∙ taken_cut (take p s) (drop p s) count from to next room event more (drop_bytes p s b) e f k h
          ∙ (λ j. place_moved (length-take-le p s w j) (bytes_added k (host_bits count (d j))) (playback (take-append-drop p s j)))
      by_found (Ok (found.Record (record_of.Event v) next)) f = tt
      by_found (Err g) f = tt

-- the place of a refusal before the run is not moved
not_moved : (s : List ℕ) (p r q n : ℕ) → Faulty s r q → q ≤ p → playback s ≡ place_moved p n (playback s)
not_moved s p r q n f a =
    let o = playback s in
    let e = ((playback_refused s r q).1 f).1 in
    λ j. played o.answers o.ends (sym (pick_false (ltb p o.at) (n + o.at) o.at (le-ltb p o.at (omega arith))) j) o.line

-- THEOREM: in every recording of bytes, a run of slots that stands where a record starts can be cut into two records after any of its bits, before
-- the first and after the last counted in: the answers, the end or refusal and the line left are the same, and a place after the run's first byte
-- comes as many bytes later as were added
pub run_cut : (s : List ℕ) (p count from to next room : ℕ) (event more : Bool) → Bytes s → RecordStarts s p
    → found_at s p room event more ≡ Ok (found.Record (record_of.Slots count from to) next) → let hs = host_bits count (take (to - from) (drop from s)) in (k : ℕ) → k ≤ count
    → playback (take p s ++ (slots_bytes (take k hs) ++ (slots_bytes (drop k hs) ++ drop next s))) ≡ place_moved p (bytes_added k hs) (playback s)
run_cut s p count from to next room event more b r e k h = by_way (comes s p r)
  where
    w : p ≤ length s
    w =
        let i = found_lies s p room event more (record_of.Slots count from to) next e in
        let a = i.further in
        let c = i.within in
        omega arith

    hs : List Bool
    hs = host_bits count (take (to - from) (drop from s))

    two : List ℕ
    two = slots_bytes (take k hs) ++ (slots_bytes (drop k hs) ++ drop next s)

    by_reached : (l : Attached) → Reached s l p → playback (take p s ++ two) ≡ place_moved p (bytes_added k hs) (playback s)
    by_reached l g = subst (Cuts s p) e (cut_there s p w room event more b (none_held s p w l g)) k h

    by_way : Comes s p → playback (take p s ++ two) ≡ place_moved p (bytes_added k hs) (playback s)
    by_way (to_card t g) = by_reached (set_up_line t) (card g (found_starts s p room event more (record_of.Slots count from to) next e))
    by_way (to_events l g) = by_reached l g
    by_way (not_there n q f a g) = after_fault s p w n q f a g two ∙ not_moved s p n q (bytes_added k hs) f (omega arith)
