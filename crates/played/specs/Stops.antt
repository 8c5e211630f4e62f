-- Laws: what holds at every offset where playing, or reading a card, may stop holds of how and where it ends.
use Prim.Native.Nat.{ℕ, zero, suc, ◌+◌, ◌<◌, ◌≤◌}
use Rattle.std.proofs.Common.{arith}
use Rattle.std.specs.Prelude.{Bool, List, length, Result, Ok, Err}
use Rattle.std.proofs.Math.Bool.{true, false}
use Rattle.base.specs.Pick.{pick_both}
use Rattle.chip.specs.Chip.{set_up_chip}
use Rattle.line.specs.Attached.{Attached}
use Rattle.line.specs.Tables.{joined}
use Rattle.line.specs.declared.Table.{Table}
use Rattle.recording.specs.declared.Fault.{Fault}
use Rattle.recording.specs.Reading.{number_of_fault, found_at, starts_event}
use Rattle.recording.specs.Cards.{room_for, cards_on, cards_from, cards_of}
use Rattle.recording.specs.Playing.{Ends, ended, part, refusal, ends_of, Said, bits, none, record_step, Played, on_step, play_on, play_from, play_all}
use Rattle.recording.specs.Next.{Sound, found_sound}
use Rattle.recording.specs.declared.CardsEnding.{CardsEnding}
use Rattle.recording.specs.declared.CardsEnding.TheVariants as cards
use Rattle.recording.specs.declared.CardsRead.{CardsRead}
use Rattle.recording.specs.declared.Record.TheVariants as record_of
use Rattle.recording.specs.declared.Found.{Found}
use Rattle.recording.specs.declared.Found.TheVariants as found

-- a card ends where the events begin
abbrev pub card_ends : CardsEnding → Ends
card_ends cards.Events = ended
card_ends (cards.Stopped e) = ends_of e

-- a property of how it ends and where, at a record whose events answer so: they stop it only by a refusal
abbrev pub StopsBy : (Ends → ℕ → Type 0) → ℕ → Said → Type 0
StopsBy P at (bits bs) = Unit
StopsBy P at (none r) = P (refusal r) at

-- and at whatever stands at an offset
abbrev pub Stops : (Ends → ℕ → Type 0) → List ℕ → ℕ → Result Found Fault → Type 0
Stops P s at (Ok found.End) = P ended at
Stops P s at (Ok found.Part) = P part at
Stops P s at (Ok (found.Record r next)) = (l : Attached) → StopsBy P at (record_step s r l).said
Stops P s at (Err f) = P (refusal (number_of_fault f)) at

-- where every refusal has it, so has that of a record
pub by_any : (P : Ends → ℕ → Type 0) (at : ℕ) → ((r : ℕ) → P (refusal r) at) → (x : Said) → StopsBy P at x
by_any P at h (bits bs) = tt
by_any P at h (none r) = h r

module _ (more : Bool) (s : List ℕ) (P : Ends → ℕ → Type 0) (stops : (at room : ℕ) (over : Bool) → at ≤ length s → Stops P s at (found_at s at room over more)) where
  -- by what stands at an offset
  play-on : (at : ℕ) (l : Attached) (go : ℕ → Attached → Played) → ((next : ℕ) (m : Attached) → at < next → next ≤ length s → P (go next m).ends (go next m).at)
      → (x : Result Found Fault) → Sound s at x → Stops P s at x → P (play_on go s at l x).ends (play_on go s at l x).at
  play-on at l go on (Ok found.End) i h = h
  play-on at l go on (Ok found.Part) i h = h
  play-on at l go on (Ok (found.Record r next)) i h = by_said (record_step s r l).said (record_step s r l).line (h l)
    where
      by_said : (x : Said) (m : Attached) → StopsBy P at x → P (on_step go at next x m).ends (on_step go at next x m).at
      by_said (bits bs) m f = on next m (let a = i.further in omega arith) i.within
      by_said (none n) m f = f
  play-on at l go on (Err f) i h = h

  -- from an offset on, over as many records as there may be
  play-from : (k at : ℕ) (l : Attached) → at ≤ length s → length s < at + k → P (play_from k more s at l).ends (play_from k more s at l).at
  unfolding play_from
  play-from zero at l h a = absurd (omega arith)
  play-from (suc k) at l h a =
      let room = room_for l.count in
      play-on at l _ (λ next m p q. play-from k next m q (omega arith)) (found_at s at room true more) (found_sound s at room true more) (stops at room true h)

  -- all that is there
  pub play_stops : (l : Attached) → P (play_all more s l).ends (play_all more s l).at
  unfolding play_all
  play_stops l = play-from (suc (length s)) 0 l (omega arith) (omega arith)

  -- the same of a card, where the beginning of the events has the property
  module _ (begins : (at : ℕ) → at ≤ length s → P ended at) where
    cards-on : (at : ℕ) (t : Table) (go : ℕ → Table → CardsRead) → at ≤ length s
        → ((next : ℕ) (u : Table) → at < next → next ≤ length s → P (card_ends (go next u).ending) (go next u).at)
        → (x : Result Found Fault) → Sound s at x → Stops P s at x → P (card_ends (cards_on go at t x).ending) (cards_on go at t x).at
    cards-on at t go a on (Ok found.End) i h = h
    cards-on at t go a on (Ok found.Part) i h = h
    cards-on at t go a on (Ok (found.Record (record_of.Chip code kind) next)) i h = on next (joined (set_up_chip code kind) t) (let b = i.further in omega arith) i.within
    cards-on at t go a on (Ok (found.Record (record_of.Slots count from to) next)) i h = begins at a
    cards-on at t go a on (Ok (found.Record (record_of.Event e) next)) i h = begins at a
    cards-on at t go a on (Err f) i h = h

    cards-from : (k at : ℕ) (t : Table) → at ≤ length s → length s < at + k → P (card_ends (cards_from k more s at t).ending) (cards_from k more s at t).at
    unfolding cards_from
    cards-from zero at t h a = absurd (omega arith)
    cards-from (suc k) at t h a =
        let room = room_for t.n in
        pick_both (λ (c : CardsRead). P (card_ends c.ending) c.at) (starts_event s at) _ _ (begins at h)
        (cards-on at t (λ (next : ℕ) (u : Table). cards_from k more s next u) h (λ next u p q. cards-from k next u q (omega arith)) (found_at s at room false more) (found_sound s at room false more) (stops at room false h))

    pub cards_stop : (t : Table) → P (card_ends (cards_of more s t).ending) (cards_of more s t).at
    unfolding cards_of
    cards_stop t = cards-from (suc (length s)) 0 t (omega arith) (omega arith)
