-- The calls of Called.antt can be made: each has an outcome that its contract permits, whatever is lent and however long it lives.
use Rattle.std.specs.Prelude.{ℕ, ◌*◌, Bool, true, false, List, [], ◌∷◌, ◌++◌, ◌≡◌, refl, eqb, length, drop, replicate, Result, Ok, Err}
use Rattle.std.proofs.Common.{ap}
use contract.Lifetimes.{Lfts}
use Rattle.std.proofs.lemmas.List.{length-replicate}
use Rattle.base.specs.Lent.{lent_as, lent_to_change}
use Rattle.base.specs.Pick.{pick_both}
use Rattle.line.specs.Attached.{Attached}
use Rattle.line.specs.Tables.{blank_table}
use Rattle.line.specs.declared.Refusal.TheVariants as refusal-of
use Rattle.line.specs.declared.Table.{Table}
use Rattle.recording.specs.declared.Fault.{Fault}
use Rattle.recording.specs.Reading.{found_at}
use Rattle.recording.specs.Cards.{cards_read, cards_of}
use Rattle.recording.specs.Playing.{Ends, refusal, ends_of, Said, bits, none, record_step, play_all, Handed, handed, play_of, set_up_line}
use Rattle.recording.specs.declared.CardsEnding.{CardsEnding}
use Rattle.recording.specs.declared.CardsEnding.TheVariants as cards
use Rattle.recording.specs.declared.CardsRead.{CardsRead}
use Rattle.recording.specs.declared.Ending.{Ending}
use Rattle.recording.specs.declared.Ending.TheVariants as ending
use Rattle.recording.specs.declared.Fault.TheVariants as fault
use Rattle.recording.specs.declared.Found.{Found}
use Rattle.recording.specs.declared.Found.TheVariants as found
use Rattle.played.specs.Handed.{Stage, carding, playing, over, Hand, hand}
use Rattle.played.specs.LineRefusals.{RefusalFor, record_refusal}
use Rattle.played.specs.Stops.{StopsBy, Stops, play_stops}
use Rattle.played.specs.Called.{CardsCall, Back, back, PlayCall, play_tells, PlayedBack, card_alone, with_events, Heard, HandCalled, in_card, past_card, in_events, when_over, AllCalled, ends_with, goes-on}

-- ---- how playing ends is how the code can say it

-- an ending that the code has
abbrev EndingFor : Ends → Type 0
EndingFor x = (e : Result Ending Fault) × (ends_of e ≡ x)

-- at every offset
ending_stops : (more : Bool) (s : List ℕ) (at room : ℕ) (event : Bool) → Stops (λ x p. EndingFor x) s at (found_at s at room event more)
ending_stops more s at room event = by_found (found_at s at room event more)
  where
    by_said : (x : Said) → RefusalFor x → StopsBy (λ y p. EndingFor y) at x
    by_said (bits bs) f = tt
    by_said (none n) f = ((Err (fault.OnLine f.0)), ap (λ (k : ℕ). refusal k) f.1)

    by_found : (x : Result Found Fault) → Stops (λ y p. EndingFor y) s at x
    by_found (Ok found.End) = ((Ok ending.End), refl)
    by_found (Ok found.Part) = ((Ok ending.Part), refl)
    by_found (Ok (found.Record r next)) = λ l. by_said (record_step s r l).said (record_refusal s r l)
    by_found (Err f) = ((Err f), refl)

-- of all that is there, and of the player on any text
all_ending : (more : Bool) (s : List ℕ) (l : Attached) → EndingFor (play_all more s l).ends
all_ending more s l = play_stops more s (λ x p. EndingFor x) (λ at room event h. ending_stops more s at room event) l

play_ending : (more : Bool) (s out : List ℕ) (l : Attached) → EndingFor (play_of more s out l).ends
unfolding play_of
play_ending more s out l =
    pick_both (λ (h : Handed). EndingFor h.ends) (eqb (length out) (8 * length s)) _ _ (all_ending more s l) ((Err (fault.OnLine refusal-of.WrongSize)), refl)

-- ---- the calls

-- THEOREM: every call of `read_cards`, and every call of `play`, has an outcome that its contract permits
pub some_cards : Lfts 1 → (more : Bool) (s : List ℕ) (t : Table) → CardsCall more s t (cards_of more s t)
some_cards κs more s t = record { κs = κs; bytes = lent_as s; from_bytes = refl; permits = refl }

pub some_play : Lfts 4 → (more : Bool) (s out : List ℕ) (l : Attached) → (b : Back) × PlayCall more s out l b
some_play κs more s out l =
    let o = play_of more s out l in
    let q = play_ending more s out l in (
      back q.0 o.at o.number o.text o.line,
      record {
        κs = κs;
        bytes = lent_as s;
        text = lent_to_change out;
        images = lent_to_change l.lent.images;
        pads = lent_to_change l.lent.pads;
        from_bytes = refl;
        from_text = refl;
        from_images = refl;
        from_pads = refl;
        permits = λ j. handed (q.1 j) o.at o.number o.text o.line;
      },
    )

-- a text of eight places for each byte
abbrev blank_text : List ℕ → List ℕ
blank_text s = replicate (8 * length s) 0

blank_room : (s : List ℕ) → length (blank_text s) ≡ 8 * length s
blank_room s = length-replicate {A = ℕ} (8 * length s) 0

module _ (κs : Lfts 1) (κs' : Lfts 4) where
  -- THEOREM: every recording can be played back by calls
  pub some_playback : (s : List ℕ) → (out : List ℕ) × (b : Back) × PlayedBack s out b
  some_playback s = by_ending c.ending c.at c.table (some_cards κs false s (blank_table 0))
    where
      c : CardsRead
      c = cards_of false s (blank_table 0)

      by_ending : (e : CardsEnding) (at : ℕ) (t : Table) → CardsCall false s (blank_table 0) (cards_read e at t) → (out : List ℕ) × (b : Back) × PlayedBack s out b
      by_ending cards.Events at t d =
          let q = some_play κs' false (drop at s) (blank_text (drop at s)) (set_up_line t) in
          (blank_text (drop at s), _, with_events d (blank_room (drop at s)) q.1)
      by_ending (cards.Stopped e) at t d = ([], _, card_alone d)

  -- a text, a call of `play` on it, and the answers heard
  some_heard : (more : Bool) (s : List ℕ) (l : Attached) → (b : Back) × Heard more s l (play_all more s l).answers b
  some_heard more s l =
      let q = some_play κs' more s (blank_text s) l in
      (q.0, record { out = blank_text s; room = blank_room s; call = q.1; heard = (play_tells more s (blank_text s) l q.0 (blank_room s) q.1).answers })

  -- THEOREM: every piece can be handed over by calls, wherever the recording has come, and so can every recording in pieces
  pub some_piece : (more : Bool) (p : List ℕ) (h : Hand) → (k : Hand) × HandCalled more p h k
  some_piece more p h = by_stage h.stage
    where
      s : List ℕ
      s = h.held ++ p

      in_card_by : (t : Table) (e : CardsEnding) (at : ℕ) (u : Table) → CardsCall more s t (cards_read e at u)
          → (k : Hand) × HandCalled more p (hand (carding t) h.held h.taken h.answers) k
      in_card_by t cards.Events at u d = (_, past_card d (some_heard more (drop at s) (set_up_line u)).1)
      in_card_by t (cards.Stopped e) at u d = (_, in_card d)

      by_stage : (g : Stage) → (k : Hand) × HandCalled more p (hand g h.held h.taken h.answers) k
      by_stage (carding t) = let c = cards_of more s t in in_card_by t c.ending c.at c.table (some_cards κs more s t)
      by_stage (playing l) = (_, in_events (some_heard more s l).1)
      by_stage (over e l) = (_, when_over)

  pub some_pieces : (p : List ℕ) (ps : List (List ℕ)) (h : Hand) → (k : Hand) × AllCalled (p ∷ ps) h k
  some_pieces p [] h = let q = some_piece false p h in (q.0, ends_with q.1)
  some_pieces p (r ∷ ps) h =
      let q = some_piece true p h in
      let x = some_pieces r ps q.0 in
      (x.0, goes-on q.1 x.1)
