-- The recordings of document 02, M-103: how one is cut into the pieces in which it is handed over changes nothing.
use Rattle.std.specs.Prelude.{ℕ, suc, ◌+◌, Bool, ◌≡◌, refl, length, drop, Ok, Err}
use Rattle.std.proofs.Common.{zero-add, add_assoc, arith, ◌∙◌, ap, sym, drop-drop}
use Rattle.std.proofs.Math.Bool.{true, false}
use mathlib.Core.List.{List, [], ◌∷◌, ◌++◌, append_assoc, flatten}
use Rattle.std.proofs.lemmas.List.{drop-append-le}
use Rattle.line.specs.Attached.{Attached}
use Rattle.line.specs.Tables.{blank_table}
use Rattle.line.specs.declared.Table.{Table}
use Rattle.recording.specs.Cards.{cards_of}
use Rattle.recording.specs.Playing.{Ends, ended, part, refusal, ends_of, Played, played, play_all, set_up_line, after_cards, playback}
use Rattle.recording.specs.declared.Ending.TheVariants as ending
use Rattle.recording.specs.declared.CardsEnding.{CardsEnding}
use Rattle.recording.specs.declared.CardsEnding.TheVariants as cards
use Rattle.recording.specs.declared.CardsRead.{CardsRead}
use Rattle.played.specs.Handed.{Stage, carding, playing, over, Hand, hand, start, stage_after, hand_after, card_after, hand_bytes, hand_piece, hand_all, came_to}
use Rattle.played.specs.Resumed.{Resumes, Resumed, play_resumed, CardsResume, CardsResumed, cards_resumed}

-- what the bytes at hand and the rest come to
abbrev pub whole_from : Hand → List ℕ → Played
whole_from h rest = came_to (hand_piece false rest h)

-- what was played of the bytes at hand comes to what it is, after the answers and the bytes before it
pub came_after : (s : List ℕ) (n : ℕ) (bs : List Bool) (p : Played) → came_to (hand_after s n bs p) ≡ played (bs ++ p.answers) p.ends (n + p.at) p.line
came_after s n bs p = by_end p.ends
  where
    by_end : (e : Ends) → came_to (hand (stage_after e p.line) (drop p.at s) (n + p.at) (bs ++ p.answers)) ≡ played (bs ++ p.answers) e (n + p.at) p.line
    by_end ended = refl
    by_end part = refl
    by_end (refusal r) = refl

-- all that is there, then the rest, is all with the rest
played_resumed : (more : Bool) (s t : List ℕ) (l : Attached) → Resumed more s t (play_all true s l) (play_all more (s ++ t) l)
unfolding play_all
played_resumed more s t l = play_resumed more s t (suc (length s)) (suc (length (s ++ t))) 0 l (omega arith) (omega arith) (omega arith)

-- and so for a card
cards_resumed_all : (more : Bool) (s t : List ℕ) (u : Table) → CardsResumed more s t (cards_of true s u) (cards_of more (s ++ t) u)
unfolding cards_of
cards_resumed_all more s t u = cards_resumed more s t (suc (length s)) (suc (length (s ++ t))) 0 u (omega arith) (omega arith) (omega arith)

module _ (rest s : List ℕ) where
  -- in the events
  play_whole : (n : ℕ) (bs : List Bool) (l : Attached) → whole_from (hand_after s n bs (play_all true s l)) rest ≡ came_to (hand_after (s ++ rest) n bs (play_all false (s ++ rest) l))
  unfolding hand_piece
  play_whole n bs l = by_end p.answers p.ends p.at p.line (played_resumed false s rest l)
    where
      p : Played
      p = play_all true s l

      q : Played
      q = play_all false (s ++ rest) l

      by_end : (cs : List Bool) (e : Ends) (at : ℕ) (m : Attached) → Resumes false s rest cs e at m q
          → whole_from (hand (stage_after e m) (drop at s) (n + at) (bs ++ cs)) rest ≡ came_to (hand_after (s ++ rest) n bs q)
      by_end cs ended at m r = absurd r
      by_end cs part at m r =
          let o = play_all false (drop at s ++ rest) m in
          came_after (drop at s ++ rest) (n + at) (bs ++ cs) o
          ∙ (λ j. played (append_assoc bs cs o.answers j) o.ends (add_assoc n at o.at j) o.line)
          ∙ sym (came_after (s ++ rest) n bs q ∙ ap (λ (x : Played). played (bs ++ x.answers) x.ends (n + x.at) x.line) r.1)
      by_end cs (refusal f) at m r = sym (came_after (s ++ rest) n bs q ∙ ap (λ (x : Played). played (bs ++ x.answers) x.ends (n + x.at) x.line) r)

-- what a card comes to where it was read further on
card_further : (s : List ℕ) (n : ℕ) (bs : List Bool) (k at : ℕ) (u : Table) (e : CardsEnding) → came_to (card_after false (drop k s) (n + k) bs at u e) ≡ came_to (card_after false s n bs (k + at) u e)
card_further s n bs k at u cards.Events = λ j. came_to (hand_after (drop-drop at k s j) (add_assoc n k at j) bs (play_all false (drop-drop at k s j) (set_up_line u)))
card_further s n bs k at u (cards.Stopped (Ok ending.End)) = λ j. played bs ended (add_assoc n k at j) (set_up_line u)
card_further s n bs k at u (cards.Stopped (Ok ending.Part)) = λ j. played bs part (add_assoc n k at j) (set_up_line u)
card_further s n bs k at u (cards.Stopped (Err f)) = λ j. played bs (ends_of (Err f)) (add_assoc n k at j) (set_up_line u)

-- in the card
card_whole : (rest s : List ℕ) (n : ℕ) (bs : List Bool) (u : Table) → whole_from (hand_bytes true s n bs (carding u)) rest ≡ came_to (hand_bytes false (s ++ rest) n bs (carding u))
unfolding hand_piece
card_whole rest s n bs u = by_ending c.ending c.at c.table (cards_resumed_all false s rest u)
  where
    c : CardsRead
    c = cards_of true s u

    q : CardsRead
    q = cards_of false (s ++ rest) u

    came : CardsRead → Played
    came d = came_to (card_after false (s ++ rest) n bs d.at d.table d.ending)

    by_ending : (e : CardsEnding) (at : ℕ) (v : Table) → CardsResume false s rest e at v q → whole_from (card_after true s n bs at v e) rest ≡ came q
    by_ending cards.Events at v r =
        play_whole rest (drop at s) (n + at) bs (set_up_line v)
        ∙ ap (λ (x : List ℕ). came_to (hand_after x (n + at) bs (play_all false x (set_up_line v)))) (sym (drop-append-le at s rest r.0))
        ∙ ap came (sym r.1)
    by_ending (cards.Stopped (Ok ending.End)) at v r = absurd r
    by_ending (cards.Stopped (Ok ending.Part)) at v r =
        let o = cards_of false (drop at s ++ rest) v in
        ap (λ (x : List ℕ). came_to (card_after false x (n + at) bs o.at o.table o.ending)) (sym (drop-append-le at s rest r.0))
        ∙ card_further (s ++ rest) n bs at o.at o.table o.ending
        ∙ ap came (sym r.1)
    by_ending (cards.Stopped (Err f)) at v r = ap came (sym r)

-- a piece and then the rest is the piece with the rest, wherever the recording has come
pub piece_whole : (h : Hand) (p rest : List ℕ) → whole_from (hand_piece true p h) rest ≡ whole_from h (p ++ rest)
unfolding hand_piece
piece_whole h p rest =
    by_stage h.stage ∙ ap (λ (x : List ℕ). came_to (hand_bytes false x h.taken h.answers h.stage)) (append_assoc h.held p rest)
  where
    s : List ℕ
    s = h.held ++ p

    by_stage : (g : Stage) → whole_from (hand_bytes true s h.taken h.answers g) rest ≡ came_to (hand_bytes false (s ++ rest) h.taken h.answers g)
    by_stage (carding u) = card_whole rest s h.taken h.answers u
    by_stage (playing l) = play_whole rest s h.taken h.answers l
    by_stage (over e l) = refl

-- pieces one after the other are one
pieces_whole : (ps : List (List ℕ)) (h : Hand) → came_to (hand_all ps h) ≡ whole_from h (flatten ps)
unfolding flatten
pieces_whole [] h = refl
pieces_whole (p ∷ ps) h = pieces_whole ps (hand_piece true p h) ∙ piece_whole h p (flatten ps)

-- in one piece it is played back
pub one_piece : (s : List ℕ) → whole_from start s ≡ playback s
unfolding hand_piece playback
one_piece s = by_ending c.at c.table c.ending
  where
    c : CardsRead
    c = cards_of false s (blank_table 0)

    by_ending : (at : ℕ) (u : Table) (e : CardsEnding) → came_to (card_after false s 0 [] at u e) ≡ after_cards s at u e
    by_ending at u cards.Events =
        let p = play_all false (drop at s) (set_up_line u) in
        came_after (drop at s) (0 + at) [] p ∙ (λ j. played p.answers p.ends (zero-add at j + p.at) p.line)
    by_ending at u (cards.Stopped (Ok ending.End)) = λ j. played [] ended (zero-add at j) (set_up_line u)
    by_ending at u (cards.Stopped (Ok ending.Part)) = λ j. played [] part (zero-add at j) (set_up_line u)
    by_ending at u (cards.Stopped (Err f)) = λ j. played [] (ends_of (Err f)) (zero-add at j) (set_up_line u)

-- THEOREM: handed over in pieces cut at any byte, a recording plays as in one
pub pieces_as_one : (ps : List (List ℕ)) → came_to (hand_all ps start) ≡ playback (flatten ps)
pieces_as_one ps = pieces_whole ps start ∙ one_piece (flatten ps)
