-- The recordings of document 02, M-103, by calls: whoever calls `recording::read_cards` and `recording::play`, each with an outcome that its own
-- contract permits, is told what is played back, of a recording in one piece and in pieces.
use Rattle.std.specs.Prelude.{ℕ, ◌+◌, ◌*◌, ◌≤◌, Bool, true, false, ◌≡◌, refl, length, take, drop, Result, Ok, Err}
use Rattle.std.proofs.Common.{arith, ◌∙◌, ap, sym, eq-eqb}
use mathlib.Core.List.{List, [], ◌∷◌, ◌++◌, map, flatten, append-nil}
use contract.Lifetimes.{Lfts}
use Rattle.std.specs.Borrow.{Bor, MutBor}
use denote.Triple.Clauses.{at_exit}
use Rattle.base.specs.Pick.{pick_true}
use Rattle.line.specs.Attached.{Attached, attached}
use Rattle.line.specs.Tables.{blank_table}
use Rattle.line.specs.declared.Table.{Table}
use Rattle.recording.specs.declared.Fault.{Fault}
use Rattle.recording.specs.Cards.{cards_read, cards_of}
use Rattle.recording.specs.Playing.{Ends, ends_of, Played, played, play_all, digit, Handed, handed, handed_from, play_of, set_up_line, further, after_cards, playback}
use Rattle.recording.specs.declared.Ending.{Ending}
use Rattle.recording.specs.declared.Ending.TheVariants as ending
use Rattle.recording.specs.declared.CardsEnding.TheVariants as cards
use Rattle.recording.specs.declared.CardsRead.{CardsRead}
use Rattle.recording.specs.contracts.read_cards as read-cards
use Rattle.recording.proofs.read_cards.Reads as read-cards-reads
use Rattle.recording.specs.contracts.play as play
use Rattle.recording.proofs.play.Reads as play-reads
use Rattle.played.specs.Handed.{Stage, carding, playing, over, Hand, hand, start, hand_after, card_after, hand_bytes, hand_piece, came_to}
use Rattle.played.specs.Pieces.{whole_from, piece_whole, one_piece}
use Rattle.played.specs.Texts.{answers_few, text_first, text_rest, digits_once}

-- ---- a call of each

-- `recording::read_cards`: the bytes lie anywhere, and the contract permits what comes back
pub record CardsCall (more : Bool) (s : List ℕ) (t : Table) (back : CardsRead) : Type 2 where
  pub κs : Lfts 1
  pub bytes : Bor (List ℕ)
  pub from_bytes : bytes.now ≡ s
  pub permits : read-cards-reads.Learnt κs (t, (bytes, (more, tt))) back (at_exit read-cards.ended κs (t, (bytes, (more, tt))) (tt, (tt, (tt, tt))))

-- what comes back is the card
pub cards_is : (more : Bool) (s : List ℕ) (t : Table) (back : CardsRead) → CardsCall more s t back → back ≡ cards_of more s t
cards_is more s t back c = c.permits ∙ λ j. cards_of more (c.from_bytes j) t

-- what the caller of `recording::play` is left with: how it ended and where, the number of answers, the text, and the table with its buffers
pub record Back : Type 0 where
  pub ending : Result Ending Fault
  pub at : ℕ
  pub number : ℕ
  pub text : List ℕ
  pub line : Attached

abbrev pub back : Result Ending Fault → ℕ → ℕ → List ℕ → Attached → Back
back e at n text l = record { ending = e; at = at; number = n; text = text; line = l }

-- a caller's table, by value
abbrev table_of : Attached → Table
table_of l = record { n = l.count; chips = l.lent.chips }

-- `recording::play`: what is lent lies anywhere, and the contract permits what is handed back and what text and buffers hold then
pub record PlayCall (more : Bool) (s out : List ℕ) (l : Attached) (b : Back) : Type 2 where
  pub κs : Lfts 4
  pub bytes : Bor (List ℕ)
  pub text : MutBor (List ℕ)
  pub images : MutBor (List ℕ)
  pub pads : MutBor (List ℕ)
  pub from_bytes : bytes.now ≡ s
  pub from_text : text.now ≡ out
  pub from_images : images.now ≡ l.lent.images
  pub from_pads : pads.now ≡ l.lent.pads
  pub permits : play-reads.Learnt κs (table_of l, (bytes, (more, (text, (images, (pads, tt))))))
      (record { ending = b.ending; at = b.at; answers = b.number; table = table_of b.line })
      (at_exit play.ended κs (table_of l, (bytes, (more, (text, (images, (pads, tt)))))) (tt, (tt, (tt, (b.text, (b.line.lent.images, (b.line.lent.pads, tt)))))))

-- what comes back is what the player hands back
pub play_is : (more : Bool) (s out : List ℕ) (l : Attached) (b : Back) → PlayCall more s out l b
    → handed (ends_of b.ending) b.at b.number b.text b.line ≡ play_of more s out l
play_is more s out l b c =
    c.permits ∙ λ j. play_of more (c.from_bytes j) (c.from_text j) (attached l.count l.lent.chips (c.from_images j) (c.from_pads j))

-- ---- what a caller is told

-- that it is what was played: the ending, the offset, the number of answers, their characters first in the text and the rest of it as it was, and the line
pub record Tells (p : Played) (out : List ℕ) (b : Back) : Type 0 where
  pub ends : ends_of b.ending ≡ p.ends
  pub at : b.at ≡ p.at
  pub number : b.number ≡ length p.answers
  pub answers : take b.number b.text ≡ map digit p.answers
  pub rest : drop b.number b.text ≡ drop b.number out
  pub line : b.line ≡ p.line

-- `play` on a text of eight places for each byte tells what was played of the bytes
pub play_tells : (more : Bool) (s out : List ℕ) (l : Attached) (b : Back) → length out ≡ 8 * length s → PlayCall more s out l b → Tells (play_all more s l) out b
unfolding play_of
play_tells more s out l b r c =
    let p = play_all more s l in
    let o : handed (ends_of b.ending) b.at b.number b.text b.line ≡ handed_from out p
    = play_is more s out l b c ∙ pick_true _ _ _ (eq-eqb (length out) (8 * length s) r) in
    let few = answers_few more s l in
    let h : length p.answers ≤ length out = omega arith in
    record {
      ends = ap (λ (x : Handed). x.ends) o;
      at = ap (λ (x : Handed). x.at) o;
      number = ap (λ (x : Handed). x.number) o;
      answers = ap (λ (x : Handed). take x.number x.text) o ∙ text_first p.answers out h;
      rest =
          ap (λ (x : Handed). drop x.number x.text) o ∙ text_rest p.answers out h
          ∙ ap (λ (x : Handed). drop x.number out) (sym o);
      line = ap (λ (x : Handed). x.line) o;
    }

-- ---- a recording in one piece

-- the calls of a whole recording, with a text to write in: its card from the empty table, and, where events begin, those of the rest on a text
-- of eight places for each byte and on the table that came back, with images and scratchpads of FFh
pub data PlayedBack (s out : List ℕ) : Back → Type 2 where
  card_alone : {e : Result Ending Fault} {at : ℕ} {t : Table} → CardsCall false s (blank_table 0) (cards_read (cards.Stopped e) at t) → PlayedBack s out (back e at 0 out (set_up_line t))
  with_events : {at : ℕ} {t : Table} {b : Back} → CardsCall false s (blank_table 0) (cards_read cards.Events at t) → length out ≡ 8 * length (drop at s)
      → PlayCall false (drop at s) out (set_up_line t) b → PlayedBack s out (back b.ending (at + b.at) b.number b.text b.line)

-- what the card says of the whole
by_card : (s : List ℕ) (c : CardsRead) → CardsCall false s (blank_table 0) c → after_cards s c.at c.table c.ending ≡ playback s
unfolding playback
by_card s c q = ap (λ (x : CardsRead). after_cards s x.at x.table x.ending) (cards_is false s (blank_table 0) c q)

-- what is told of one playing is told of the same
tells_same : (p q : Played) (out : List ℕ) (b : Back) → p ≡ q → Tells p out b → Tells q out b
tells_same p q out b e x = rw (sym e) x

-- THEOREM: whoever calls so is told what is played back
pub played_by_calls : (s out : List ℕ) (b : Back) → PlayedBack s out b → Tells (playback s) out b
played_by_calls s out b (card_alone {e = e} {at = at} {t = t} c) =
    tells_same (played [] (ends_of e) at (set_up_line t)) (playback s) out (back e at 0 out (set_up_line t)) (by_card s (cards_read (cards.Stopped e) at t) c)
    (record { ends = refl; at = refl; number = refl; answers = refl; rest = refl; line = refl })
played_by_calls s out b (with_events {at = at} {t = t} {b = o} c r d) =
    let p = play_all false (drop at s) (set_up_line t) in
    let x = play_tells false (drop at s) out (set_up_line t) o r d in
    tells_same (further at p) (playback s) out (back o.ending (at + o.at) o.number o.text o.line) (by_card s (cards_read cards.Events at t) c)
    (record { ends = x.ends; at = ap (λ (n : ℕ). at + n) x.at; number = x.number; answers = x.answers; rest = x.rest; line = x.line })

-- ---- a recording in pieces

-- a call of `play` on a text of eight places for each byte, whose first characters, as many as answers came back, are those of bs
pub record Heard (more : Bool) (s : List ℕ) (l : Attached) (bs : List Bool) (b : Back) : Type 2 where
  pub out : List ℕ
  pub room : length out ≡ 8 * length s
  pub call : PlayCall more s out l b
  pub heard : take b.number b.text ≡ map digit bs

-- what its caller takes it for
abbrev pub heard_as : List Bool → Back → Played
heard_as bs b = played bs (ends_of b.ending) b.at b.line

-- it is what was played of the bytes
pub heard_is : (more : Bool) (s : List ℕ) (l : Attached) (bs : List Bool) (b : Back) → Heard more s l bs b → heard_as bs b ≡ play_all more s l
heard_is more s l bs b c =
    let x = play_tells more s c.out l b c.room c.call in
    λ j. played (digits_once bs (play_all more s l).answers (sym c.heard ∙ x.answers) j) (x.ends j) (x.at j) (x.line j)

-- where it goes on after a card with no events yet
abbrev pub stage_carded : Result Ending Fault → Table → Stage
stage_carded (Ok ending.End) t = over (ends_of (Ok ending.End)) (set_up_line t)
stage_carded (Ok ending.Part) t = carding t
stage_carded (Err f) t = over (ends_of (Err f)) (set_up_line t)

-- a piece more by calls, on it and the bytes that are not taken yet, after which more may come or not: `read_cards` in the card, and `play` on the
-- rest where events begin; `play` in the events; and none where it is over
pub data HandCalled (more : Bool) (p : List ℕ) : Hand → Hand → Type 2 where
  in_card : {s : List ℕ} {n : ℕ} {bs : List Bool} {t u : Table} {e : Result Ending Fault} {at : ℕ} → CardsCall more (s ++ p) t (cards_read (cards.Stopped e) at u)
      → HandCalled more p (hand (carding t) s n bs) (hand (stage_carded e u) (drop at (s ++ p)) (n + at) bs)
  past_card : {s : List ℕ} {n : ℕ} {bs cs : List Bool} {t u : Table} {at : ℕ} {b : Back} → CardsCall more (s ++ p) t (cards_read cards.Events at u)
      → Heard more (drop at (s ++ p)) (set_up_line u) cs b → HandCalled more p (hand (carding t) s n bs) (hand_after (drop at (s ++ p)) (n + at) bs (heard_as cs b))
  in_events : {s : List ℕ} {n : ℕ} {bs cs : List Bool} {l : Attached} {b : Back} → Heard more (s ++ p) l cs b
      → HandCalled more p (hand (playing l) s n bs) (hand_after (s ++ p) n bs (heard_as cs b))
  when_over : {s : List ℕ} {n : ℕ} {bs : List Bool} {e : Ends} {l : Attached} → HandCalled more p (hand (over e l) s n bs) (hand (over e l) (s ++ p) n bs)

-- a card with no events yet, by how it ended
carded : (more : Bool) (s : List ℕ) (n : ℕ) (bs : List Bool) (at : ℕ) (u : Table) (e : Result Ending Fault)
    → hand (stage_carded e u) (drop at s) (n + at) bs ≡ card_after more s n bs at u (cards.Stopped e)
carded more s n bs at u (Ok ending.End) = refl
carded more s n bs at u (Ok ending.Part) = refl
carded more s n bs at u (Err f) = refl

-- what a card comes to is what was read of it
by_read : (more : Bool) (s : List ℕ) (n : ℕ) (bs : List Bool) (t : Table) (c : CardsRead) → CardsCall more s t c
    → card_after more s n bs c.at c.table c.ending ≡ hand_bytes more s n bs (carding t)
by_read more s n bs t c q = ap (λ (x : CardsRead). card_after more s n bs x.at x.table x.ending) (cards_is more s t c q)

-- THEOREM: a piece by calls leaves what a piece leaves
pub pieces_by_calls : (more : Bool) (p : List ℕ) (h k : Hand) → HandCalled more p h k → k ≡ hand_piece more p h
unfolding hand_piece
pieces_by_calls more p h k (in_card {s = s} {n = n} {bs = bs} {t = t} {u = u} {e = e} {at = at} c) =
    carded more (s ++ p) n bs at u e ∙ by_read more (s ++ p) n bs t (cards_read (cards.Stopped e) at u) c
pieces_by_calls more p h k (past_card {s = s} {n = n} {bs = bs} {cs = cs} {t = t} {u = u} {at = at} {b = b} c d) =
    ap (hand_after (drop at (s ++ p)) (n + at) bs) (heard_is more (drop at (s ++ p)) (set_up_line u) cs b d)
    ∙ by_read more (s ++ p) n bs t (cards_read cards.Events at u) c
pieces_by_calls more p h k (in_events {s = s} {n = n} {bs = bs} {cs = cs} {l = l} {b = b} d) = ap (hand_after (s ++ p) n bs) (heard_is more (s ++ p) l cs b d)
pieces_by_calls more p h k when_over = refl

-- the calls of one piece after another, the last, which may be empty, with no more to come
pub data AllCalled : List (List ℕ) → Hand → Hand → Type 2 where
  ends_with : {p : List ℕ} {h k : Hand} → HandCalled false p h k → AllCalled (p ∷ []) h k
  goes-on : {p : List ℕ} {ps : List (List ℕ)} {h g k : Hand} → HandCalled true p h g → AllCalled ps g k → AllCalled (p ∷ ps) h k

-- they come to all of it at once
called_whole : (ps : List (List ℕ)) (h k : Hand) → AllCalled ps h k → came_to k ≡ whole_from h (flatten ps)
unfolding flatten
called_whole ps h k (ends_with {p = p} c) = ap came_to (pieces_by_calls false p h k c) ∙ ap (whole_from h) (sym (append-nil p))
called_whole ps h k (goes-on {p = p} {ps = qs} {g = g} c d) =
    called_whole qs g k d ∙ ap (λ (x : Hand). whole_from x (flatten qs)) (pieces_by_calls true p h g c) ∙ piece_whole h p (flatten qs)

-- THEOREM: whoever hands a recording over in pieces so, cut at any byte, is left with what is played back of it in one
pub pieces_as_one_called : (ps : List (List ℕ)) (k : Hand) → AllCalled ps start k → came_to k ≡ playback (flatten ps)
pieces_as_one_called ps k c = called_whole ps start k c ∙ one_piece (flatten ps)
