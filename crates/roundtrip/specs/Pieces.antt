-- The request M-110: "taken line by line, a text reads as in one". How a text is cut into the pieces in which it is handed over changes nothing; by calls.
use Rattle.std.specs.Prelude.{ℕ, suc, ◌+◌, ◌<◌, Bool, true, false, ◌≡◌, refl, length, drop, Result, Ok, Err}
use Rattle.std.proofs.Common.{arith, zero-add, add_assoc, ◌∙◌, ap, sym, subst, eq-eqb}
use mathlib.Core.List.{List, [], ◌∷◌, ◌++◌, append-nil, append_assoc, flatten}
use contract.Lifetimes.{Lfts}
use Rattle.std.proofs.lemmas.List.{length-replicate}
use Rattle.base.specs.Pick.{pick_true}
use Rattle.intelhex.specs.Faults.{image_size, line_most}
use Rattle.intelhex.specs.Reading.{Found, found, lines_of, put_all, blank, Went, went, went_by, read_lines, Read, read, read_by, refusing}
use Rattle.intelhex.proofs.Underway.{put_append, put_length}
use Rattle.intelhex.specs.declared.Ending.{Ending}
use Rattle.intelhex.specs.declared.Ending.TheVariants.{End, Part}
use Rattle.intelhex.specs.declared.Fault.{Fault}
use Rattle.intelhex.specs.declared.Taken.{Taken}
use Rattle.roundtrip.specs.Calls.{ReadText, read-by, ReadLines, went-by, some_read_lines}
use Rattle.roundtrip.specs.Judging.{Ends, never_part}
use Rattle.roundtrip.specs.Refused.{sized}
use Rattle.roundtrip.specs.Resumed.{Resumes, Resumed, resumed}
use Rattle.intelhex.specs.declared.Refused.{Refused}

-- ---- calls, piece by piece

-- what a caller has at hand: whether the end record has come, the characters that are not taken yet, the image under way, and how many lines were taken
pub record Hand : Type 0 where
  pub over : Bool
  pub held : List ℕ
  pub image : List ℕ
  pub lines : ℕ

abbrev pub hand : Bool → List ℕ → List ℕ → ℕ → Hand
hand over held image lines = record { over = over; held = held; image = image; lines = lines }

-- at first nothing, and an image of FFh
abbrev pub start : Hand
start = hand false [] blank 0

-- what all of it comes to: how it ended, after how many lines, and the image under way
pub record Came : Type 0 where
  pub ending : Result Ending Fault
  pub lines : ℕ
  pub image : List ℕ

abbrev pub came : Result Ending Fault → ℕ → List ℕ → Came
came e lines image = record { ending = e; lines = lines; image = image }

-- calls of `intelhex::read_lines` on one piece after another, each behind the characters that were not taken before; more may come after each but the last, and what
-- follows a refusal is not looked at
pub data InPieces : List (List ℕ) → Hand → Came → Type 2 where
  last_piece : {p : List ℕ} {h : Hand} {back : Taken} {after : List ℕ} → ReadLines h.over false (h.held ++ p) h.image back after
      → InPieces (p ∷ []) h (came back.ending (h.lines + back.lines) after)
  next_piece : {p : List ℕ} {ps : List (List ℕ)} {h : Hand} {back : Taken} {after : List ℕ} {c : Came} → ReadLines h.over true (h.held ++ p) h.image back after → back.ending ≡ Ok Part
      → InPieces ps (hand back.over (drop back.at (h.held ++ p)) after (h.lines + back.lines)) c → InPieces (p ∷ ps) h c
  refused_piece : {p : List ℕ} {ps : List (List ℕ)} {h : Hand} {back : Taken} {after : List ℕ} {f : Fault} → ReadLines h.over true (h.held ++ p) h.image back after
      → back.ending ≡ Err f → InPieces (p ∷ ps) h (came (Err f) (h.lines + back.lines) after)

-- what a call comes to on an image of its size
pub call_is : (over more : Bool) (s image : List ℕ) (back : Taken) (after : List ℕ) → length image ≡ image_size → ReadLines over more s image back after
    → went back.ending back.at back.lines back.over after ≡ went_by image (lines_of more over s)
unfolding read_lines
call_is over more s image back after l c = went-by over more s image back after c ∙ pick_true _ _ _ (eq-eqb (length image) image_size l)

-- what the characters at hand and the rest come to
abbrev whole_from : Hand → List ℕ → Came
whole_from h rest = let f = lines_of false h.over (h.held ++ rest) in came f.ending (h.lines + f.lines) (put_all f.given h.image)

-- a piece, and all after it
module _ (h : Hand) (p rest : List ℕ) (sized : length h.image ≡ image_size) (back : Taken) (after : List ℕ) (c : ReadLines h.over true (h.held ++ p) h.image back after) where
  is : went back.ending back.at back.lines back.over after ≡ went_by h.image (lines_of true h.over (h.held ++ p))
  is = call_is h.over true (h.held ++ p) h.image back after sized c

  goes-on : Resumed false (h.held ++ p) rest (lines_of true h.over (h.held ++ p)) (lines_of false h.over ((h.held ++ p) ++ rest))
  goes-on = resumed false rest (suc (length (h.held ++ p))) h.over (h.held ++ p) (omega arith)

  whole : whole_from h (p ++ rest) ≡ (let f = lines_of false h.over ((h.held ++ p) ++ rest) in came f.ending (h.lines + f.lines) (put_all f.given h.image))
  whole = ap (λ (x : List ℕ). let f = lines_of false h.over x in came f.ending (h.lines + f.lines) (put_all f.given h.image)) (sym (append_assoc h.held p rest))

  after_size : length after ≡ image_size
  after_size = ap (λ (w : Went). length w.image) is ∙ put_length (lines_of true h.over (h.held ++ p)).given h.image ∙ sized

  -- where more is awaited
  awaited : back.ending ≡ Ok Part → whole_from (hand back.over (drop back.at (h.held ++ p)) after (h.lines + back.lines)) rest ≡ whole_from h (p ++ rest)
  awaited e =
      let F = lines_of true h.over (h.held ++ p) in
      let q : F.ending ≡ Ok Part = sym (ap (λ (w : Went). w.ending) is) ∙ e in
      let r : Resumes false (h.held ++ p) rest F.given (Ok Part) F.at F.lines F.over (lines_of false h.over ((h.held ++ p) ++ rest))
      = subst (λ (x : Result Ending Fault). Resumes false (h.held ++ p) rest F.given x F.at F.lines F.over (lines_of false h.over ((h.held ++ p) ++ rest))) q goes-on in
      let G = lines_of false F.over (drop F.at (h.held ++ p) ++ rest) in
      ap (λ (w : Went). whole_from (hand w.over (drop w.at (h.held ++ p)) w.image (h.lines + w.lines)) rest) is
      ∙ (λ j. came G.ending (add_assoc h.lines F.lines G.lines j) (sym (put_append F.given G.given h.image) j))
      ∙ ap (λ (x : Found). came x.ending (h.lines + x.lines) (put_all x.given h.image)) (sym r.0)
      ∙ sym whole

  -- where it is refused
  refused : (f : Fault) → back.ending ≡ Err f → came (Err f) (h.lines + back.lines) after ≡ whole_from h (p ++ rest)
  refused f e =
      let F = lines_of true h.over (h.held ++ p) in
      let q : F.ending ≡ Err f = sym (ap (λ (w : Went). w.ending) is) ∙ e in
      let r : lines_of false h.over ((h.held ++ p) ++ rest) ≡ found F.given (Err f) F.at F.lines F.over
      = subst (λ (x : Result Ending Fault). Resumes false (h.held ++ p) rest F.given x F.at F.lines F.over (lines_of false h.over ((h.held ++ p) ++ rest))) q goes-on in
      ap (λ (w : Went). came (Err f) (h.lines + w.lines) w.image) is
      ∙ ap (λ (x : Found). came x.ending (h.lines + x.lines) (put_all x.given h.image)) (sym r)
      ∙ sym whole

-- THEOREM: where more is awaited, fewer than 523 characters are left to keep
pub few_held : (over : Bool) (s image : List ℕ) (back : Taken) (after : List ℕ) → length image ≡ image_size → ReadLines over true s image back after → back.ending ≡ Ok Part
    → length (drop back.at s) < line_most
few_held over s image back after l c e =
    let w = call_is over true s image back after l c in
    let F = lines_of true over s in
    let q : F.ending ≡ Ok Part = sym (ap (λ (x : Went). x.ending) w) ∙ e in
    let r : Resumes false s [] F.given (Ok Part) F.at F.lines F.over (lines_of false over (s ++ []))
    = subst (λ (x : Result Ending Fault). Resumes false s [] F.given x F.at F.lines F.over (lines_of false over (s ++ []))) q (resumed false [] (suc (length s)) over s (omega arith)) in
    subst (λ (n : ℕ). length (drop n s) < line_most) (sym (ap (λ (x : Went). x.at) w)) r.1.1

pieces_whole : (ps : List (List ℕ)) (h : Hand) (c : Came) → length h.image ≡ image_size → InPieces ps h c → c ≡ whole_from h (flatten ps)
unfolding flatten
pieces_whole ps h c l (last_piece {p = p} {back = back} {after = after} x) =
    ap (λ (w : Went). came w.ending (h.lines + w.lines) w.image) (call_is h.over false (h.held ++ p) h.image back after l x)
    ∙ ap (whole_from h) (sym (append-nil p))
pieces_whole ps h c l (next_piece {p = p} {ps = qs} {back = back} {after = after} x e i) =
    pieces_whole qs _ c (after_size h p (flatten qs) l back after x) i ∙ awaited h p (flatten qs) l back after x e
pieces_whole ps h c l (refused_piece {p = p} {ps = qs} {back = back} {after = after} {f = f} x e) = refused h p (flatten qs) l back after x f e

-- a text in pieces and in one call of `intelhex::read_text` comes to the same: both are read, and to the same image; or both are refused for the same fault after as many
-- lines, and then the call leaves its image
abbrev pub SameEnd : Result Ending Fault → ℕ → List ℕ → List ℕ → Result (Unit {0}) Refused → List ℕ → Type 0
SameEnd (Ok End) lines made image r after = (r ≡ Ok tt) × (after ≡ made)
SameEnd (Ok Part) lines made image r after = ⊥
SameEnd (Err f) lines made image r after = (r ≡ refusing f lines) × (after ≡ image)

-- THEOREM: handed over in pieces, line by line or cut anywhere, a text reads as in one
pub lines_as_one : (ps : List (List ℕ)) (c : Came) (image after : List ℕ) (r : Result (Unit {0}) Refused) → InPieces ps start c → length image ≡ image_size → ReadText (flatten ps) image r after
    → SameEnd c.ending c.lines c.image image r after
lines_as_one ps c image after r i l x =
    let text = flatten ps in
    let f = lines_of false false text in
    let w : c ≡ came f.ending f.lines (put_all f.given blank)
    = pieces_whole ps start c (length-replicate {A = ℕ} image_size 0xFF) i ∙ ap (λ (n : ℕ). came f.ending n (put_all f.given blank)) (zero-add f.lines) in
    subst (λ (y : Came). SameEnd y.ending y.lines y.image image r after) (sym w) (by f.ending refl (read-by text image r after x ∙ sized text image l f.ending refl))
  where
    by : (e : Result Ending Fault) → Ends (flatten ps) e → (let f = lines_of false false (flatten ps) in read r after ≡ read_by image (put_all f.given blank) f.lines e → SameEnd e f.lines (put_all f.given blank) image r after)
    by (Ok End) h q = (ap (λ (y : Read). y.answer) q, ap (λ (y : Read). y.image) q)
    by (Ok Part) h q = never_part (flatten ps) h
    by (Err g) h q = (ap (λ (y : Read). y.answer) q, ap (λ (y : Read). y.image) q)

-- ---- there are such calls

-- what one call tells
abbrev back_of : Went → Taken
back_of w = record { ending = w.ending; at = w.at; lines = w.lines; over = w.over }

-- where more may come, a call never ends well
never_end : (over : Bool) (s image : List ℕ) → length image ≡ image_size → (read_lines over true s image).ending ≡ Ok End → ⊥
unfolding read_lines
never_end over s image l e =
    let F = lines_of true over s in
    let q : F.ending ≡ Ok End = sym (ap (λ (x : Went). x.ending) (pick_true _ _ _ (eq-eqb (length image) image_size l))) ∙ e in
    subst (λ (x : Result Ending Fault). Resumes false s [] F.given x F.at F.lines F.over (lines_of false over (s ++ []))) q (resumed false [] (suc (length s)) over s (omega arith))

-- THEOREM: every text can be handed over so, in whatever pieces
pub some_pieces : Lfts 2 → (p : List ℕ) (ps : List (List ℕ)) (h : Hand) → length h.image ≡ image_size → (c : Came) × InPieces (p ∷ ps) h c
some_pieces κs p [] h l = (_, last_piece (some_read_lines κs h.over false (h.held ++ p) h.image))
some_pieces κs p (q ∷ qs) h l = by w.ending refl (λ k. some_pieces κs q qs k)
  where
    w : Went
    w = read_lines h.over true (h.held ++ p) h.image

    call : ReadLines h.over true (h.held ++ p) h.image (back_of w) w.image
    call = some_read_lines κs h.over true (h.held ++ p) h.image

    by : (e : Result Ending Fault) → w.ending ≡ e → ((k : Hand) → length k.image ≡ image_size → (c : Came) × InPieces (q ∷ qs) k c) → (c : Came) × InPieces (p ∷ q ∷ qs) h c
    by (Ok End) e later = absurd (never_end h.over (h.held ++ p) h.image l e)
    by (Ok Part) e later =
        let k = later (hand w.over (drop w.at (h.held ++ p)) w.image (h.lines + w.lines)) (after_size h p [] l (back_of w) w.image call) in
        (k.0, next_piece call e k.1)
    by (Err f) e later = (_, refused_piece call e)
