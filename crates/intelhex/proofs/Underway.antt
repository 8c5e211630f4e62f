-- Laws: the loop that reads the lines of a text.
use Rattle.std.specs.Prelude.{◌≡◌, ℕ, suc, ◌+◌, ◌-◌, ◌<◌, ◌≤◌, Bool, true, false, List, [], ◌∷◌, ◌++◌, length, take, drop, ◌==◌, ◌≢◌, Result, Ok, Err}
use native.Mathlib.Omega.{arith}
use Rattle.std.proofs.Common.{zero-add, add-zero, add_assoc, append-nil, append_assoc, ◌∙◌, length-drop, drop-drop, take_all, eq-eqb, ne_eqb}
use Rattle.std.proofs.Math.Path.{refl, ap, sym}
use Rattle.std.proofs.lemmas.List.Edits.{sets}
use Rattle.std.proofs.Math.Seq.{length-sets}
use Rattle.base.specs.Pick.{pick_true, pick_false, pick_both}
use Rattle.intelhex.specs.Faults.{image_size}
use Rattle.intelhex.specs.Bytes.{bytes_of}
use Rattle.intelhex.specs.Lines.{standing, form_of, judged}
use Rattle.intelhex.specs.Reading.{Given, Next, data-record, end-record, stop, next_by, next_in, next_of, next_after, next, Found, found, following, on_next, lines_from, lines_of, put_all, blank, Went, went, went_by, read_lines, Read, read, read_by, read_text, refusing}
use Rattle.intelhex.specs.Turns.{Turned, turned, stopped, turned_by, ending_of, ending_stopped}
use Rattle.intelhex.specs.Sound.{LineLies, line_lies}
use Rattle.intelhex.specs.declared.Ending.{Ending}
use Rattle.intelhex.specs.declared.Fault.TheVariants.{WrongSize}
use Rattle.intelhex.specs.declared.lines.Standing.{Standing}
use Rattle.intelhex.specs.declared.lines.Standing.TheVariants.{Nothing, Unended, Endless, Line}
use Rattle.intelhex.specs.declared.readers.Turn.{Turn}
use Rattle.intelhex.specs.declared.readers.Turn.TheVariants.{On, Stop}
use Rattle.intelhex.specs.declared.record.Judged.{Judged}
use Rattle.intelhex.specs.declared.record.Judged.TheVariants as judged-as
use Rattle.intelhex.specs.declared.Fault.{Fault}

-- ---- what stands next lies in the text, and is not without characters
abbrev pub NextLies : List ℕ → Next → Type 0
NextLies text (data-record size g) = (0 < size) × (size ≤ length text)
NextLies text (end-record size) = (0 < size) × (size ≤ length text)
NextLies text (stop e) = Unit {0}

module _ (text : List ℕ) where
  record_lies : (size : ℕ) (bytes : List ℕ) (j : Result Judged Fault) → 0 < size → size ≤ length text → NextLies text (next_by size bytes j)
  record_lies size bytes (Ok (judged-as.Data address count)) a b = (a, b)
  record_lies size bytes (Ok judged-as.End) a b = (a, b)
  record_lies size bytes (Err f) a b = tt

  form_lies : (size : ℕ) (line : List ℕ) (f : Result ℕ Fault) → 0 < size → size ≤ length text → NextLies text (next_in size line f)
  form_lies size line (Ok n) a b = record_lies size (bytes_of (drop 1 line)) (judged (bytes_of (drop 1 line))) a b
  form_lies size line (Err f) a b = tt

  standing_lies : (more : Bool) (s : Standing) → LineLies text s → NextLies text (next_of more text s)
  standing_lies more Nothing l = tt
  standing_lies more Unended l = tt
  standing_lies more Endless l = tt
  standing_lies more (Line n size) l = let a = l.0 in form_lies size (take n text) (form_of (take n text)) (omega arith) l.1.0

  pub next_lies : (over more : Bool) → NextLies text (next over more text)
  unfolding next next_after
  next_lies over more =
      pick_both (NextLies text) over _ _ (pick_both (NextLies text) (length text == 0) _ _ tt tt) (standing_lies more (standing text) (line_lies text))

-- ---- what is given, some and then others
pub put_append : (gs hs : List Given) (image : List ℕ) → put_all (gs ++ hs) image ≡ put_all hs (put_all gs image)
put_append [] hs image = refl
put_append (g ∷ gs) hs image = put_append gs hs (sets image g.address g.bytes)

pub put_length : (gs : List Given) (image : List ℕ) → length (put_all gs image) ≡ length image
put_length [] image = refl
put_length (g ∷ gs) image = put_length gs (sets image g.address g.bytes) ∙ length-sets image g.address g.bytes

-- what was read before what was read before
pub following_following : (gs hs : List Given) (at m lines k : ℕ) (f : Found) → following gs at lines (following hs m k f) ≡ following (gs ++ hs) (at + m) (lines + k) f
following_following gs hs at m lines k f =
    λ j. found (sym (append_assoc gs hs f.given) j) f.ending (sym (add_assoc at m f.at) j) (sym (add_assoc lines k f.lines) j) f.over

-- ---- the loop

-- a turn that goes on, and what it says; one that stops says nothing
abbrev size_in : Result Turn Fault → ℕ
size_in (Ok (On size over)) = size
size_in (Ok (Stop e)) = 0
size_in (Err f) = 0

abbrev over_in : Result Turn Fault → Bool
over_in (Ok (On size over)) = over
over_in (Ok (Stop e)) = false
over_in (Err f) = false

tag : Result Turn Fault → ℕ
tag (Ok (On size over)) = 0
tag (Ok (Stop e)) = 1
tag (Err f) = 1

tag_stopped : (e : Result Ending Fault) → tag (stopped e) ≡ 1
unfolding tag
tag_stopped (Ok e) = refl
tag_stopped (Err f) = refl

-- where the loop stands: what was given so far, and how many more lines there may be after this one
pub record Underway (more over₀ : Bool) (text image₀ image : List ℕ) (at lines : ℕ) (over : Bool) : Type 0 where
  pub gave : List Given
  pub turns : ℕ
  pub left : following gave at lines (lines_from (suc turns) more over (drop at text)) ≡ lines_of more over₀ text
  pub enough : length text ≤ at + turns
  pub within : at ≤ length text
  pub put : image ≡ put_all gave image₀
  pub few : lines ≤ at
  pub long : length image ≡ length image₀

pub underway_start : (more over : Bool) (text image : List ℕ) → Underway more over text image image 0 0 over
unfolding lines_of
underway_start more over text image = record {
  gave = [];
  turns = length text;
  left = let f = lines_from (suc (length text)) more over text in λ j. found f.given f.ending (zero-add f.at j) (zero-add f.lines j) f.over;
  enough = omega arith;
  within = omega arith;
  put = refl;
  few = omega arith;
  long = refl;
}

module _ (more over₀ : Bool) (text image₀ image : List ℕ) (at lines : ℕ) (over : Bool) (u : Underway more over₀ text image₀ image at lines over) where
  -- the part of the text from there on, as the code lends it
  part : take (length text - at) (drop at text) ≡ drop at text
  part = let l = length-drop at text in take_all (length text - at) (drop at text) (omega arith)

  module _ (size : ℕ) (ended : Bool) (image' : List ℕ) where
    step : (gs : List Given) → lines_from (suc u.turns) more over (drop at text) ≡ following gs size 1 (lines_from u.turns more ended (drop size (drop at text)))
        → image' ≡ put_all gs image → 0 < size → size ≤ length (drop at text) → Underway more over₀ text image₀ image' (at + size) (lines + 1) ended
    step gs e p a b =
        let l = length-drop at text in
        let n = u.enough in
        let w = u.within in
        let t : u.turns ≡ suc (u.turns - 1) = omega arith in
        let f : Found = lines_from (suc (u.turns - 1)) more ended (drop (at + size) text) in
        let d : lines_from u.turns more ended (drop size (drop at text)) ≡ f = λ j. lines_from (t j) more ended (drop-drop size at text j) in
        let k = u.few in
        record {
          gave = u.gave ++ gs;
          turns = u.turns - 1;
          left =
              sym (following_following u.gave gs at size lines 1 f)
              ∙ ap (λ (x : Found). following u.gave at lines (following gs size 1 x)) (sym d)
              ∙ ap (following u.gave at lines) (sym e)
              ∙ u.left;
          enough = omega arith;
          within = omega arith;
          put = p ∙ ap (put_all gs) u.put ∙ sym (put_append u.gave gs image₀);
          few = omega arith;
          long = ap length p ∙ put_length gs image ∙ u.long;
        }

    by_next : (x : Next) → next over more (drop at text) ≡ x → NextLies (drop at text) x → turned (Ok (On size ended)) image' ≡ turned_by image x
        → (0 < size) × ((size ≤ length (drop at text)) × Underway more over₀ text image₀ image' (at + size) (lines + 1) ended)
    unfolding lines_from tag
    by_next (data-record n g) e l h =
        let s : size ≡ n = ap (λ (t : Turned). size_in t.turn) h in
        let o : ended ≡ false = ap (λ (t : Turned). over_in t.turn) h in
        let a : 0 < size = let z = l.0 in omega arith in
        let b : size ≤ length (drop at text) = let z = l.1 in omega arith in (
          a,
          (
            b,
            step (g ∷ [])
                (ap (on_next (λ o t. lines_from u.turns more o t) over (drop at text)) e
                ∙ (λ j. following (g ∷ []) (sym s j) 1 (lines_from u.turns more (sym o j) (drop (sym s j) (drop at text)))))
                (ap (λ (t : Turned). t.image) h) a b,
          ),
        )
    by_next (end-record n) e l h =
        let s : size ≡ n = ap (λ (t : Turned). size_in t.turn) h in
        let o : ended ≡ true = ap (λ (t : Turned). over_in t.turn) h in
        let a : 0 < size = let z = l.0 in omega arith in
        let b : size ≤ length (drop at text) = let z = l.1 in omega arith in (
          a,
          (
            b,
            step []
                (ap (on_next (λ o t. lines_from u.turns more o t) over (drop at text)) e
                ∙ (λ j. following [] (sym s j) 1 (lines_from u.turns more (sym o j) (drop (sym s j) (drop at text)))))
                (ap (λ (t : Turned). t.image) h) a b,
          ),
        )
    by_next (stop x) e l h = absurd (let y : tag (Ok (On size ended)) ≡ tag (stopped x) = ap (λ (t : Turned). tag t.turn) h in let z : 0 ≡ 1 = y ∙ tag_stopped x in omega arith)

    -- after a turn that goes on: its characters lie in the text, and the loop stands behind them
    pub underway_next : (t : Result Turn Fault) → t ≡ Ok (On size ended) → turned t image' ≡ turned_by image (next over more (take (length text - at) (drop at text)))
        → (0 < size) × ((size ≤ length (drop at text)) × Underway more over₀ text image₀ image' (at + size) (lines + 1) ended)
    underway_next t q h = by_next (next over more (drop at text)) refl (next_lies (drop at text) over more)
        (ap (λ (x : Result Turn Fault). turned x image') (sym q) ∙ h ∙ ap (λ (x : List ℕ). turned_by image (next over more x)) part)

    -- so the sums fit, and fewer characters are left
    pub underway_sums : (t : Result Turn Fault) → t ≡ Ok (On size ended) → turned t image' ≡ turned_by image (next over more (take (length text - at) (drop at text)))
        → (at + size ≤ length text) × ((lines + 1 ≤ length text) × (length text - (at + size) < length text - at))
    underway_sums t q h =
        let n = underway_next t q h in
        let a = n.0 in
        let w = n.1.1.within in
        let f = u.few in
        (w, (omega arith, omega arith))

  -- after one that stops
  pub underway_stopped : (t : Result Turn Fault) (e : Result Ending Fault) (image' : List ℕ) → t ≡ stopped e → turned t image' ≡ turned_by image (next over more (take (length text - at) (drop at text)))
      → went e at lines over image' ≡ went_by image₀ (lines_of more over₀ text)
  unfolding lines_from tag
  underway_stopped t e image' q h = by (next over more (drop at text)) refl (ap (λ (x : Result Turn Fault). turned x image') (sym q) ∙ h ∙ ap (λ (x : List ℕ). turned_by image (next over more x)) part)
    where
      by : (x : Next) → next over more (drop at text) ≡ x → turned (stopped e) image' ≡ turned_by image x → went e at lines over image' ≡ went_by image₀ (lines_of more over₀ text)
      by (data-record n g) f k = absurd (let z : 1 ≡ 0 = sym (tag_stopped e) ∙ ap (λ (t : Turned). tag t.turn) k in omega arith)
      by (end-record n) f k = absurd (let z : 1 ≡ 0 = sym (tag_stopped e) ∙ ap (λ (t : Turned). tag t.turn) k in omega arith)
      by (stop x) f k =
          let m : image' ≡ image = ap (λ (t : Turned). t.image) k in
          let y : e ≡ x = sym (ending_stopped e) ∙ ap (λ (t : Turned). ending_of t.turn) k ∙ ending_stopped x in
          (λ j. went (y j) (sym (add-zero at) j) (sym (add-zero lines) j) over ((m ∙ u.put ∙ ap (λ (gs : List Given). put_all gs image₀) (sym (append-nil u.gave))) j))
          ∙ ap (λ (y : Found). went_by image₀ (following u.gave at lines y)) (sym (ap (on_next (λ o t. lines_from u.turns more o t) over (drop at text)) f))
          ∙ ap (went_by image₀) u.left

-- ---- images of another size, and of their own
module _ (over more : Bool) (text image : List ℕ) where
  pub lines_unsized : (length image ≢ image_size) → went (Err WrongSize) 0 0 over image ≡ read_lines over more text image
  unfolding read_lines
  lines_unsized n = sym (pick_false _ _ _ (ne_eqb (length image) image_size n))

  pub lines_sized : length image ≡ image_size → (w : Went) → w ≡ went_by image (lines_of more over text) → w ≡ read_lines over more text image
  unfolding read_lines
  lines_sized e w h = h ∙ sym (pick_true _ _ _ (eq-eqb (length image) image_size e))

module _ (text image : List ℕ) where
  pub text_unsized : (length image ≢ image_size) → read (refusing WrongSize 0) image ≡ read_text text image
  unfolding read_text
  text_unsized n = sym (pick_false _ _ _ (ne_eqb (length image) image_size n))

  -- a text that was read into an image of FFh is handed over
  pub text_sized : length image ≡ image_size → (made made' : List ℕ) (e : Result Ending Fault) (at lines : ℕ) (over : Bool) (r : Read) → made ≡ blank
      → went e at lines over made' ≡ went_by made (lines_of false false text) → r ≡ read_by image made' lines e → r ≡ read_text text image
  unfolding read_text
  text_sized l made made' e at lines over r b h k =
      let w : went e at lines over made' ≡ went_by blank (lines_of false false text) = h ∙ ap (λ (x : List ℕ). went_by x (lines_of false false text)) b in
      k ∙ ap (λ (x : Went). read_by image x.image x.lines x.ending) w ∙ sym (pick_true _ _ _ (eq-eqb (length image) image_size l))
