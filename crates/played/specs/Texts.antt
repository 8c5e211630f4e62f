-- Laws: the characters of the answers stand at the beginning of a text of eight places for each byte, and tell the answers.
use Prim.Native.Char.{code as letter}
use Prim.Native.Nat.{ℕ, zero, suc, ◌+◌, ◌*◌, ◌≤◌}
use native.Mathlib.Omega.{arith}
use Rattle.std.specs.Prelude.{Bool, false, List, [], ◌∷◌, ◌++◌, map, ◌≡◌, refl, eqb, length, take, drop, set, Result, Ok, Err}
use Rattle.std.proofs.Math.Bool.{true}
use Rattle.std.proofs.Common.{◌∙◌, ap, sym, length-append, take_at, drop_at}
use Rattle.std.proofs.lemmas.List.{length-map}
use Rattle.std.proofs.lemmas.List.Edits.{sets, sets-eq}
use Rattle.base.specs.Pick.{pick}
use Rattle.line.specs.Attached.{Attached}
use Rattle.recording.specs.declared.Fault.{Fault}
use Rattle.recording.specs.Reading.{found_at}
use Rattle.recording.specs.Cards.{room_for}
use Rattle.recording.specs.Playing.{Said, bits, none, record_step, Played, on_step, play_on, play_from, play_all, digit, put_digits}
use Rattle.recording.specs.Putting.{answers_most}
use Rattle.recording.specs.Next.{Sound, found_sound}
use Rattle.recording.specs.PlayLoop.{bits_said, said_few}
use Rattle.recording.specs.declared.Found.{Found}
use Rattle.recording.specs.declared.Found.TheVariants as found

-- playing from an offset on has no more answers than eight for each byte from there on
module _ (more : Bool) (s : List ℕ) where
  on_few : (at : ℕ) (l : Attached) (go : ℕ → Attached → Played) → at ≤ length s
      → ((next : ℕ) (m : Attached) → next ≤ length s → length (go next m).answers + 8 * next ≤ 8 * length s)
      → (x : Result Found Fault) → Sound s at x → length (play_on go s at l x).answers + 8 * at ≤ 8 * length s
  on_few at l go h on (Ok found.End) i = omega arith
  on_few at l go h on (Ok found.Part) i = omega arith
  on_few at l go h on (Ok (found.Record r next)) i = by_said (record_step s r l).said (record_step s r l).line (said_few s r l)
    where
      by_said : (x : Said) (m : Attached) → length (bits_said x) ≤ answers_most r → length (on_step go at next x m).answers + 8 * at ≤ 8 * length s
      by_said (bits bs) m f =
          let a = length-append bs (go next m).answers in
          let b = on next m i.within in
          let c = i.few in
          omega arith
      by_said (none n) m f = omega arith
  on_few at l go h on (Err f) i = omega arith

  from_few : (k at : ℕ) (l : Attached) → at ≤ length s → length (play_from k more s at l).answers + 8 * at ≤ 8 * length s
  unfolding play_from
  from_few zero at l h = omega arith
  from_few (suc k) at l h =
      let room = room_for l.count in
      on_few at l _ h (λ next m g. from_few k next m g) (found_at s at room true more) (found_sound s at room true more)

  -- so the text has room for all
  pub answers_few : (l : Attached) → length (play_all more s l).answers ≤ 8 * length s
  unfolding play_all
  answers_few l = let h = from_few (suc (length s)) 0 l (omega arith) in omega arith

-- characters put are stores one after the other
put_as_stores : (bs : List Bool) (place : ℕ) (out : List ℕ) → put_digits bs place out ≡ sets out place (map digit bs)
put_as_stores [] place out = refl
put_as_stores (b ∷ bs) place out = put_as_stores bs (suc place) (set out place (digit b))

module _ (bs : List Bool) (out : List ℕ) (h : length bs ≤ length out) where
  -- the characters come first, and what is after them is as it was
  put_first : put_digits bs 0 out ≡ map digit bs ++ drop (length bs) out
  put_first =
      let e = length-map bs digit in
      let z : 0 + length (map digit bs) ≡ length bs = omega arith in
      put_as_stores bs 0 out ∙ sets-eq (map digit bs) out 0 (omega arith) ∙ ap (λ (n : ℕ). map digit bs ++ drop n out) z

  pub text_first : take (length bs) (put_digits bs 0 out) ≡ map digit bs
  text_first = ap (take (length bs)) put_first ∙ take_at (map digit bs) (drop (length bs) out) (length bs) (length-map bs digit)

  pub text_rest : drop (length bs) (put_digits bs 0 out) ≡ drop (length bs) out
  text_rest = ap (drop (length bs)) put_first ∙ drop_at (map digit bs) (drop (length bs) out) (length bs) (length-map bs digit)

-- the answer of a character
answer_of : ℕ → Bool
answer_of d = eqb d (letter "1")

answer-of : (b : Bool) → answer_of (digit b) ≡ b
unfolding answer_of pick
answer-of true = refl
answer-of false = refl

answers_of : (bs : List Bool) → map answer_of (map digit bs) ≡ bs
answers_of [] = refl
answers_of (b ∷ bs) = λ j. answer-of b j ∷ answers_of bs j

-- the same characters are those of the same answers
pub digits_once : (bs cs : List Bool) → map digit bs ≡ map digit cs → bs ≡ cs
digits_once bs cs e = sym (answers_of bs) ∙ ap (map answer_of) e ∙ answers_of cs
