-- The table of M-110: eight files, and what reading each comes to.
use Prim.Native.Char.{Char, code as letter}
use Rattle.std.specs.Prelude.{ℕ, false, List, [], ◌∷◌, ◌++◌, map, ◌≡◌, refl, length, set, Result}
use Rattle.std.proofs.Common.{◌∙◌, ap}
use Rattle.base.specs.Bits.{both}
use Rattle.base.specs.Pick.{pick}
use Rattle.intelhex.specs.Faults.{image_size}
use Rattle.intelhex.specs.Answers.{Answered, done, refused_after, read_as}
use Rattle.intelhex.specs.Bytes.{between, is_digit, worth, byte_of, sum_of}
use Rattle.intelhex.specs.Lines.{without_return, standing, form_of, is_bad_end, is_above, judged}
use Rattle.intelhex.specs.Reading.{Found, next_after, next, lines_from, lines_of, put_all, blank, Read, read_by}
use Rattle.roundtrip.specs.Calls.{ReadText, read-by}
use Rattle.roundtrip.specs.Refused.{sized}
use Rattle.intelhex.specs.declared.Refused.{Refused}

-- ---- the lines
abbrev line : List Char → List ℕ
line cs = map letter cs ++ (0x0A ∷ [])

abbrev line_cr : List Char → List ℕ
line_cr cs = map letter cs ++ (0x0D ∷ 0x0A ∷ [])

abbrev end : List Char
end = ":" ∷ "0" ∷ "0" ∷ "0" ∷ "0" ∷ "0" ∷ "0" ∷ "0" ∷ "1" ∷ "F" ∷ "F" ∷ []

abbrev end_at_1 : List Char
end_at_1 = ":" ∷ "0" ∷ "0" ∷ "0" ∷ "0" ∷ "0" ∷ "1" ∷ "0" ∷ "1" ∷ "F" ∷ "E" ∷ []

abbrev end_off : List Char
end_off = ":" ∷ "0" ∷ "0" ∷ "0" ∷ "0" ∷ "0" ∷ "0" ∷ "0" ∷ "1" ∷ "F" ∷ "E" ∷ []

abbrev type_2 : List Char
type_2 = ":" ∷ "0" ∷ "0" ∷ "0" ∷ "0" ∷ "0" ∷ "0" ∷ "0" ∷ "2" ∷ "F" ∷ "E" ∷ []

abbrev at_0_a3_f : List Char
at_0_a3_f = ":" ∷ "0" ∷ "1" ∷ "0" ∷ "A" ∷ "3" ∷ "F" ∷ "0" ∷ "0" ∷ "0" ∷ "0" ∷ "B" ∷ "6" ∷ []

abbrev small_0_a3_f : List Char
small_0_a3_f = ":" ∷ "0" ∷ "1" ∷ "0" ∷ "a" ∷ "3" ∷ "f" ∷ "0" ∷ "0" ∷ "f" ∷ "a" ∷ "b" ∷ "c" ∷ []

abbrev end_g : List Char
end_g = ":" ∷ "0" ∷ "0" ∷ "0" ∷ "0" ∷ "0" ∷ "0" ∷ "0" ∷ "1" ∷ "F" ∷ "g" ∷ []

abbrev at_0_a40 : List Char
at_0_a40 = ":" ∷ "0" ∷ "1" ∷ "0" ∷ "A" ∷ "4" ∷ "0" ∷ "0" ∷ "0" ∷ "0" ∷ "0" ∷ "B" ∷ "5" ∷ []

-- ---- what reading each comes to, into an image of its size, by a call
abbrev pub Comes : List ℕ → (List ℕ → Answered → List ℕ → Type 0) → Type 2
Comes text P = (image after : List ℕ) (r : Result (Unit {0}) Refused) → length image ≡ image_size → ReadText text image r after → P image (read_as r) after

-- it is read as an image, or refused after so many lines and leaves the image as found
abbrev pub IsRead : List ℕ → List ℕ → Answered → List ℕ → Type 0
IsRead made image answer after = (answer ≡ done) × (after ≡ made)

abbrev pub IsRefused : ℕ → ℕ → List ℕ → Answered → List ℕ → Type 0
IsRefused n lines image answer after = (answer ≡ refused_after n lines) × (after ≡ image)

-- the table
pub record Table : Type 2 where
  pub end_alone : Comes (line end) (IsRead blank)
  pub end_unended : Comes (map letter end) (IsRefused 16 0)
  pub end_addressed : Comes (line end_at_1) (IsRefused 16 0)
  pub end_check : Comes (line end_off) (IsRefused 17 0)
  pub another_type : Comes (line type_2) (IsRefused 18 0)
  pub last_byte : Comes (line at_0_a3_f ++ line end) (IsRead (set blank 0x0A3F 0))
  pub above_last : Comes (line at_0_a40 ++ line end) (IsRefused 19 0)
  pub line_after_end : Comes (line end ++ (0x0A ∷ [])) (IsRefused 20 1)

-- three files more: small letters and CR LF, a second CR, and a character behind the small letters
pub record Forms : Type 2 where
  pub small_letters : Comes (line_cr small_0_a3_f ++ line_cr end) (IsRead (set blank 0x0A3F 0xFA))
  pub second_cr : Comes (line at_0_a3_f ++ (map letter end ++ (0x0D ∷ 0x0D ∷ 0x0A ∷ []))) (IsRefused 16 1)
  pub no_digit : Comes (line end_g) (IsRefused 16 0)

-- what a call comes to, by what was found
came : (text : List ℕ) (f : Found) → lines_of false false text ≡ f → (image after : List ℕ) (r : Result (Unit {0}) Refused) → length image ≡ image_size → ReadText text image r after
    → let w = read_by image (put_all f.given blank) f.lines f.ending in (read_as r ≡ read_as w.answer) × (after ≡ w.image)
came text f e image after r l c =
    let w = read-by text image r after c ∙ sized text image l (lines_of false false text).ending refl
    ∙ ap (λ (x : Found). read_by image (put_all x.given blank) x.lines x.ending) e in
    (ap (λ (x : Read). read_as x.answer) w, ap (λ (x : Read). x.image) w)

-- THEOREM: the table
pub table : Table
unfolding lines_of lines_from next next_after standing without_return form_of judged is_bad_end is_above is_digit worth between byte_of sum_of both pick
table = record {
  end_alone = came (line end) _ refl;
  end_unended = came (map letter end) _ refl;
  end_addressed = came (line end_at_1) _ refl;
  end_check = came (line end_off) _ refl;
  another_type = came (line type_2) _ refl;
  last_byte = came (line at_0_a3_f ++ line end) _ refl;
  above_last = came (line at_0_a40 ++ line end) _ refl;
  line_after_end = came (line end ++ (0x0A ∷ [])) _ refl;
}

pub forms : Forms
unfolding lines_of lines_from next next_after standing without_return form_of judged is_bad_end is_above is_digit worth between byte_of sum_of both pick
forms = record {
  small_letters = came (line_cr small_0_a3_f ++ line_cr end) _ refl;
  second_cr = came (line at_0_a3_f ++ (map letter end ++ (0x0D ∷ 0x0D ∷ 0x0A ∷ []))) _ refl;
  no_digit = came (line end_g) _ refl;
}
