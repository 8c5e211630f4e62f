-- The table of M-109: six pages by their beginnings, whatever follows, and what each reader answers.
use Rattle.std.specs.Prelude.{ℕ, true, false, List, [], ◌∷◌, ◌++◌, ◌≡◌, refl, ℤ, pos, length, Result}
use Rattle.std.proofs.Common.{◌∙◌, ap, eq-eqb}
use Rattle.base.specs.Bits.{both}
use Rattle.base.specs.Pick.{pick, pick_true}
use Rattle.setpoints.specs.Signed.{signed}
use Rattle.readback.specs.Calls.{Read101, Read102, ReadEither, told_101, told_102, told_either}
use Rattle.setpoints.specs.Kinds.{Form, degrees, tenths, between, allowed}
use Rattle.setpoints.specs.Pages.{page_size, judged, read_record, read_among, read_page, Answered, setpoint, refused, answered_by}
use Rattle.setpoints.specs.declared.Fault.{Fault}

-- what `read`, `read101` and `read102` answer of a page that begins so, by calls of the three readers
abbrev pub Row : List ℕ → Answered → Answered → Answered → Type 2
Row begins either old new = (rest : List ℕ) → length (begins ++ rest) ≡ page_size → (x y z : Result ℤ Fault)
    → ReadEither (begins ++ rest) x → Read101 (begins ++ rest) y → Read102 (begins ++ rest) z
    → (answered_by x ≡ either) × ((answered_by y ≡ old) × (answered_by z ≡ new))

-- what a reader answers on a page is what its record gives
on_page : (fs : List Form) (page : List ℕ) (r : Result ℤ Fault) → length page ≡ page_size → r ≡ read_page fs page → answered_by r ≡ answered_by (read_among fs page)
unfolding read_page
on_page fs page r e h = ap answered_by (h ∙ pick_true _ _ _ (eq-eqb (length page) page_size e))

row : (page : List ℕ) → length page ≡ page_size → (x y z : Result ℤ Fault) → ReadEither page x → Read101 page y → Read102 page z
    → (answered_by x ≡ answered_by (read_among (degrees ∷ tenths ∷ []) page))
    × ((answered_by y ≡ answered_by (read_among (degrees ∷ []) page)) × (answered_by z ≡ answered_by (read_among (tenths ∷ []) page)))
row page e x y z a b c =
    (on_page _ page x e (told_either page x a), (on_page _ page y e (told_101 page y b), on_page _ page z e (told_102 page z c)))

-- the beginnings
abbrev old_21 : List ℕ
old_21 = 0x03 ∷ 0x00 ∷ 0x65 ∷ 0x00 ∷ 0x15 ∷ []

abbrev old_ff : List ℕ
old_ff = 0x03 ∷ 0x00 ∷ 0x65 ∷ 0x00 ∷ 0xFF ∷ []

abbrev new_215 : List ℕ
new_215 = 0x04 ∷ 0x00 ∷ 0x66 ∷ 0x00 ∷ 0xD7 ∷ 0x00 ∷ []

abbrev new_ffff : List ℕ
new_ffff = 0x04 ∷ 0x00 ∷ 0x66 ∷ 0x00 ∷ 0xFF ∷ 0xFF ∷ []

abbrev old_too_long : List ℕ
old_too_long = 0x04 ∷ 0x00 ∷ 0x65 ∷ 0x00 ∷ 0x15 ∷ []

abbrev blank_page : List ℕ
blank_page = 0xFF ∷ 0xFF ∷ 0xFF ∷ 0xFF ∷ []

-- THEOREM: the table
pub record Table : Type 2 where
  pub degrees_21 : Row old_21 (setpoint (pos 210)) (setpoint (pos 210)) (refused 13)
  pub degrees_minus_one : Row old_ff (refused 15) (refused 15) (refused 13)
  pub tenths_215 : Row new_215 (setpoint (pos 215)) (refused 13) (setpoint (pos 215))
  pub tenths_minus_one : Row new_ffff (refused 15) (refused 13) (refused 15)
  pub too_long : Row old_too_long (refused 14) (refused 14) (refused 13)
  pub blank : Row blank_page (refused 13) (refused 13) (refused 13)

pub table : Table
unfolding read_among read_record judged between both signed pick
table =
    record {
      degrees_21 = λ rest. row (old_21 ++ rest);
      degrees_minus_one = λ rest. row (old_ff ++ rest);
      tenths_215 = λ rest. row (new_215 ++ rest);
      tenths_minus_one = λ rest. row (new_ffff ++ rest);
      too_long = λ rest. row (old_too_long ++ rest);
      blank = λ rest. row (blank_page ++ rest);
    }

-- THEOREM: "allowed from 10 to 35", "allowed from 180 to 270", both ends included
pub record Ends (f : Form) (below least most above : ℤ) : Type 0 where
  pub too_low : allowed f below ≡ false
  pub lowest : allowed f least ≡ true
  pub highest : allowed f most ≡ true
  pub too_high : allowed f above ≡ false

pub degrees_ends : Ends degrees (pos 9) (pos 10) (pos 35) (pos 36)
unfolding between both pick
degrees_ends = record { too_low = refl; lowest = refl; highest = refl; too_high = refl }

pub tenths_ends : Ends tenths (pos 179) (pos 180) (pos 270) (pos 271)
unfolding between both pick
tenths_ends = record { too_low = refl; lowest = refl; highest = refl; too_high = refl }
