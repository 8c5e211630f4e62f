-- Document 02, M-109: "Refusals: 14 first for a page not of 32 bytes; then 13, another kind; 14, wrong length; 15, out of range; in that
-- order". What each answer says of the page, exactly.
use Rattle.std.specs.Prelude.{true, List, ◌⊎◌, ◌≡◌, ℕ, ℤ, pos, ◌*ℤ◌, length}
use Rattle.base.specs.Exactly.{Iff, No}
use Rattle.setpoints.specs.Kinds.{Form, degrees, tenths, allowed}
use Rattle.setpoints.specs.Pages.{length_in, kind_in, length_of, value_in, Answered, setpoint, written, refused}

-- a page, and how its record stands to a form: it is of that kind, of that length, and its value is allowed
abbrev pub Page : List ℕ → Type 0
Page page = length page ≡ 32

abbrev pub Own : Form → List ℕ → Type 0
Own f page = kind_in page ≡ f.kind

abbrev pub Whole : Form → List ℕ → Type 0
Whole f page = length_in page ≡ length_of f

abbrev pub Fine : Form → List ℕ → Type 0
Fine f page = allowed f (value_in f page) ≡ true

-- the setpoint in it
abbrev pub Gives : Form → List ℕ → ℤ → Type 0
Gives f page z = z ≡ value_in f page *ℤ pos f.worth

-- ---- what each answer says

-- of a reader of one kind
pub record ReadAs (f : Form) (page : List ℕ) (a : Answered) : Type 0 where
  pub thirteen : Iff (a ≡ refused 13) (Page page × No (Own f page))
  pub fourteen : Iff (a ≡ refused 14) (No (Page page) ⊎ (Page page × (Own f page × No (Whole f page))))
  pub fifteen : Iff (a ≡ refused 15) (Page page × (Own f page × (Whole f page × No (Fine f page))))
  pub given : (z : ℤ) → Iff (a ≡ setpoint z) (Page page × (Own f page × (Whole f page × (Fine f page × Gives f page z))))

-- of the common reader
pub record ReadAsEither (page : List ℕ) (a : Answered) : Type 0 where
  pub thirteen : Iff (a ≡ refused 13) (Page page × (No (Own degrees page) × No (Own tenths page)))
  pub fourteen : Iff (a ≡ refused 14) (No (Page page) ⊎ (Page page × ((Own degrees page × No (Whole degrees page)) ⊎ (Own tenths page × No (Whole tenths page)))))
  pub fifteen : Iff (a ≡ refused 15)
      (Page page × ((Own degrees page × (Whole degrees page × No (Fine degrees page))) ⊎ (Own tenths page × (Whole tenths page × No (Fine tenths page)))))
  pub given : (z : ℤ) → Iff (a ≡ setpoint z)
      (Page page × ((Own degrees page × (Whole degrees page × (Fine degrees page × Gives degrees page z)))
      ⊎ (Own tenths page × (Whole tenths page × (Fine tenths page × Gives tenths page z)))))

-- of a writer, which has no 13
pub record WroteAs (f : Form) (v : ℤ) (page : List ℕ) (a : Answered) : Type 0 where
  pub fourteen : Iff (a ≡ refused 14) (No (Page page))
  pub fifteen : Iff (a ≡ refused 15) (Page page × No (allowed f v ≡ true))
  pub written-to : Iff (a ≡ written) (Page page × (allowed f v ≡ true))
  pub no_thirteen : No (a ≡ refused 13)
