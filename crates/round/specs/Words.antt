-- The request M-108, "The program": "`round [--images FILE] [--places N] [--pages BYTES]`". What the arguments ask for.
use Prim.Native.Char.{code as letter}
use Rattle.std.specs.Prelude.{ℕ, List, [], ◌∷◌, leb, Option, Some, None}
use Rattle.std.specs.Option.{unwrap_or}
use Rattle.base.specs.Bytes.{same_bytes}
use Rattle.base.specs.Pick.{pick}
use Rattle.numerals.specs.Numerals.{digits_in}
use Rattle.numerals.specs.Numerals.{counted_by}
use Rattle.round.specs.declared.words.Word.{Word}
use Rattle.round.specs.declared.words.Word.TheVariants.{Images, Places, Pages}
use Rattle.round.specs.declared.words.Request.{Request}

-- ---- words

abbrev pub images_word : List ℕ
images_word = letter "-" ∷ letter "-" ∷ letter "i" ∷ letter "m" ∷ letter "a" ∷ letter "g" ∷ letter "e" ∷ letter "s" ∷ []

abbrev pub places_word : List ℕ
places_word = letter "-" ∷ letter "-" ∷ letter "p" ∷ letter "l" ∷ letter "a" ∷ letter "c" ∷ letter "e" ∷ letter "s" ∷ []

abbrev pub pages_word : List ℕ
pages_word = letter "-" ∷ letter "-" ∷ letter "p" ∷ letter "a" ∷ letter "g" ∷ letter "e" ∷ letter "s" ∷ []

-- the option that a word is
unfoldable pub word_of : List ℕ → Option Word
word_of word = pick (same_bytes word images_word) (Some Images) (pick (same_bytes word places_word) (Some Places) (pick (same_bytes word pages_word) (Some Pages) None))

-- ---- values

-- an option may stand once: given again, it is as one without a value
abbrev pub once : Option ℕ → Option ℕ → Option ℕ
once None given = given
once (Some n) given = None

-- ---- what is asked for

-- each option beside what was asked for before; "Other arguments get a usage line"
abbrev pub with_images : Request → Option ℕ → Option Request
with_images r (Some at) = Some (record { images = Some at; places = r.places; pages = r.pages })
with_images r None = None

abbrev pub with_places : Request → Option ℕ → Option Request
with_places r (Some n) = Some (record { images = r.images; places = Some n; pages = r.pages })
with_places r None = None

-- "(0 to 1,024 may be given)"
abbrev pub with_pages : Request → Option ℕ → Option Request
with_pages r (Some n) = pick (leb n 1024) (Some (record { images = r.images; places = r.places; pages = Some n })) None
with_pages r None = None

-- a word and its value, which is the argument of that number; a text that is no digits gives nothing
abbrev pub taken : Request → Option Word → List ℕ → ℕ → Option Request
taken r (Some Images) value at = with_images r (once r.images (Some at))
taken r (Some Places) value at = with_places r (once r.places (counted_by (digits_in value)))
taken r (Some Pages) value at = with_pages r (once r.pages (counted_by (digits_in value)))
taken r None value at = None

-- "Without the other two there are 16 places .. and 32 m bytes": what is given, or else another number
abbrev pub given_or : Option ℕ → ℕ → ℕ
given_or = unwrap_or
