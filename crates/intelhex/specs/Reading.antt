-- Document 02, M-110: "Take records of any data length up to 255, upper or lower case, in any order; a byte given twice takes the later value, a byte not given is FFh."
-- What a text gives, line by line, and the image that is read of it. What is quoted below of a file's end is the request that settled the rest.
use Rattle.std.specs.Prelude.{ℕ, zero, suc, ◌+◌, Bool, true, false, List, [], ◌∷◌, ◌++◌, length, take, drop, replicate, ◌==◌, Result, Ok, Err}
use Rattle.std.proofs.lemmas.List.Edits.{sets}
use Rattle.base.specs.Pick.{pick}
use Rattle.intelhex.specs.Faults.{image_size}
use Rattle.intelhex.specs.Bytes.{bytes_of}
use Rattle.intelhex.specs.Lines.{standing, form_of, data_in, judged}
use Rattle.intelhex.specs.declared.Fault.TheVariants.{WrongSize, TooLong, NoLineEnd, NoEndRecord, AfterEnd}
use Rattle.intelhex.specs.declared.Ending.{Ending}
use Rattle.intelhex.specs.declared.Ending.TheVariants.{End, Part}
use Rattle.intelhex.specs.declared.lines.Standing.{Standing}
use Rattle.intelhex.specs.declared.lines.Standing.TheVariants.{Nothing, Unended, Endless, Line}
use Rattle.intelhex.specs.declared.record.Judged.{Judged}
use Rattle.intelhex.specs.declared.record.Judged.TheVariants as judged-as
use Rattle.intelhex.specs.declared.Fault.{Fault}
use Rattle.intelhex.specs.declared.Refused.{Refused}

-- what a data record gives: bytes, from an address on
pub record Given : Type 0 where
  pub address : ℕ
  pub bytes : List ℕ

abbrev pub given : ℕ → List ℕ → Given
given address bytes = record { address = address; bytes = bytes }

-- what stands next in a text: a data record or the end record, each with the characters that it takes up, or nothing that can be taken
pub data Next : Type 0 where
  data-record : ℕ → Given → Next
  end-record : ℕ → Next
  stop : Result Ending Fault → Next

-- a record, by its bytes
abbrev pub next_by : ℕ → List ℕ → Result Judged Fault → Next
next_by size bytes (Ok (judged-as.Data address count)) = data-record size (given address (data_in bytes))
next_by size bytes (Ok judged-as.End) = end-record size
next_by size bytes (Err f) = stop (Err f)

-- a line, by its characters
abbrev pub next_in : ℕ → List ℕ → Result ℕ Fault → Next
next_in size line (Ok n) = let bytes = bytes_of (drop 1 line) in next_by size bytes (judged bytes)
next_in size line (Err f) = stop (Err f)

-- how a text ends where there is no more of it at hand: in the one way, or where more of it may come
abbrev pub ends_at : Bool → Result Ending Fault → Result Ending Fault
ends_at more e = pick more (Ok Part) e

-- before the end record: "20: the file ends without an end record (an empty file too)"; "16: no LF at its end (also of an end record that is the file's last line)".
-- Where more of the text may come, neither is known
abbrev pub next_of : Bool → List ℕ → Standing → Next
next_of more text Nothing = stop (ends_at more (Err NoEndRecord))
next_of more text Unended = stop (ends_at more (Err NoLineEnd))
next_of more text Endless = stop (Err TooLong)
next_of more text (Line n size) = next_in size (take n text) (form_of (take n text))

-- after it: "anything at all follows it"
unfoldable pub next_after : Bool → List ℕ → Next
next_after more text = pick (length text == 0) (stop (ends_at more (Ok End))) (stop (Err AfterEnd))

unfoldable pub next : Bool → Bool → List ℕ → Next
next over more text = pick over (next_after more text) (next_of more text (standing text))

-- what was read of a text: what it gives in order, how reading ended, after how many characters and lines, and whether the end record was among them or before them
pub record Found : Type 0 where
  pub given : List Given
  pub ending : Result Ending Fault
  pub at : ℕ
  pub lines : ℕ
  pub over : Bool

abbrev pub found : List Given → Result Ending Fault → ℕ → ℕ → Bool → Found
found gs e at lines over = record { given = gs; ending = e; at = at; lines = lines; over = over }

-- the same with what was read before it
abbrev pub following : List Given → ℕ → ℕ → Found → Found
following gs at lines f = found (gs ++ f.given) f.ending (at + f.at) (lines + f.lines) f.over

abbrev pub on_next : (Bool → List ℕ → Found) → Bool → List ℕ → Next → Found
on_next go over text (data-record size g) = following (g ∷ []) size 1 (go false (drop size text))
on_next go over text (end-record size) = following [] size 1 (go true (drop size text))
on_next go over text (stop e) = found [] e 0 0 over

-- at most so many lines of a text, after the end record or not, where more of it may come or not
unfoldable pub lines_from : ℕ → Bool → Bool → List ℕ → Found
lines_from zero more over text = found [] (Ok Part) 0 0 over
lines_from (suc k) more over text = on_next (λ o t. lines_from k more o t) over text (next over more text)

-- all of them; each line takes up a character, so that a turn for each character, and one for the end, are enough
unfoldable pub lines_of : Bool → Bool → List ℕ → Found
lines_of more over text = lines_from (suc (length text)) more over text

-- ---- the image

-- what is given put into an image, in order: "a byte given twice takes the later value"
abbrev pub put_all : List Given → List ℕ → List ℕ
put_all [] image = image
put_all (g ∷ gs) image = put_all gs (sets image g.address g.bytes)

-- "a byte not given is FFh"
abbrev pub blank : List ℕ
blank = replicate image_size 0xFF

-- what comes of what is there of a text: how it ended and where, and the image under way; 5 for an image of another size
pub record Went : Type 0 where
  pub ending : Result Ending Fault
  pub at : ℕ
  pub lines : ℕ
  pub over : Bool
  pub image : List ℕ

abbrev pub went : Result Ending Fault → ℕ → ℕ → Bool → List ℕ → Went
went e at lines over image = record { ending = e; at = at; lines = lines; over = over; image = image }

abbrev pub went_by : List ℕ → Found → Went
went_by image f = went f.ending f.at f.lines f.over (put_all f.given image)

unfoldable pub read_lines : Bool → Bool → List ℕ → List ℕ → Went
read_lines over more text image = pick (length image == image_size) (went_by image (lines_of more over text)) (went (Err WrongSize) 0 0 over image)

-- a refusal, and how many lines stand before the one at fault
abbrev pub refusing : Fault → ℕ → Result (Unit {0}) Refused
refusing f lines = Err (record { fault = f; lines = lines })

-- what reading a whole text answers, and the image that it leaves: "the image is left as found"
pub record Read : Type 0 where
  pub answer : Result (Unit {0}) Refused
  pub image : List ℕ

abbrev pub read : Result (Unit {0}) Refused → List ℕ → Read
read a image = record { answer = a; image = image }

-- by how it ended; of a whole text it never ends where more may come
abbrev pub read_by : List ℕ → List ℕ → ℕ → Result Ending Fault → Read
read_by image made lines (Ok End) = read (Ok tt) made
read_by image made lines (Ok Part) = read (refusing NoEndRecord lines) image
read_by image made lines (Err f) = read (refusing f lines) image

-- "5 first, an image not of 2,624 bytes"
unfoldable pub read_text : List ℕ → List ℕ → Read
read_text text image =
    let f = lines_of false false text in
    pick (length image == image_size) (read_by image (put_all f.given blank) f.lines f.ending) (read (refusing WrongSize 0) image)
