-- Calls of the functions of `intelhex`: whoever makes one is told what its contract says.
use Rattle.std.specs.Prelude.{ℕ, Bool, List, ◌≡◌, refl, Result}
use Rattle.std.proofs.Common.{◌∙◌}
use contract.Lifetimes.{Lfts}
use Rattle.std.specs.Borrow.{Bor, MutBor}
use denote.Triple.Clauses.{at_exit}
use Rattle.base.specs.Lent.{lent_as, lent_to_change}
use Rattle.intelhex.specs.Written.{wrote, write_text}
use Rattle.intelhex.specs.Reading.{went, read_lines, read, read_text}
use Rattle.intelhex.specs.declared.Taken.{Taken}
use Rattle.intelhex.specs.contracts as intelhex
use Rattle.intelhex.proofs as intelhex_proofs
use Rattle.intelhex.specs.declared.Fault.{Fault}
use Rattle.intelhex.specs.declared.Refused.{Refused}

-- a call of `intelhex::write_text`: image and text lie anywhere, and the contract permits the answer and what the text holds then
pub record WriteText (image text : List ℕ) (answer : Result (Unit {0}) Fault) (after : List ℕ) : Type 2 where
  pub κs : Lfts 2
  pub bytes : Bor (List ℕ)
  pub characters : MutBor (List ℕ)
  pub from_bytes : bytes.now ≡ image
  pub from_characters : characters.now ≡ text
  pub permits : intelhex_proofs.write_text.Reads.Learnt κs (bytes, (characters, tt)) answer (at_exit intelhex.write_text.ended κs (bytes, (characters, tt)) (tt, (after, tt)))

pub wrote_by : (image text : List ℕ) (a : Result (Unit {0}) Fault) (after : List ℕ) → WriteText image text a after → wrote a after ≡ write_text image text
wrote_by image text a after c = c.permits ∙ λ j. write_text (c.from_bytes j) (c.from_characters j)

-- a call of `intelhex::read_text`
pub record ReadText (text image : List ℕ) (answer : Result (Unit {0}) Refused) (after : List ℕ) : Type 2 where
  pub κs : Lfts 2
  pub characters : Bor (List ℕ)
  pub bytes : MutBor (List ℕ)
  pub from_characters : characters.now ≡ text
  pub from_bytes : bytes.now ≡ image
  pub permits : intelhex_proofs.read_text.Reads.Learnt κs (characters, (bytes, tt)) answer (at_exit intelhex.read_text.ended κs (characters, (bytes, tt)) (tt, (after, tt)))

pub read-by : (text image : List ℕ) (a : Result (Unit {0}) Refused) (after : List ℕ) → ReadText text image a after → read a after ≡ read_text text image
read-by text image a after c = c.permits ∙ λ j. read_text (c.from_characters j) (c.from_bytes j)

-- a call of `intelhex::read_lines`
pub record ReadLines (over more : Bool) (text image : List ℕ) (back : Taken) (after : List ℕ) : Type 2 where
  pub κs : Lfts 2
  pub characters : Bor (List ℕ)
  pub bytes : MutBor (List ℕ)
  pub from_characters : characters.now ≡ text
  pub from_bytes : bytes.now ≡ image
  pub permits : intelhex_proofs.read_lines.Reads.Learnt κs (over, (characters, (more, (bytes, tt)))) back
      (at_exit intelhex.read_lines.ended κs (over, (characters, (more, (bytes, tt)))) (tt, (tt, (tt, (after, tt)))))

pub went-by : (over more : Bool) (text image : List ℕ) (back : Taken) (after : List ℕ) → ReadLines over more text image back after
    → went back.ending back.at back.lines back.over after ≡ read_lines over more text image
went-by over more text image back after c = c.permits ∙ λ j. read_lines over more (c.from_characters j) (c.from_bytes j)

-- ---- there are such calls

-- THEOREM: every call has an outcome that its contract permits, whatever is lent and however long it lives
pub some_write_text : Lfts 2 → (image text : List ℕ) → WriteText image text (write_text image text).answer (write_text image text).text
some_write_text κs image text = record { κs = κs; bytes = lent_as image; characters = lent_to_change text; from_bytes = refl; from_characters = refl; permits = refl }

pub some_read_text : Lfts 2 → (text image : List ℕ) → ReadText text image (read_text text image).answer (read_text text image).image
some_read_text κs text image = record { κs = κs; characters = lent_as text; bytes = lent_to_change image; from_characters = refl; from_bytes = refl; permits = refl }

pub some_read_lines : Lfts 2 → (over more : Bool) (text image : List ℕ)
    → let w = read_lines over more text image in ReadLines over more text image (record { ending = w.ending; at = w.at; lines = w.lines; over = w.over }) w.image
some_read_lines κs over more text image = record { κs = κs; characters = lent_as text; bytes = lent_to_change image; from_characters = refl; from_bytes = refl; permits = refl }
