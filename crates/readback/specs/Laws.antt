-- Laws: what a writer leaves, and what is read of it.
use Rattle.std.specs.Prelude.{ℕ, ◌+◌, ◌*◌, ◌/◌, ◌%◌, ◌^◌, ◌<◌, ◌≤◌, Bool, true, false, List, [], ◌∷◌, ◌++◌, ◌≡◌, refl, eqb, ℤ, pos, nat_abs, ◌*ℤ◌, length, drop, Result, Ok, Err}
use Rattle.std.proofs.Common.{arith, ◌∙◌, ap, sym, subst, length-drop, eqb-true, lt-ltb}
use Rattle.base.specs.Pick.{pick, pick_true}
use Rattle.setpoints.specs.Signed.{signed}
use Rattle.setpoints.specs.Kinds.{Form, form_of, allowed}
use Rattle.setpoints.specs.Pages.{page_size, length_in, kind_in, length_of, value_in, judged, read_page, record_of, Wrote, wrote, write_page}
use Rattle.setpoints.specs.Judging.{at_least, allowed_few}
use Rattle.setpoints.specs.Readers.{whole_record}
use Rattle.setpoints.specs.declared.Fault.{Fault}
use Rattle.setpoints.specs.declared.Fault.TheVariants.{WrongLength, OutOfRange}
use Rattle.setpoints.specs.declared.Kind.{Kind}
use Rattle.setpoints.specs.declared.Kind.TheVariants.{Degrees, Tenths}

-- what a writer did: it wrote an allowed value on a page, or refused and left all as it was
pub data Did (f : Form) (v : ℤ) (page : List ℕ) : Result (Unit {0}) Fault → List ℕ → Type 0 where
  wrote_it : length page ≡ page_size → allowed f v ≡ true → Did f v page (Ok tt) (record_of f v ++ drop (4 + f.bytes) page)
  left_it : (fault : Fault) → Did f v page (Err fault) page

pub did : (f : Form) (v : ℤ) (page : List ℕ) → Did f v page (write_page f v page).answer (write_page f v page).page
unfolding write_page pick
did f v page = by (eqb (length page) page_size) (allowed f v) refl refl
  where
    out : Bool → Bool → Wrote
    out s a = pick s (pick a (wrote (Ok tt) (record_of f v ++ drop (4 + f.bytes) page)) (wrote (Err OutOfRange) page)) (wrote (Err WrongLength) page)

    by : (s a : Bool) → eqb (length page) page_size ≡ s → allowed f v ≡ a → Did f v page (out s a).answer (out s a).page
    by true true e t = wrote_it (eqb-true _ _ e) t
    by true false e t = left_it OutOfRange
    by false a e t = left_it WrongLength

-- so of whatever comes to what is written
pub did_by : (f : Form) (v : ℤ) (page : List ℕ) (a : Result (Unit {0}) Fault) (after : List ℕ) → wrote a after ≡ write_page f v page → Did f v page a after
did_by f v page a after e = subst (λ (w : Wrote). Did f v page w.answer w.page) (sym e) (did f v page)

-- ---- a record that was written

-- what was written, with anything behind it
abbrev pub written : Kind → ℤ → List ℕ → List ℕ
written kind v rest = record_of (form_of kind) v ++ rest

-- it has four bytes and those of the value
pub bytes_written : (kind : Kind) (v : ℤ) → length (record_of (form_of kind) v) ≡ 4 + (form_of kind).bytes
bytes_written Degrees v = refl
bytes_written Tenths v = refl

-- it has the length and the kind of its own kind, and fills a page with what stood behind it
pub size_written : (kind : Kind) (v : ℤ) (page : List ℕ) → length page ≡ page_size → length (written kind v (drop (4 + (form_of kind).bytes) page)) ≡ page_size
size_written Degrees v page e = let l = length-drop 5 page in omega arith
size_written Tenths v page e = let l = length-drop 6 page in omega arith

pub kind_written : (kind : Kind) (v : ℤ) (rest : List ℕ) → kind_in (written kind v rest) ≡ (form_of kind).kind
kind_written Degrees v rest = refl
kind_written Tenths v rest = refl

length_written : (kind : Kind) (v : ℤ) (rest : List ℕ) → length_in (written kind v rest) ≡ length_of (form_of kind)
length_written Degrees v rest = refl
length_written Tenths v rest = refl

-- and holds the value
small_number : (bytes n m : ℕ) → n < 256 ^ bytes / 2 → n ≡ m → signed bytes n ≡ pos m
unfolding signed
small_number bytes n m h e = pick_true _ _ _ (lt-ltb n (256 ^ bytes / 2) h) ∙ ap pos e

value_of : (kind : Kind) (n : ℕ) (rest : List ℕ) → n ≤ 270 → allowed (form_of kind) (pos n) ≡ true → value_in (form_of kind) (written kind (pos n) rest) ≡ pos n
value_of Degrees n rest h t = let p = (at_least 10 35 (pos n) t).1.1 in small_number 1 (n % 256) n (omega arith) (omega arith)
value_of Tenths n rest h t = small_number 2 (n % 256 + 256 * (n / 256 % 256)) n (omega arith) (omega arith)

value_written : (kind : Kind) (v : ℤ) (rest : List ℕ) → allowed (form_of kind) v ≡ true → value_in (form_of kind) (written kind v rest) ≡ v
value_written kind v rest t =
    let p = allowed_few kind v t in
    subst (λ (z : ℤ). value_in (form_of kind) (written kind z rest) ≡ z) p.0 (value_of kind (nat_abs v) rest p.1 (subst (λ (z : ℤ). allowed (form_of kind) z ≡ true) (sym p.0) t))

-- so its own reader gives the setpoint back
pub read_written : (kind : Kind) (v : ℤ) (page : List ℕ) → length page ≡ page_size → allowed (form_of kind) v ≡ true
    → read_page (form_of kind ∷ []) (written kind v (drop (4 + (form_of kind).bytes) page)) ≡ Ok (v *ℤ pos (form_of kind).worth)
unfolding judged
read_written kind v page e t =
    let rest = drop (4 + (form_of kind).bytes) page in
    sym (whole_record (form_of kind) (written kind v rest) (size_written kind v page e) (kind_written kind v rest) (length_written kind v rest))
    ∙ ap (judged (form_of kind)) (value_written kind v rest t)
    ∙ pick_true _ _ _ t
