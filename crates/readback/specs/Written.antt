-- Document 02, M-109: "Both readers and both writers stay. Give either setpoint in signed tenths"; "A writer leaves the rest of the page"; "the
-- page is left as found". By calls of the writers and the readers.
use Rattle.std.specs.Prelude.{ℕ, ◌+◌, ◌-◌, ◌≤◌, List, [], ◌∷◌, ◌≡◌, refl, ℤ, pos, ◌*ℤ◌, length, get_or, drop, Result, Ok, Err}
use Rattle.std.proofs.Common.{arith, ◌∙◌, ap, sym, get_or-append-add, get_or-drop}
use Rattle.setpoints.specs.Kinds.{Form, degrees, tenths, form_of}
use Rattle.setpoints.specs.Pages.{page_size, kind_in, read_page, record_of}
use Rattle.setpoints.specs.Judging.{times_one}
use Rattle.setpoints.specs.Readers.{another_kind, own_101, other_than_101}
use Rattle.setpoints.specs.declared.Fault.{Fault}
use Rattle.setpoints.specs.declared.Fault.TheVariants.{AnotherKind}
use Rattle.setpoints.specs.declared.Kind.{Kind}
use Rattle.setpoints.specs.declared.Kind.TheVariants.{Degrees, Tenths}
use Rattle.readback.specs.Calls.{Read101, Read102, ReadEither, told_101, told_102, told_either, Write101, Write102, wrote_by_101, wrote_by_102}
use Rattle.readback.specs.Laws.{Did, wrote_it, left_it, did_by, written, bytes_written, kind_written, size_written, read_written}

-- ---- what was written is read back

-- a page is read so: by the reader of one kind and by the common one as a setpoint, and to the reader of the other kind it is of another kind
abbrev pub ReadsBack : (Own Other : List ℕ → Result ℤ Fault → Type 2) → ℤ → List ℕ → Type 2
ReadsBack Own Other z page =
    ((r : Result ℤ Fault) → Own page r → r ≡ Ok z)
    × (((r : Result ℤ Fault) → ReadEither page r → r ≡ Ok z)
    × ((r : Result ℤ Fault) → Other page r → r ≡ Err AnotherKind))

-- what the readers make of a page that was written
back_by : (kind : Kind) (v : ℤ) (page : List ℕ) (a : Result (Unit {0}) Fault) (after : List ℕ) → Did (form_of kind) v page a after → a ≡ Ok tt
    → (read_page (form_of kind ∷ []) after ≡ Ok (v *ℤ pos (form_of kind).worth)) × ((length after ≡ page_size) × (kind_in after ≡ (form_of kind).kind))
back_by kind v page a after (wrote_it e t) q = (read_written kind v page e t, (size_written kind v page e, kind_written kind v (drop (4 + (form_of kind).bytes) page)))
back_by kind v page a after (left_it f) q = cc

-- THEOREM: what was written as whole degrees is read back as ten times as many tenths
pub wrote_101 : (d : ℤ) (page after : List ℕ) → Write101 d page (Ok tt) after → ReadsBack Read101 Read102 (d *ℤ pos 10) after
wrote_101 d page after c =
    let b = back_by Degrees d page (Ok tt) after (did_by degrees d page (Ok tt) after (wrote_by_101 d page (Ok tt) after c)) refl in (
      (λ r x. told_101 after r x ∙ b.0),
      (
        (λ r x. told_either after r x ∙ sym (own_101 after b.1.1) ∙ b.0),
        (λ r x. told_102 after r x ∙ sym (another_kind tenths after b.1.0 (λ k. let n = b.1.1 in omega arith))),
      ),
    )

-- THEOREM: what was written as tenths is read back as they are
pub wrote_102 : (z : ℤ) (page after : List ℕ) → Write102 z page (Ok tt) after → ReadsBack Read102 Read101 z after
wrote_102 z page after c =
    let b = back_by Tenths z page (Ok tt) after (did_by tenths z page (Ok tt) after (wrote_by_102 z page (Ok tt) after c)) refl in
    let n : kind_in after ≡ 101 → ⊥ = λ k. let m = b.1.1 in omega arith in
    let s = b.0 ∙ ap (λ (x : ℤ). Ok x) (times_one z) in (
      (λ r x. told_102 after r x ∙ s),
      ((λ r x. told_either after r x ∙ sym (other_than_101 after n) ∙ s), (λ r x. told_101 after r x ∙ sym (another_kind degrees after b.1.0 n))),
    )

-- ---- the rest of the page

-- behind the record all is as it was, and the page has as many bytes
abbrev pub RestStays : ℕ → List ℕ → List ℕ → Type 0
RestStays from page after = (length after ≡ length page) × ((i : ℕ) → from ≤ i → get_or after i 0 ≡ get_or page i 0)

behind : (kind : Kind) (v : ℤ) (page : List ℕ) (i : ℕ) → 4 + (form_of kind).bytes ≤ i → get_or (written kind v (drop (4 + (form_of kind).bytes) page)) i 0 ≡ get_or page i 0
behind kind v page i h =
    let n = 4 + (form_of kind).bytes in
    let l = bytes_written kind v in
    let e : i ≡ length (record_of (form_of kind) v) + (i - n) = omega arith in
    let d : i ≡ n + (i - n) = omega arith in
    ap (λ (j : ℕ). get_or (written kind v (drop n page)) j 0) e ∙ get_or-append-add (record_of (form_of kind) v) (drop n page) (i - n) 0
    ∙ get_or-drop n page (i - n) 0 ∙ ap (λ (j : ℕ). get_or page j 0) (sym d)

stays : (kind : Kind) (v : ℤ) (page : List ℕ) (a : Result (Unit {0}) Fault) (after : List ℕ) → Did (form_of kind) v page a after → RestStays (4 + (form_of kind).bytes) page after
stays kind v page a after (wrote_it e t) = (size_written kind v page e ∙ sym e, behind kind v page)
stays kind v page a after (left_it f) = (refl, (λ i h. refl))

-- THEOREM: bytes 5 to 31 are as before, or 6 to 31
pub rest_stays_101 : (d : ℤ) (page after : List ℕ) (a : Result (Unit {0}) Fault) → Write101 d page a after → RestStays 5 page after
rest_stays_101 d page after a c = stays Degrees d page a after (did_by degrees d page a after (wrote_by_101 d page a after c))

pub rest_stays_102 : (z : ℤ) (page after : List ℕ) (a : Result (Unit {0}) Fault) → Write102 z page a after → RestStays 6 page after
rest_stays_102 z page after a c = stays Tenths z page a after (did_by tenths z page a after (wrote_by_102 z page a after c))

-- ---- refusals
left : (f : Form) (v : ℤ) (page : List ℕ) (a : Result (Unit {0}) Fault) (after : List ℕ) (fault : Fault) → Did f v page a after → a ≡ Err fault → after ≡ page
left f v page a after fault (wrote_it e t) q = cc
left f v page a after fault (left_it g) q = refl

-- THEOREM: a refused write changes nothing
pub refused_leaves_101 : (d : ℤ) (page after : List ℕ) (f : Fault) → Write101 d page (Err f) after → after ≡ page
refused_leaves_101 d page after f c = left degrees d page (Err f) after f (did_by degrees d page (Err f) after (wrote_by_101 d page (Err f) after c)) refl

pub refused_leaves_102 : (z : ℤ) (page after : List ℕ) (f : Fault) → Write102 z page (Err f) after → after ≡ page
refused_leaves_102 z page after f c = left tenths z page (Err f) after f (did_by tenths z page (Err f) after (wrote_by_102 z page (Err f) after c)) refl
