-- Document 02, M-109: 13, 14 and 15 exactly when, in their order, by calls of the readers and the writers.
use Rattle.std.specs.Prelude.{ℕ, Bool, true, false, List, [], ◌∷◌, ◌⊎◌, ◌≡◌, refl, eqb, ℤ, pos, ◌*ℤ◌, length, Result}
use Rattle.std.proofs.Common.{arith, inl, inr, ◌∙◌, sym, subst, eqb-true}
use Rattle.std.proofs.Math.Path.{ap}
use Rattle.std.proofs.lemmas.Bool.{eqb-false}
use Rattle.base.specs.Exactly.{Iff, No, itself, then_exactly, both_exactly, or_exactly, no_exactly, equal_exactly, unequal_exactly}
use Rattle.base.specs.Pick.{pick, pick_of}
use Rattle.setpoints.specs.Kinds.{Form, degrees, tenths, allowed}
use Rattle.setpoints.specs.Pages.{page_size, length_in, kind_in, length_of, value_in, judged, read_record, read_among, read_page, Wrote, wrote, write_page, Answered, refused, answered_by, written_by}
use Rattle.setpoints.specs.Readers.{own_101, other_than_101}
use Rattle.setpoints.specs.declared.Fault.{Fault}
use Rattle.readback.specs.Calls.{Read101, Read102, ReadEither, told_101, told_102, told_either, Write101, Write102, wrote_by_101, wrote_by_102}
use Rattle.readback.specs.Refusals.{Own, ReadAs, ReadAsEither, WroteAs}
use Rattle.readback.specs.Tests.{chain, is_13, is_14, is_15, is_given, writes, wrote_13, wrote_14, wrote_15, wrote_well}

-- ---- a reader of one kind
module _ (f : Form) (page : List ℕ) where
  abbrev sized : Bool
  sized = eqb (length page) page_size

  abbrev own : Bool
  own = eqb (kind_in page) f.kind

  abbrev whole : Bool
  whole = eqb (length_in page) (length_of f)

  abbrev fine : Bool
  fine = allowed f (value_in f page)

  abbrev given : ℤ
  given = value_in f page *ℤ pos f.worth

  reads_by : answered_by (read_page (f ∷ []) page) ≡ chain sized own whole fine given
  unfolding read_page read_among read_record judged
  reads_by =
      pick_of answered_by _ _ _
      ∙ ap (λ (x : Answered). pick sized x (refused 14))
      (pick_of answered_by _ _ _
      ∙ ap (λ (x : Answered). pick own x (refused 13)) (pick_of answered_by _ _ _ ∙ ap (λ (x : Answered). pick whole x (refused 14)) (pick_of answered_by _ _ _)))

  -- each test says what it tests
  is_page : Iff (sized ≡ true) (length page ≡ 32)
  is_page = equal_exactly (length page) page_size

  is_own : Iff (own ≡ true) (Own f page)
  is_own = equal_exactly (kind_in page) f.kind

  is_whole : Iff (whole ≡ true) (length_in page ≡ length_of f)
  is_whole = equal_exactly (length_in page) (length_of f)

  by_chain : ReadAs f page (chain sized own whole fine given)
  by_chain =
      record {
        thirteen = then_exactly (is_13 sized own whole fine given) (both_exactly is_page (unequal_exactly (kind_in page) f.kind));
        fourteen =
            then_exactly (is_14 sized own whole fine given)
            (or_exactly (unequal_exactly (length page) page_size) (both_exactly is_page (both_exactly is_own (unequal_exactly (length_in page) (length_of f)))));
        fifteen = then_exactly (is_15 sized own whole fine given) (both_exactly is_page (both_exactly is_own (both_exactly is_whole (no_exactly fine))));
        given = λ z. then_exactly (is_given sized own whole fine given z) (both_exactly is_page (both_exactly is_own (both_exactly is_whole itself)));
      }

  reads_as : (r : Result ℤ Fault) → r ≡ read_page (f ∷ []) page → ReadAs f page (answered_by r)
  reads_as r e = subst (ReadAs f page) (sym (ap answered_by e ∙ reads_by)) by_chain

-- THEOREM: 13, 14 and 15 of the reader of kind 101, and of that of kind 102
pub refused_101 : (page : List ℕ) (r : Result ℤ Fault) → Read101 page r → ReadAs degrees page (answered_by r)
refused_101 page r c = reads_as degrees page r (told_101 page r c)

pub refused_102 : (page : List ℕ) (r : Result ℤ Fault) → Read102 page r → ReadAs tenths page (answered_by r)
refused_102 page r c = reads_as tenths page r (told_102 page r c)

-- ---- the common reader

-- of kind 101 it answers as the reader of that kind
of_101 : (page : List ℕ) (a : Answered) → Own degrees page → ReadAs degrees page a → ReadAsEither page a
of_101 page a k q =
    record {
      thirteen = ((λ e. absurd ((q.thirteen.0 e).1 k)), (λ p. absurd (p.1.0 k)));
      fourteen = then_exactly q.fourteen (or_exactly itself (both_exactly itself one));
      fifteen = then_exactly q.fifteen (both_exactly itself one);
      given = λ z. then_exactly (q.given z) (both_exactly itself one);
    }
  where
    one : {A B : Type 0} → Iff (Own degrees page × A) ((Own degrees page × A) ⊎ (Own tenths page × B))
    one {A} {B} = (inl, back)
      where
        back : (Own degrees page × A) ⊎ (Own tenths page × B) → Own degrees page × A
        back (inl p) = p
        back (inr p) = absurd (let n = p.0 in omega arith)

-- of any other as the reader of kind 102
of_102 : (page : List ℕ) (a : Answered) → No (Own degrees page) → ReadAs tenths page a → ReadAsEither page a
of_102 page a n q =
    record {
      thirteen = then_exactly q.thirteen (both_exactly itself ((λ m. (n, m)), (λ p. p.1)));
      fourteen = then_exactly q.fourteen (or_exactly itself (both_exactly itself other));
      fifteen = then_exactly q.fifteen (both_exactly itself other);
      given = λ z. then_exactly (q.given z) (both_exactly itself other);
    }
  where
    other : {A B : Type 0} → Iff (Own tenths page × B) ((Own degrees page × A) ⊎ (Own tenths page × B))
    other {A} {B} = (inr, back)
      where
        back : (Own degrees page × A) ⊎ (Own tenths page × B) → Own tenths page × B
        back (inl p) = absurd (n p.0)
        back (inr p) = p

-- THEOREM: 13, 14 and 15 of the common reader
pub refused_either : (page : List ℕ) (r : Result ℤ Fault) → ReadEither page r → ReadAsEither page (answered_by r)
refused_either page r c = by (eqb (kind_in page) 101) refl
  where
    by : (t : Bool) → eqb (kind_in page) 101 ≡ t → ReadAsEither page (answered_by r)
    by true e =
        let k = eqb-true (kind_in page) 101 e in
        of_101 page (answered_by r) k (reads_as degrees page r (told_either page r c ∙ sym (own_101 page k)))
    by false e =
        let n = eqb-false (kind_in page) 101 e in
        of_102 page (answered_by r) n (reads_as tenths page r (told_either page r c ∙ sym (other_than_101 page n)))

-- ---- the writers
module _ (f : Form) (v : ℤ) (page : List ℕ) where
  writes_by : written_by (write_page f v page).answer ≡ writes (eqb (length page) page_size) (allowed f v)
  unfolding write_page
  writes_by =
      pick_of (λ (w : Wrote). written_by w.answer) _ _ _
      ∙ ap (λ (x : Answered). pick (eqb (length page) page_size) x (refused 14)) (pick_of (λ (w : Wrote). written_by w.answer) _ _ _)

  wrote_as : (a : Result (Unit {0}) Fault) (after : List ℕ) → wrote a after ≡ write_page f v page → WroteAs f v page (written_by a)
  wrote_as a after e = subst (WroteAs f v page) (sym (ap (λ (w : Wrote). written_by w.answer) e ∙ writes_by)) by_writes
    where
      by_writes : WroteAs f v page (writes (eqb (length page) page_size) (allowed f v))
      by_writes =
          let s = eqb (length page) page_size in
          record {
            fourteen = then_exactly (wrote_14 s (allowed f v)) (unequal_exactly (length page) page_size);
            fifteen = then_exactly (wrote_15 s (allowed f v)) (both_exactly (equal_exactly (length page) page_size) (no_exactly (allowed f v)));
            written-to = then_exactly (wrote_well s (allowed f v)) (both_exactly (equal_exactly (length page) page_size) itself);
            no_thirteen = wrote_13 s (allowed f v);
          }

-- THEOREM: 14 and 15 of the writers
pub refused_write_101 : (d : ℤ) (page after : List ℕ) (a : Result (Unit {0}) Fault) → Write101 d page a after → WroteAs degrees d page (written_by a)
refused_write_101 d page after a c = wrote_as degrees d page a after (wrote_by_101 d page a after c)

pub refused_write_102 : (z : ℤ) (page after : List ℕ) (a : Result (Unit {0}) Fault) → Write102 z page a after → WroteAs tenths z page (written_by a)
refused_write_102 z page after a c = wrote_as tenths z page a after (wrote_by_102 z page a after c)
