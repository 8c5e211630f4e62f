-- Calls of the readers and the writers of setpoint records: whoever makes one is told what its contract says.
use Rattle.std.specs.Prelude.{ℕ, List, ◌≡◌, refl, ℤ, Result}
use Rattle.std.proofs.Common.{◌∙◌, ap}
use contract.Lifetimes.{Lfts}
use Rattle.std.specs.Borrow.{Bor, MutBor}
use denote.Triple.Clauses.{at_exit}
use Rattle.base.specs.Lent.{lent_as, lent_to_change}
use Rattle.setpoints.specs.Pages.{read101, read102, read_either, wrote, write101, write102}
use Rattle.setpoints.specs.declared.Kind.TheVariants.{Degrees, Tenths}
use Rattle.setpoints.specs.contracts as setpoints
use Rattle.setpoints.proofs as setpoints_proofs
use Rattle.setpoints.specs.declared.Fault.{Fault}

-- ---- readers

-- a call of a reader: the page lies anywhere, and the reader's contract permits the answer
pub record ReadCall (Permits : Lfts 1 → Bor (List ℕ) → Result ℤ Fault → Type 0) (page : List ℕ) (answer : Result ℤ Fault) : Type 2 where
  pub κs : Lfts 1
  pub bytes : Bor (List ℕ)
  pub from_bytes : bytes.now ≡ page
  pub permits : Permits κs bytes answer

-- `setpoints::read` of each kind, and `setpoints::read_either`
abbrev pub Read101 : List ℕ → Result ℤ Fault → Type 2
Read101 = ReadCall (λ κs bytes r. setpoints_proofs.read.Reads.Learnt κs (Degrees, (bytes, tt)) r (at_exit setpoints.read.ended κs (Degrees, (bytes, tt)) (tt, (tt, tt))))

abbrev pub Read102 : List ℕ → Result ℤ Fault → Type 2
Read102 = ReadCall (λ κs bytes r. setpoints_proofs.read.Reads.Learnt κs (Tenths, (bytes, tt)) r (at_exit setpoints.read.ended κs (Tenths, (bytes, tt)) (tt, (tt, tt))))

abbrev pub ReadEither : List ℕ → Result ℤ Fault → Type 2
ReadEither = ReadCall (λ κs bytes r. setpoints_proofs.read_either.Reads.Learnt κs (bytes, tt) r (at_exit setpoints.read_either.ended κs (bytes, tt) (tt, tt)))

pub told_101 : (page : List ℕ) (r : Result ℤ Fault) → Read101 page r → r ≡ read101 page
told_101 page r c = c.permits ∙ ap read101 c.from_bytes

pub told_102 : (page : List ℕ) (r : Result ℤ Fault) → Read102 page r → r ≡ read102 page
told_102 page r c = c.permits ∙ ap read102 c.from_bytes

pub told_either : (page : List ℕ) (r : Result ℤ Fault) → ReadEither page r → r ≡ read_either page
told_either page r c = c.permits ∙ ap read_either c.from_bytes

-- ---- writers

-- a call of a writer: the page lies anywhere, and the writer's contract permits the answer and what the page holds then
pub record WriteCall (Permits : Lfts 1 → MutBor (List ℕ) → ℤ → Result (Unit {0}) Fault → List ℕ → Type 0) (v : ℤ) (page : List ℕ) (answer : Result (Unit {0}) Fault) (after : List ℕ) : Type 2 where
  pub κs : Lfts 1
  pub bytes : MutBor (List ℕ)
  pub from_bytes : bytes.now ≡ page
  pub permits : Permits κs bytes v answer after

-- `setpoints::write` of each kind
abbrev pub Write101 : ℤ → List ℕ → Result (Unit {0}) Fault → List ℕ → Type 2
Write101 = WriteCall (λ κs bytes v r after. setpoints_proofs.write.Reads.Learnt κs (Degrees, (bytes, (v, tt))) r (at_exit setpoints.write.ended κs (Degrees, (bytes, (v, tt))) (tt, (after, (tt, tt)))))

abbrev pub Write102 : ℤ → List ℕ → Result (Unit {0}) Fault → List ℕ → Type 2
Write102 = WriteCall (λ κs bytes v r after. setpoints_proofs.write.Reads.Learnt κs (Tenths, (bytes, (v, tt))) r (at_exit setpoints.write.ended κs (Tenths, (bytes, (v, tt))) (tt, (after, (tt, tt)))))

pub wrote_by_101 : (v : ℤ) (page : List ℕ) (a : Result (Unit {0}) Fault) (after : List ℕ) → Write101 v page a after → wrote a after ≡ write101 v page
wrote_by_101 v page a after c = c.permits ∙ ap (write101 v) c.from_bytes

pub wrote_by_102 : (v : ℤ) (page : List ℕ) (a : Result (Unit {0}) Fault) (after : List ℕ) → Write102 v page a after → wrote a after ≡ write102 v page
wrote_by_102 v page a after c = c.permits ∙ ap (write102 v) c.from_bytes

-- ---- there are such calls

-- THEOREM: every call has an outcome that its contract permits, whatever is lent and however long it lives
pub some_read_101 : Lfts 1 → (page : List ℕ) → Read101 page (read101 page)
some_read_101 κs page = record { κs = κs; bytes = lent_as page; from_bytes = refl; permits = refl }

pub some_read_102 : Lfts 1 → (page : List ℕ) → Read102 page (read102 page)
some_read_102 κs page = record { κs = κs; bytes = lent_as page; from_bytes = refl; permits = refl }

pub some_read_either : Lfts 1 → (page : List ℕ) → ReadEither page (read_either page)
some_read_either κs page = record { κs = κs; bytes = lent_as page; from_bytes = refl; permits = refl }

pub some_write_101 : Lfts 1 → (d : ℤ) (page : List ℕ) → Write101 d page (write101 d page).answer (write101 d page).page
some_write_101 κs d page = record { κs = κs; bytes = lent_to_change page; from_bytes = refl; permits = refl }

pub some_write_102 : Lfts 1 → (z : ℤ) (page : List ℕ) → Write102 z page (write102 z page).answer (write102 z page).page
some_write_102 κs z page = record { κs = κs; bytes = lent_to_change page; from_bytes = refl; permits = refl }
