-- What a match that took another way knows: which variant was not found.
use native.Mathlib.Omega.{arith}
use Prim.Native.Nat.{ℕ}
use mathlib.Core.List.{[], ◌∷◌}
use mathlib.Core.Logic.{inl, inr}
use mathlib.Core.Path.{◌≡◌, ◌∙◌, ap, sym}
use denote.Enum.Declared.{tag_of}
use types.Run.{OneOf}
use Rattle.std.specs.Prelude.{Result, Ok, Err}
use Rattle.recording.specs.declared.Fault.{Fault}
use Rattle.recording.specs.declared.Found.{Found}
use Rattle.recording.specs.declared.Found.TheVariants as found
use Rattle.recording.specs.declared.Record.{Record}
use Rattle.recording.specs.declared.Record.TheVariants as record_of
use Rattle.recording.specs.contracts.Found as found_type
use Rattle.recording.specs.contracts.Record as record-type

-- what was found, if no fault was
abbrev found_in : Result Found Fault → Found
found_in (Ok x) = x
found_in (Err f) = found.End

-- a fault was found
abbrev faults : Result Found Fault → ℕ
faults (Ok x) = 0
faults (Err f) = 1

-- what was found is of a variant other than that of a record
pub no_record : (f : Result Found Fault) (x : Found) → f ≡ Ok x → OneOf (0 ∷ 1 ∷ []) (tag_of found_type.the_type x) → (r : Record) (next : ℕ) → f ≡ Ok (found.Record r next) → ⊥
no_record f x e k r next d = other _ k (ap (λ (y : Result Found Fault). tag_of found_type.the_type (found_in y)) (sym e ∙ d))
  where
    other : (x : ℕ) → OneOf (0 ∷ 1 ∷ []) x → x ≡ 2 → ⊥
    other x (inl a) b = omega arith
    other x (inr a) b = omega arith

-- a fault is no record
pub no_record_refused : (f : Result Found Fault) (x : Fault) → f ≡ Err x → (r : Record) (next : ℕ) → f ≡ Ok (found.Record r next) → ⊥
no_record_refused f x e r next d = let z : ◌≡◌ {A = ℕ} 1 0 = ap faults (sym e ∙ d) in omega arith

-- a variant other than that of a run of slots
pub no_slots : (r : Record) → OneOf (0 ∷ 2 ∷ []) (tag_of record-type.the_type r) → (count from to : ℕ) → r ≡ record_of.Slots count from to → ⊥
no_slots r k count from to e = other _ k (ap (tag_of record-type.the_type) e)
  where
    other : (x : ℕ) → OneOf (0 ∷ 2 ∷ []) x → x ≡ 1 → ⊥
    other x (inl a) b = omega arith
    other x (inr a) b = omega arith
