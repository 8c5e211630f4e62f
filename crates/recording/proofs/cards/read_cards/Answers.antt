use borrow.Enum.Refused.{opened}
use native.Mathlib.Omega.{arith}
use Prim.Native.Nat.{ℕ}
use mathlib.Core.List.{[], ◌∷◌}
use mathlib.Core.Logic.{inl, inr}
use mathlib.Core.Path.{◌≡◌, ◌∙◌, ap}
use denote.Enum.Declared.{tag_of}
use types.Run.{OneOf}
use Rattle.std.specs.Prelude.{Ok}
use Rattle.recording.specs.CardLoop.{taking_start, taking_event, taking_stopped, taking_other, taking_next, taking_less}
use Rattle.recording.specs.declared.Record.{Record}
use Rattle.recording.specs.declared.Record.TheVariants as record_of
use Rattle.recording.specs.contracts.Record as record-type
use Rattle.recording.proofs.Absent.{no_record, no_record_refused}
use Rattle.recording.proofs.cards.read_cards.Goals as goal
use Rattle.recording.proofs.cards.read_cards.Goals.{in_default-via-in-Ok+in_default, in_default-via-in_default}

no-chip : (r : Record) → OneOf (1 ∷ 2 ∷ []) (tag_of record-type.the_type r) → (code kind : ℕ) → r ≡ record_of.Chip code kind → ⊥
no-chip r k code kind e = other _ k (ap (tag_of record-type.the_type) e)
  where
    other : (x : ℕ) → OneOf (1 ∷ 2 ∷ []) x → x ≡ 0 → ⊥
    other x (inl a) b = omega arith
    other x (inr a) b = omega arith

pub loop-table-init : goal.loop-table-init
loop-table-init c = let a = c.args in taking_start a.more a.s.now a.t

pub returns-then-starts_event : goal.returns-then-starts_event
returns-then-starts_event c = taking_event _ _ _ _ _ c.loop-table.invariant _ c.starts_event.ensures c.if-starts_event.true

pub returns-in_default : goal.returns-in_default
returns-in_default c = taking_stopped _ _ _ _ _ c.loop-table.invariant _ c.starts_event.ensures c.if-starts_event.false _ c.room_for.ensures _ c.record_at-found.ensures _ _ (elim c.in_default.branch [ in_default-via-in-Ok+in_default w ↦ no_record _ _ w.in_default.is (rw w.in_default.is at (opened w.in_default.in-End-own.keys2)) | in_default-via-in_default w ↦ no_record_refused _ _ w.in_default.is ]) c.stopped_by.ensures c.table_by.ensures

pub returns-in_default-taken : goal.returns-in_default-taken
returns-in_default-taken c = taking_other _ _ _ _ _ c.loop-table.invariant _ c.starts_event.ensures c.if-starts_event.false _ c.room_for.ensures _ c.record_at-found.ensures _ _ (c.in-Ok-Record.is ∙ (λ j. Ok ((rw c.in-Ok-Record.is at c.in-Ok-Record.field-0-is) j))) (no-chip _ (opened c.in_default-taken.in_default-taken-own.keys2))

pub loop-table-smaller : goal.loop-table-smaller
loop-table-smaller c = taking_less _ _ _ _ _ c.loop-table.invariant _ c.starts_event.ensures c.if-starts_event.false _ c.room_for.ensures _ c.record_at-found.ensures _ _ (c.in-Ok-Record.is ∙ (λ j. Ok ((rw c.in-Ok-Record.is at c.in-Ok-Record.field-0-is) j)))

pub loop-table-preserved : goal.loop-table-preserved
loop-table-preserved c = taking_next _ _ _ _ _ c.loop-table.invariant _ c.starts_event.ensures c.if-starts_event.false _ c.room_for.ensures _ c.record_at-found.ensures _ _ (c.in-Ok-Record.is ∙ (λ j. Ok ((rw c.in-Ok-Record.is at c.in-Ok-Record.field-0-is) j))) _ _ _ _ c.in-Chip.is c.set_up.ensures c.with_chip-table.ensures
