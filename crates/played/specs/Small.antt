-- Laws: no record that can be taken is longer than a run of 65,535 slots, so of a record of which more may come fewer bytes are there.
use Rattle.std.specs.Prelude.{ℕ, ◌+◌, ◌-◌, ◌<◌, ◌≤◌, Bool, List, ◌≡◌, Result, Ok, Err}
use native.Mathlib.Omega.{arith}
use Rattle.std.proofs.Math.Bool.{true}
use Rattle.std.proofs.Math.ListN.{length}
use borrow.Author.Tests.{ltb-true, eqb-true}
use Rattle.base.specs.Both.{both_holds}
use Rattle.base.specs.Pick.{pick_if, pick_both}
use Rattle.histories.specs.Below.{Bytes, byte_at}
use Rattle.recording.specs.declared.Fault.{Fault}
use Rattle.recording.specs.Reading.{length_asked, may_be_right, found_at}
use Rattle.recording.specs.There.{size_at, kind_at}
use Rattle.recording.specs.Ways.{Awaited, of_head, of-event, of-card, found_has}
use Rattle.recording.specs.declared.Found.{Found}
use Rattle.recording.specs.declared.Found.TheVariants as found

-- the bytes of a run of 65,535 slots: its length, its kind, its count and 8,192 bytes of host bits
abbrev pub longest : ℕ
longest = 8198

-- no record of an event is asked to be longer; a length does not count its own two bytes
asked_small : (s : List ℕ) → Bytes s → (body kind : ℕ) → length_asked s body kind + 2 ≤ longest
unfolding length_asked
asked_small s b body kind =
    let first = byte_at s b (body + 0) in
    let second = byte_at s b (body + 1) in
    pick_both (λ (n : ℕ). n + 2 ≤ longest) _ _ _ (omega arith) (pick_both (λ (n : ℕ). n + 2 ≤ longest) _ _ _ (omega arith) (omega arith))

-- where a part is found, fewer bytes are there
abbrev pub Small : List ℕ → ℕ → Result Found Fault → Type 0
Small s at (Ok found.End) = Unit
Small s at (Ok found.Part) = length s < at + longest
Small s at (Ok (found.Record r next)) = Unit
Small s at (Err f) = Unit

module _ (s : List ℕ) (b : Bytes s) (at : ℕ) where
  -- what is there where more of a record is awaited
  awaited_small : Awaited s at → length s < at + longest
  unfolding may_be_right
  awaited_small (of_head l) = omega arith
  awaited_small (of-event l e) =
      let a = asked_small s b (at + 4) (kind_at s at) in
      pick_if (λ (x : Bool). x ≡ true → length s < at + longest) _ _ _
      (λ e f. let c = ltb-true (length s - at) 6 (both_holds _ _ e).1 in omega arith)
      (λ e f. let c = eqb-true (size_at s at) (length_asked s (at + 4) (kind_at s at)) f in omega arith)
      e
  awaited_small (of-card l t) = omega arith

  -- whatever is found
  pub found_small : (room : ℕ) (over more : Bool) → Small s at (found_at s at room over more)
  found_small room over more =
      found_has (Small s at) s at room over more (λ e. tt) awaited_small (λ f. tt) (λ w k t r. tt) (λ w k t u. tt) (λ w t. tt)

  -- a part
  pub part_small : (room : ℕ) (over more : Bool) → found_at s at room over more ≡ Ok found.Part → length s < at + longest
  part_small room over more e = rw e at (found_small room over more)
