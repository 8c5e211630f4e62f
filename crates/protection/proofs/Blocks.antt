-- What is promised of a block of a DS28EC20 from one memory to a later one, and laws: every history keeps it.
use Rattle.std.specs.Prelude.{ℕ, ◌+◌, ◌*◌, ◌/◌, ◌<◌, ◌≤◌, true, false, List, ◌≡◌, refl, ltb, get_or}
use Rattle.std.proofs.Common.{arith, lt-ltb, le-ltb}
use Rattle.std.specs.Int.Bits.{and_self}
use Rattle.base.specs.Pick.{pick_true, pick_false}
use Rattle.scratchpad.specs.Registers.{rule_of_byte}
use Rattle.scratchpad.specs.Map.{rule_by}
use Rattle.scratchpad.specs.declared.Deed.{Deed}
use Rattle.scratchpad.specs.declared.Deed.TheVariants.{Nothing, Put, Copy}
use Rattle.ds28ec20.specs.Map.{is_data, control_address, is_control_or_lock, held, only_falls, ds28ec20}
use Rattle.memory.specs.Part.{map_of}
use Rattle.memory.specs.Memory.{rule_at, copied, done}
use Rattle.chip.specs.Kinds.{takes_outside, part_of}
use Rattle.chip.specs.Chip.{Whole, level_seen, level_takes_by, takes_of, reset_of, power_on_of, outside_of}
use Rattle.line.specs.Line.{act_of}
use Rattle.line.specs.declared.Act.{Act}
use Rattle.line.specs.declared.Act.TheVariants.{Take, Reset, PowerOn}
use Rattle.line.specs.declared.Event.{Event}
use Rattle.histories.specs.Histories.{at, run}
use Rattle.histories.specs.Kept.{each_at, run_kept}
use Rattle.protection.specs.Guarded.{Guarded, Protected, OnlyFalls, protected_copied, only_falls_copied, protected_onto, only_falls_onto}

-- the control byte of block j of a memory: "0A00h to 0A09h one control byte a block"
abbrev pub control : List ℕ → ℕ → ℕ
control m j = get_or m (0x0A00 + j) 0

-- byte k of block j: "0000h to 09FFh data, ten blocks of 256 bytes"
abbrev pub block_byte : List ℕ → ℕ → ℕ → ℕ
block_byte m j k = get_or m (256 * j + k) 0

-- the map of a DS28EC20 guards each block by its control byte
block : (j : ℕ) → j < 10 → Guarded ds28ec20 (0x0A00 + j) (256 * j) 256
unfolding ds28ec20 rule_at rule_by rule_of_byte held only_falls is_data is_control_or_lock control_address
block j h =
    let x : ltb (0x0A00 + j) 0x0A00 ≡ false = le-ltb (0x0A00 + j) 0x0A00 (omega arith) in
    let y : ltb (0x0A00 + j) 0x0A0A ≡ true = lt-ltb (0x0A00 + j) 0x0A0A (omega arith) in
    record {
      marked = λ m b e. simp (x, y, e, pick_true, pick_false);
      held = λ m k b l e.
          let q : (256 * j + k) / 256 ≡ j = omega arith in
          let d : ltb (256 * j + k) 0x0A00 ≡ true = lt-ltb (256 * j + k) 0x0A00 (omega arith) in
          simp (d, q, e, pick_true);
      falls = λ m k b l e.
          let q : (256 * j + k) / 256 ≡ j = omega arith in
          let d : ltb (256 * j + k) 0x0A00 ≡ true = lt-ltb (256 * j + k) 0x0A00 (omega arith) in
          simp (d, q, e, pick_true, pick_false);
    }

-- what holds of a memory and of every copy into it holds of the memory after an act
module _ (Q : List ℕ → Type 0) (w : Whole) (stays : Q w.memory) (copies : (p k n : ℕ) → Q (copied ds28ec20 w.memory w.pad p k n)) where
  -- after a deed
  deed_memory : (d : Deed) → Q (done ds28ec20 w.memory w.pad d).memory
  deed_memory Nothing = stays
  deed_memory (Put offset b) = stays
  deed_memory (Copy t e) = copies _ _ _

  -- after any act
  act_memory : (a : Act) → Q (act_of a w).memory
  unfolding takes_of reset_of power_on_of part_of map_of
  act_memory (Take v) = let l = w.chip.level in deed_memory (level_takes_by w.chip v (level_seen w l) l).deed
  act_memory Reset = stays
  act_memory PowerOn = stays

-- a relation between memories that copies keep holds over every history
module _ (R : List ℕ → List ℕ → Type 0) (same : (m : List ℕ) → R m m) (onto : (m r s : List ℕ) → R m r → R r s → R m s)
    (copies : (m s : List ℕ) (p k n : ℕ) → R m (copied ds28ec20 m s p k n)) where
  -- outside levels leave the memory
  outside_memory : (l : ℕ) (w : Whole) → takes_outside w.chip.kind ≡ true → l ≤ 3 → R w.memory (outside_of l w).memory
  unfolding outside_of
  outside_memory l w e h = same w.memory

  -- over a history, at chip i
  run_memory : (es : List Event) (L : List Whole) (i : ℕ) → R (at i L).memory (at i (run es L)).memory
  run_memory es L i =
      each_at (same _) i
      (run_kept (λ (w u : Whole). R w.memory u.memory) (λ w. same w.memory) (λ w u x. onto w.memory u.memory x.memory)
      (λ a w. act_memory (R w.memory) w (same w.memory) (copies w.memory w.pad) a) outside_memory es L)

-- a write-protected block over a history
pub run_protected : (es : List Event) (L : List Whole) (i j : ℕ) → j < 10 → Protected (0x0A00 + j) (256 * j) 256 (at i L).memory (at i (run es L)).memory
run_protected es L i j h =
    run_memory (Protected (0x0A00 + j) (256 * j) 256) (λ m e. (e, λ k l. refl)) (protected_onto (0x0A00 + j) (256 * j) 256) (protected_copied ds28ec20 (0x0A00 + j) (256 * j) 256 (block j h)) es L i

-- a block in EPROM mode over a history
pub run_only_falls : (es : List Event) (L : List Whole) (i j : ℕ) → j < 10 → OnlyFalls (0x0A00 + j) (256 * j) 256 (at i L).memory (at i (run es L)).memory
run_only_falls es L i j h =
    run_memory (OnlyFalls (0x0A00 + j) (256 * j) 256) (λ m e. (e, λ k l. and_self (get_or m (256 * j + k) 0))) (only_falls_onto (0x0A00 + j) (256 * j) 256)
    (only_falls_copied ds28ec20 (0x0A00 + j) (256 * j) 256 (block j h)) es L i
