-- A copy in full. Document 01, 55h: "the copy is carried out: each offset from T mod 32 to E passes the rule of a byte again into memory,
-- every byte judged by the memory before the copy; AA = 1; the chip sends 0, 1, 0, 1 until reset." And nothing else changes. That a slot
-- which carries out no copy leaves the memory is `no_copy`, in the crate `recovery`.
use Rattle.std.specs.Prelude.{ℕ, zero, suc, ◌+◌, ◌-◌, ◌*◌, ◌/◌, ◌%◌, ◌<◌, ◌≤◌, Bool, true, false, List, [], ◌∷◌, ◌≡◌, refl, length, Result, Ok, Err}
use Rattle.line.specs.declared.Refusal.{Refusal}
use native.Mathlib.Omega.{arith}
use Rattle.std.proofs.Common.{eq-or-lt_of_le, le_of_suc-le-suc, not-suc-le-zero, true≢false, ⊎_elim, ◌∙◌, sym, get_or-set_same, get_or-set_other, ltb-true}
use Rattle.std.proofs.Math.Path.{ap, subst}
use Rattle.std.specs.Int.Bits.{bit_and}
use Rattle.std.proofs.Math.ListN.{get_or}
use Rattle.base.specs.Pick.{pick, pick_if}
use Rattle.scratchpad.specs.Registers.{registers, e_of, with_aa, rule_of_byte}
use Rattle.scratchpad.specs.Map.{Map, rule_by}
use Rattle.scratchpad.specs.Scratchpad.{in_page}
use Rattle.scratchpad.specs.declared.Registers.{Registers}
use Rattle.scratchpad.specs.declared.MemoryPhase.TheVariants as memory
use Rattle.ds28ec20.specs.Map.{ds28ec20, is_data, control_address, held, only_falls, closed_to_copying}
use Rattle.memory.specs.Memory.{rule_at, span_of, copied}
use Rattle.chip.specs.Kinds.{image_size}
use Rattle.chip.specs.With.{with_level, with_registers}
use Rattle.chip.specs.Chip.{Whole, whole, whole_after, takes_of}
use Rattle.chip.specs.declared.Level.TheVariants.{Memory}
use Rattle.line.specs.Line.{value_of, act_of, after_plan}
use Rattle.line.specs.Sizes.{copied_length}
use Rattle.line.specs.Event.{plan_on}
use Rattle.line.specs.declared.Plan.{Plan}
use Rattle.line.specs.declared.Plan.TheVariants as plan
use Rattle.line.specs.declared.Act.TheVariants.{Take}
use Rattle.line.specs.declared.Event.{Event}
use Rattle.histories.specs.Histories.{at, after_of, run}
use Rattle.line.specs.Keeps.{Good}
use Rattle.histories.specs.Place.{at_map}
use Rattle.recovery.specs.CarriedOut.{carries_out}
use Rattle.commands.specs.Asked.{Asked, level_carried, map_is, copy_asked}

-- an event carries out a copy in chip i: it is a slot, and its value on the bus is the last bit that the copy waited for
abbrev pub Copies : Result Plan Refusal → ℕ → List Whole → Type 0
Copies (Err r) i L = ⊥
Copies (Ok (plan.Slot b)) i L = carries_out (value_of b L) (at i L) ≡ true
Copies (Ok plan.Reset) i L = ⊥
Copies (Ok plan.PowerOn) i L = ⊥
Copies (Ok (plan.Outside j l)) i L = ⊥

-- "The rule of a byte: for a held address the memory byte; for one that only falls, the AND of both; otherwise the byte sent.": what
-- the byte sent to the address a comes to, judged by the memory m
abbrev pub by_rule : List ℕ → ℕ → ℕ → ℕ
by_rule m a sent =
    let byte = get_or m a 0 in
    let control = get_or m (control_address a) 0 in
    pick (held a byte control) byte
    (pick (only_falls a control) (bit_and byte sent)
    sent)

-- an offset "from T mod 32 to E"
abbrev pub InCopy : Registers → ℕ → Type 0
InCopy r k = (r.t % 32 ≤ k) × (k ≤ e_of r.es)

-- the address of an offset in T's page
abbrev pub address_at : Registers → ℕ → ℕ
address_at r k = r.t / 32 * 32 + k

-- a chip before and after a slot that carries out a copy in it
pub record CopiedInFull (before after : Whole) : Type 0 where
  -- "each offset from T mod 32 to E passes the rule of a byte again into memory, every byte judged by the memory before the copy"
  pub bytes_copied : (k : ℕ) → InCopy before.chip.registers k
      → let a = address_at before.chip.registers k in get_or after.memory a 0 ≡ by_rule before.memory a (get_or before.pad k 0)
  -- every other byte of the memory is as it was; where E is below T mod 32, every byte
  pub others_stay : (a : ℕ) → ((k : ℕ) → InCopy before.chip.registers k → a ≡ address_at before.chip.registers k → ⊥)
      → get_or after.memory a 0 ≡ get_or before.memory a 0
  pub size_stays : length after.memory ≡ length before.memory
  -- the scratchpad is as it was
  pub pad_stays : after.pad ≡ before.pad
  -- "AA = 1; the chip sends 0, 1, 0, 1"; T, E, PF and all else of its record are as they were
  pub chip_after : let r = before.chip.registers in
      after.chip ≡ with_level (Memory (memory.Copied false)) (with_registers (registers r.t (0x80 + r.es % 0x80)) before.chip)

-- a byte of a copy
copied_byte : (M : Map) (m s : List ℕ) (p k n j : ℕ) → j < n → p + (k + n) ≤ length m → get_or (copied M m s p k n) (p + (k + j)) 0 ≡ rule_at M m (p + (k + j)) (get_or s (k + j) 0)
unfolding copied
copied_byte M m s p k zero j h l = absurd (not-suc-le-zero h)
copied_byte M m s p k (suc n) j h l =
    let before = copied M m s p k n in
    let b = rule_at M m (p + (k + n)) (get_or s (k + n) 0) in
    let size = copied_length M m s p k n in
    ⊎_elim (λ e. rw e (get_or-set_same before (p + (k + n)) b 0 (omega arith)))
    (λ i. get_or-set_other before (p + (k + n)) (p + (k + j)) b 0 (λ e. absurd (omega arith)) ∙ copied_byte M m s p k n j i (omega arith))
    (eq-or-lt_of_le (le_of_suc-le-suc h))

-- a byte that is none of them
other_byte : (M : Map) (m s : List ℕ) (p k n a : ℕ) → ((j : ℕ) → j < n → a ≡ p + (k + j) → ⊥) → get_or (copied M m s p k n) a 0 ≡ get_or m a 0
unfolding copied
other_byte M m s p k zero a h = refl
other_byte M m s p k (suc n) a h =
    get_or-set_other (copied M m s p k n) (p + (k + n)) a (rule_at M m (p + (k + n)) (get_or s (k + n) 0)) 0 (h n (omega arith))
    ∙ other_byte M m s p k n a (λ j i. h j (omega arith))

-- a page that is not closed starts below 0A20h
open_below : (page control lock : ℕ) → closed_to_copying page control lock ≡ false → page < 0x0A20
unfolding closed_to_copying is_data
open_below page control lock =
    pick_if (λ (t : Bool). t ≡ false → page < 0x0A20) _ _ _ (λ d f. let h = ltb-true page 0x0A00 d in omega arith)
    (λ d. pick_if (λ (t : Bool). t ≡ false → page < 0x0A20) _ _ _ (λ h f. ltb-true page 0x0A20 h) (λ h f. absurd (true≢false f)))

-- the bytes that a DS28EC20 has
image_is : (k : ℕ) → k ≡ 1 → image_size k ≡ 0x0A40
unfolding image_size pick
image_is k e = ap image_size e

module _ (w : Whole) where
  abbrev r : Registers
  r = w.chip.registers

  -- the memory after a copy that is carried out
  abbrev after : List ℕ
  after = copied ds28ec20 w.memory w.pad (in_page r.t 0) (r.t % 32) (span_of r.t (e_of r.es))

  -- each offset from T mod 32 to E: T's page, being open, ends inside the memory
  each_copied : length w.memory ≡ 0x0A40 → (v : Bool) → Asked ds28ec20 w v w.chip.level → (k : ℕ) → InCopy r k
      → get_or after (address_at r k) 0 ≡ by_rule w.memory (address_at r k) (get_or w.pad k 0)
  unfolding ds28ec20 rule_at rule_by rule_of_byte in_page span_of
  each_copied m v q k (f, l) =
      let h = open_below (r.t / 32 * 32 + 0) _ _ q.not_closed in
      let j : r.t % 32 + (k - r.t % 32) ≡ k = omega arith in
      let a : r.t / 32 * 32 + 0 + (r.t % 32 + (k - r.t % 32)) ≡ address_at r k = omega arith in
      let e = copied_byte ds28ec20 w.memory w.pad (r.t / 32 * 32 + 0) (r.t % 32) (e_of r.es % 32 + 1 - r.t % 32) (k - r.t % 32) (omega arith) (omega arith) in
      ap (λ (x : ℕ). get_or after x 0) (sym a) ∙ e ∙ (λ i. by_rule w.memory (a i) (get_or w.pad (j i) 0))

  -- every other address
  other_stays : (a : ℕ) → ((k : ℕ) → InCopy r k → a ≡ address_at r k → ⊥) → get_or after a 0 ≡ get_or w.memory a 0
  unfolding in_page span_of
  other_stays a h =
      other_byte ds28ec20 w.memory w.pad (r.t / 32 * 32 + 0) (r.t % 32) (e_of r.es % 32 + 1 - r.t % 32) a
      (λ j i e. h (r.t % 32 + j) (omega arith, omega arith) (omega arith))

  -- a slot of the value v that carries out a copy
  slot_in_full : (v : Bool) → Good w → w.chip.kind ≡ 1 → carries_out v w ≡ true → CopiedInFull w (takes_of v w)
  unfolding carries_out takes_of with_aa
  slot_in_full v g kind c =
      let M = map_is w.chip.kind kind in
      let chip = with_level (Memory (memory.Copied false)) (with_registers (registers r.t (0x80 + r.es % 0x80)) w.chip) in
      let e : takes_of v w ≡ whole chip after w.pad
      = ap (whole_after w) (level_carried w v w.chip.level c).leaves ∙ ap (λ (N : Map). whole chip (copied N w.memory w.pad (in_page r.t 0) (r.t % 32) (span_of r.t (e_of r.es))) w.pad) M in
      subst (CopiedInFull w) (sym e)
      (record {
        bytes_copied = each_copied (g.memory ∙ image_is w.chip.kind kind) v (copy_asked v w kind c);
        others_stay = other_stays;
        size_stays = copied_length _ _ _ _ _ _;
        pad_stays = refl;
        chip_after = refl;
      })

-- by what the event comes to
plan_in_full : (i : ℕ) (p : Result Plan Refusal) (L : List Whole) → i < length L → Good (at i L) → (at i L).chip.kind ≡ 1 → Copies p i L → CopiedInFull (at i L) (at i (after_plan p L))
plan_in_full i (Err r) L h g k c = absurd c
plan_in_full i (Ok (plan.Slot b)) L h g k c =
    let v = value_of b L in
    subst (CopiedInFull (at i L)) (sym (at_map (act_of (Take v)) i L h)) (slot_in_full (at i L) v g k c)
plan_in_full i (Ok plan.Reset) L h g k c = absurd c
plan_in_full i (Ok plan.PowerOn) L h g k c = absurd c
plan_in_full i (Ok (plan.Outside j l)) L h g k c = absurd c

-- THEOREM: a copy in full: every event that carries out a copy in the DS28EC20 at place i of any line, in any state that is in range
pub copy_in_full : (i : ℕ) (e : Event) (L : List Whole) → i < length L → Good (at i L) → (at i L).chip.kind ≡ 1
    → Copies (plan_on e L) i L → CopiedInFull (at i L) (at i (run (e ∷ []) L))
unfolding after_of
copy_in_full i e L h g k c = plan_in_full i (plan_on e L) L h g k c
