-- A host whose Write Scratchpad was cut cannot copy what an earlier one left. PF stays 1 until a Write Scratchpad has its whole
-- address, as the flow chart of source document 003 notes ("It is cleared only if a complete 16-bit target address is transmitted."),
-- and with PF = 1 no copy is carried out.
use Rattle.std.specs.Prelude.{ℕ, ◌+◌, ◌*◌, ◌/◌, ◌%◌, ◌<◌, Bool, true, false, not, List, [], ◌∷◌, ◌≡◌, refl, eqb, ltb, length}
use Rattle.std.proofs.Common.{arith, true≢false, ◌∙◌, ap, sym}
use Rattle.base.specs.Pick.{pick_if, pick_both}
use Rattle.base.specs.Bits.{bit_of, both}
use Rattle.base.specs.Both.{both_holds}
use Rattle.scratchpad.specs.Registers.{pf, with_e, power_on_registers}
use Rattle.scratchpad.specs.Scratchpad.{write_address, byte_in, write_data, carried_out, three_bytes_in, copy_end, memory_begins, memory_takes}
use Rattle.scratchpad.specs.declared.Registers.{Registers}
use Rattle.scratchpad.specs.declared.Sight.{Sight}
use Rattle.scratchpad.specs.declared.MemoryAfter.{MemoryAfter}
use Rattle.scratchpad.specs.declared.MemoryPhase.{MemoryPhase}
use Rattle.scratchpad.specs.declared.MemoryPhase.TheVariants as memory
use Rattle.chip.specs.declared.ChipAfter.{ChipAfter}
use Rattle.chip.specs.Chip.{Whole, level_seen, level_takes_by, rom_slot, function_in, function_slot, memory_sight, memory_slot, switch_slot, takes_of, reset_chip, reset_of, power_on_chip, power_on_of, outside_chip, outside_of}
use Rattle.chip.specs.declared.Level.{Level}
use Rattle.chip.specs.declared.Level.TheVariants.{Waiting, Rom, FunctionCommand, Memory, Pio}
use Rattle.line.specs.Line.{value_of, act_of}
use Rattle.line.specs.Events.{reset_event}
use Rattle.line.specs.declared.Act.TheVariants.{Take, Reset, PowerOn}
use Rattle.line.specs.declared.Event.{Event}
use Rattle.histories.specs.Histories.{at, run}
use Rattle.line.specs.Keeps.{level_either}
use Rattle.histories.specs.AtSlots.{AtSlots, slots_kept, at_slots_too}
use Rattle.recovery.specs.CarriedOut.{is_copy, carries_out, NoCopy}
use Rattle.recovery.proofs.CarriedOut.{no_copy}
use Rattle.commands.specs.Reset.{is_cut, after_cut, only_pf}
use Rattle.commands.proofs.Reset.{reset_cuts}

-- the next slot is that of the 16th bit of a Write Scratchpad's address, at each phase of a memory
abbrev pub phase_ends : MemoryPhase → Bool
phase_ends memory.Ones = false
phase_ends (memory.WriteAddress count bits) = not (ltb count 15)
phase_ends (memory.WriteData offset count bits crc) = false
phase_ends (memory.SendCrc place crc) = false
phase_ends (memory.ReadRegisters place) = false
phase_ends (memory.ReadPad offset count crc) = false
phase_ends (memory.CopyAddress count bits) = false
phase_ends (memory.CopyEnd address count bits) = false
phase_ends (memory.Copied answer) = false
phase_ends (memory.ReadAddress count bits) = false
phase_ends (memory.ReadMemory address count) = false

-- at each level
abbrev pub ends_address : Level → Bool
ends_address Waiting = false
ends_address (Rom s) = false
ends_address (FunctionCommand count bits) = false
ends_address (Memory p) = phase_ends p
ends_address (Pio p) = false

-- no slot of a history gives chip i the whole address of a Write Scratchpad
abbrev pub NoAddress : ℕ → List Event → List Whole → Type 0
NoAddress i es L = AtSlots (λ (b : Bool) (K : List Whole). ends_address (at i K).chip.level ≡ false) es L

-- PF of a chip is 1
abbrev pub HasPF : Whole → Type 0
HasPF w = pf w.chip.registers.es ≡ true

-- PF is 1 after a slot, and the slot carried out no copy
abbrev Kept : ChipAfter → Type 0
Kept t = (pf t.chip.registers.es ≡ true) × (is_copy t.deed ≡ false)

-- the same of a slot of a memory
abbrev MemoryKept : MemoryAfter → Type 0
MemoryKept t = (pf t.registers.es ≡ true) × (is_copy t.deed ≡ false)

-- a data byte leaves PF
pf_with_e : (es offset : ℕ) → pf es ≡ true → pf (with_e es offset) ≡ true
unfolding pf bit_of with_e
pf_with_e es offset h = let e : (es / 32 * 32 + offset % 32) / 32 ≡ es / 32 = omega arith in ap (λ (n : ℕ). eqb (n % 2) 1) e ∙ h

-- no copy is carried out with PF = 1
pf_refuses : (r : Registers) (address es : ℕ) (see : Sight) → pf r.es ≡ true → carried_out r address es see ≡ true → ⊥
unfolding carried_out
pf_refuses r address es see h e =
    let a = both_holds (both (eqb address r.t) (eqb es r.es)) (both (not (pf r.es)) (not see.closed)) e in
    let b = both_holds (not (pf r.es)) (not see.closed) a.1 in
    true≢false (sym b.0 ∙ ap not h)

-- a slot of a memory that ends no address
memory_kept : (r : Registers) (v : Bool) (see : Sight) (p : MemoryPhase) → pf r.es ≡ true → phase_ends p ≡ false → MemoryKept (memory_takes r v see p)
unfolding write_address write_data byte_in copy_end three_bytes_in
memory_kept r v see memory.Ones h k = (h, refl)
memory_kept r v see (memory.WriteAddress count bits) h k =
    pick_if MemoryKept _ _ _ (λ e. (h, refl)) (λ e. absurd (true≢false (sym (ap not e) ∙ k)))
memory_kept r v see (memory.WriteData offset count bits crc) h k = pick_both MemoryKept _ _ _ (h, refl) (pf_with_e r.es offset h, refl)
memory_kept r v see (memory.SendCrc place crc) h k = (h, refl)
memory_kept r v see (memory.ReadRegisters place) h k = (h, refl)
memory_kept r v see (memory.ReadPad offset count crc) h k = (h, refl)
memory_kept r v see (memory.CopyAddress count bits) h k = (h, refl)
memory_kept r v see (memory.CopyEnd address count bits) h k =
    pick_both MemoryKept _ _ _ (h, refl) (pick_if MemoryKept _ _ _ (λ e. absurd (pf_refuses r address _ see h e)) (λ e. (h, refl)))
memory_kept r v see (memory.Copied answer) h k = (h, refl)
memory_kept r v see (memory.ReadAddress count bits) h k = (h, refl)
memory_kept r v see (memory.ReadMemory address count) h k = (h, refl)

-- a slot of a chip, at each level
level_kept : (w : Whole) (v : Bool) (l : Level) → HasPF w → ends_address l ≡ false → Kept (level_takes_by w.chip v (level_seen w l) l)
unfolding rom_slot function_slot function_in memory_slot memory_begins switch_slot
level_kept w v Waiting h k = (h, refl)
level_kept w v (Rom s) h k = (h, refl)
level_kept w v (FunctionCommand count bits) h k =
    pick_both Kept _ _ _ (h, refl) (pick_both Kept _ _ _ (h, refl) (pick_both Kept _ _ _ (h, refl) (h, refl)))
level_kept w v (Memory p) h k = memory_kept w.chip.registers v (memory_sight w.chip p (level_seen w (Memory p))) p h k
level_kept w v (Pio p) h k = (h, refl)

-- PF over a slot of a history, which carries out no copy
slot_pf : (i : ℕ) (b : Bool) (L : List Whole) → HasPF (at i L) → ends_address (at i L).chip.level ≡ false → HasPF (act_of (Take (value_of b L)) (at i L))
unfolding takes_of
slot_pf i b L h k = (level_kept (at i L) (value_of b L) (at i L).chip.level h k).0

slot_idle : (i : ℕ) (b : Bool) (L : List Whole) → HasPF (at i L) → ends_address (at i L).chip.level ≡ false → carries_out (value_of b L) (at i L) ≡ false
unfolding carries_out
slot_idle i b L h k = (level_kept (at i L) (value_of b L) (at i L).chip.level h k).1

-- PF over every other act
reset_pf : (w : Whole) → HasPF w → HasPF (act_of Reset w)
unfolding reset_of reset_chip after_cut
reset_pf w h = level_either (λ (r : Registers). pf r.es ≡ true) w.chip h (only_pf w).pf-set w.chip.level

-- PF after power on
fresh_pf : pf power_on_registers.es ≡ true
unfolding pf bit_of
fresh_pf = refl

power_pf : (w : Whole) → HasPF w → HasPF (act_of PowerOn w)
unfolding power_on_of power_on_chip
power_pf w h = pick_both (λ (r : Registers). pf r.es ≡ true) _ _ _ fresh_pf h

outside_pf : (l : ℕ) (w : Whole) → HasPF w → HasPF (outside_of l w)
unfolding outside_of outside_chip
outside_pf l w h = h

-- THEOREM: PF that is 1 stays 1 over every history that gives the chip no whole address
pub pf_stays : (i : ℕ) (es : List Event) (L : List Whole) → HasPF (at i L) → NoAddress i es L → HasPF (at i (run es L))
pf_stays i es L h n = slots_kept i HasPF _ (slot_pf i) reset_pf power_pf outside_pf es L h n

-- THEOREM: and the chip carries out no copy in it
pub pf_no_copy : (i : ℕ) (es : List Event) (L : List Whole) → HasPF (at i L) → NoAddress i es L → NoCopy i es L
pf_no_copy i es L h n = at_slots_too i HasPF _ (slot_pf i) reset_pf power_pf outside_pf _ (slot_idle i) es L h n

-- THEOREM: so after a reset that cuts a Write Scratchpad, whatever opened its session, whatever else is on the line and whatever
-- the host does then: until a Write Scratchpad of the chip has its whole address it carries out no copy, and its memory is as it was
pub cut_not_copied : (i : ℕ) (L : List Whole) → i < length L → (at i L).chip.kind ≡ 1 → is_cut (at i L).chip.level ≡ true
    → (rest : List Event) → NoAddress i rest (run (reset_event ∷ []) L)
    → record {
      copies-none : NoCopy i rest (run (reset_event ∷ []) L);
      memory_stays : (at i (run rest (run (reset_event ∷ []) L))).memory ≡ (at i L).memory;
    }
unfolding after_cut
cut_not_copied i L h k c rest n =
    let K = run (reset_event ∷ []) L in
    let e : at i K ≡ after_cut (at i L) = reset_cuts i L h k c in
    let p : HasPF (at i K) = ap (λ (w : Whole). pf w.chip.registers.es) e ∙ (only_pf (at i L)).pf-set in
    let q = pf_no_copy i rest K p n in
    record { copies-none = q; memory_stays = no_copy i rest K q ∙ ap (λ (w : Whole). w.memory) e }
