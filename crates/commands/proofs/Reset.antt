-- Laws: what a reset does to a DS28EC20, exactly.
use Rattle.std.specs.Prelude.{ℕ, ◌<◌, Bool, true, List, [], ◌∷◌, ◌≡◌, refl, length}
use Rattle.std.proofs.Common.{◌∙◌, ap}
use Rattle.base.specs.Pick.{pick, pick_true}
use Rattle.scratchpad.specs.Registers.{pf_set}
use Rattle.scratchpad.specs.Scratchpad.{cut_of, memory_reset}
use Rattle.scratchpad.specs.declared.Registers.{Registers}
use Rattle.scratchpad.specs.declared.MemoryPhase.{MemoryPhase}
use Rattle.scratchpad.specs.declared.MemoryPhase.TheVariants as memory
use Rattle.ds28ec20.specs.Map.{ds28ec20}
use Rattle.memory.specs.Part.{map_of}
use Rattle.chip.specs.Kinds.{part_of}
use Rattle.chip.specs.Chip.{Whole, chip_map, level_reset, reset_chip, reset_of}
use Rattle.chip.specs.declared.Chip.{Chip}
use Rattle.chip.specs.declared.Level.{Level}
use Rattle.chip.specs.declared.Level.TheVariants.{Waiting, Rom, FunctionCommand, Memory, Pio}
use Rattle.line.specs.Line.{act_of}
use Rattle.line.specs.Events.{reset_event}
use Rattle.line.specs.declared.Act.TheVariants.{Reset}
use Rattle.histories.specs.Histories.{at, run}
use Rattle.histories.specs.Place.{at_map}
use Rattle.recovery.proofs.Matched.{reset_after}
use Rattle.commands.specs.Reset.{phase_cut, is_cut, awaiting, after_cut}

-- a cut address counts for a DS28EC20
cut_counts : (k : ℕ) → k ≡ 1 → (map_of (part_of k)).cut_sets_pf ≡ true
unfolding map_of part_of ds28ec20
cut_counts k e = ap (λ (n : ℕ). (map_of (part_of n)).cut_sets_pf) e

-- the registers after a reset, at each phase and at each level
phase_reset : (r : Registers) (c : Bool) → c ≡ true → (p : MemoryPhase) → memory_reset r c p ≡ pick (phase_cut p) (pf_set r) r
unfolding cut_of pick
phase_reset r c e memory.Ones = refl
phase_reset r c e (memory.WriteAddress count bits) = pick_true c (pf_set r) r e
phase_reset r c e (memory.WriteData offset count bits crc) = refl
phase_reset r c e (memory.SendCrc place crc) = refl
phase_reset r c e (memory.ReadRegisters place) = refl
phase_reset r c e (memory.ReadPad offset count crc) = refl
phase_reset r c e (memory.CopyAddress count bits) = refl
phase_reset r c e (memory.CopyEnd address count bits) = refl
phase_reset r c e (memory.Copied answer) = refl
phase_reset r c e (memory.ReadAddress count bits) = refl
phase_reset r c e (memory.ReadMemory address count) = refl

level-reset : (c : Chip) → c.kind ≡ 1 → (l : Level) → level_reset c l ≡ pick (is_cut l) (pf_set c.registers) c.registers
unfolding pick
level-reset c e Waiting = refl
level-reset c e (Rom s) = refl
level-reset c e (FunctionCommand count bits) = refl
level-reset c e (Memory p) = phase_reset c.registers (chip_map c).cut_sets_pf (cut_counts c.kind e) p
level-reset c e (Pio p) = refl

-- THEOREM: a reset, on any line and at any level of the DS28EC20 at place i: where it cuts a Write Scratchpad PF is 1, else T and E/S
-- are as they were; RC, latches, outside levels, memory and scratchpad are as they were
pub reset_exactly : (i : ℕ) (L : List Whole) → i < length L → (at i L).chip.kind ≡ 1
    → at i (run (reset_event ∷ []) L)
    ≡ awaiting (pick (is_cut (at i L).chip.level) (pf_set (at i L).chip.registers) (at i L).chip.registers) (at i L)
unfolding reset_of reset_chip
reset_exactly i L h e =
    let w = at i L in
    ap (at i) (reset_after L) ∙ at_map (act_of Reset) i L h ∙ ap (λ (r : Registers). awaiting r w) (level-reset w.chip e w.chip.level)

-- THEOREM: so a reset that cuts a Write Scratchpad sets PF
pub reset_cuts : (i : ℕ) (L : List Whole) → i < length L → (at i L).chip.kind ≡ 1 → is_cut (at i L).chip.level ≡ true
    → at i (run (reset_event ∷ []) L) ≡ after_cut (at i L)
unfolding after_cut
reset_cuts i L h k e =
    let w = at i L in
    reset_exactly i L h k ∙ ap (λ (r : Registers). awaiting r w) (pick_true (is_cut w.chip.level) _ _ e)

-- THEOREM: and it cuts one at whatever count of address bits
pub short-address : (i : ℕ) (L : List Whole) → i < length L → (at i L).chip.kind ≡ 1
    → (count bits : ℕ) → (at i L).chip.level ≡ Memory (memory.WriteAddress count bits)
    → at i (run (reset_event ∷ []) L) ≡ after_cut (at i L)
short-address i L h k count bits e = reset_cuts i L h k (ap is_cut e)
