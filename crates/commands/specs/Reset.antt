-- What a reset does to a DS28EC20, exactly: it cuts a Write Scratchpad or it does not. Document 01: "Reset alone leaves RC, memory,
-- scratchpad, registers and latches, save for the PF rule below."; document 02, M-102: "A short address also sets PF." And what a
-- power on does in its place.
use Rattle.std.specs.Prelude.{ℕ, ◌+◌, ◌*◌, ◌/◌, ◌%◌, ◌<◌, Bool, true, false, List, [], ◌∷◌, ◌≡◌, refl, eqb, ltb, length, replicate}
use Rattle.std.proofs.Common.{arith, mod-lt, ◌∙◌, ap, sym}
use Rattle.base.specs.Pick.{pick, pick_true, pick_false}
use Rattle.base.specs.Bits.{bit_of}
use Rattle.rom.specs.declared.RomStep.TheVariants.{Command}
use Rattle.scratchpad.specs.Registers.{registers, e_of, pf, with_pf, pf_set, power_on_registers}
use Rattle.scratchpad.specs.declared.Registers.{Registers}
use Rattle.scratchpad.specs.declared.MemoryPhase.{MemoryPhase}
use Rattle.scratchpad.specs.declared.MemoryPhase.TheVariants as memory
use Rattle.ds2413.specs.Switch.{switch_power_on}
use Rattle.chip.specs.Kinds.{has_scratchpad, has_registers, has_switch}
use Rattle.chip.specs.With.{with_rc, with_level, with_registers, with_switch}
use Rattle.chip.specs.Chip.{Whole, whole, power_on_chip, power_on_pad, power_on_of}
use Rattle.chip.specs.declared.Level.{Level}
use Rattle.chip.specs.declared.Level.TheVariants.{Waiting, Rom, FunctionCommand, Memory, Pio}
use Rattle.line.specs.Line.{act_of}
use Rattle.line.specs.Event.{asked_by, plan_event, outside_fits}
use Rattle.line.specs.Events.{power_on_event}
use Rattle.line.specs.declared.Act.TheVariants.{PowerOn}
use Rattle.histories.specs.Histories.{at, after_of, run}
use Rattle.chip.specs.RangeKept.{pf_block}
use Rattle.histories.specs.Place.{at_map}
use Rattle.recovery.specs.Stays.{not_switch}

-- a reset cuts a Write Scratchpad "before its 16th address bit" and "inside a data byte", at each phase of a memory
abbrev pub phase_cut : MemoryPhase → Bool
phase_cut memory.Ones = false
phase_cut (memory.WriteAddress count bits) = true
phase_cut (memory.WriteData offset count bits crc) = ltb 0 count
phase_cut (memory.SendCrc place crc) = false
phase_cut (memory.ReadRegisters place) = false
phase_cut (memory.ReadPad offset count crc) = false
phase_cut (memory.CopyAddress count bits) = false
phase_cut (memory.CopyEnd address count bits) = false
phase_cut (memory.Copied answer) = false
phase_cut (memory.ReadAddress count bits) = false
phase_cut (memory.ReadMemory address count) = false

-- at each level
abbrev pub is_cut : Level → Bool
is_cut Waiting = false
is_cut (Rom s) = false
is_cut (FunctionCommand count bits) = false
is_cut (Memory p) = phase_cut p
is_cut (Pio p) = false

-- a chip that takes a ROM command next, with these registers; all else of it is as it was
abbrev pub awaiting : Registers → Whole → Whole
awaiting r w = whole (with_level (Rom (Command 0 0)) (with_registers r w.chip)) w.memory w.pad

-- a chip after a reset that cut its Write Scratchpad
unfoldable pub after_cut : Whole → Whole
after_cut w = awaiting (pf_set w.chip.registers) w

-- "T, E and AA stay", and PF is 1; bit 6 stays too
pub record OnlyPF (before after : Registers) : Type 0 where
  pub t_stays : after.t ≡ before.t
  pub e_stays : e_of after.es ≡ e_of before.es
  pub aa_stays : bit_of after.es 7 ≡ bit_of before.es 7
  pub pf-set : pf after.es ≡ true
  pub six_stays : bit_of after.es 6 ≡ bit_of before.es 6

-- what E/S with PF = 1 holds from bit 5 on, where it has q from bit 6 on
from_five : (q e : ℕ) → e < 32 → (q * 64 + 32 + e) / 32 ≡ q * 2 + 1
from_five q e h = omega arith

-- and from bit 7 on, by bit 6 on
from_seven : (n : ℕ) → n / 128 ≡ n / 64 / 2
from_seven n = omega arith

-- an odd number has 1 for its last bit
odd : (q : ℕ) → (q * 2 + 1) % 2 ≡ 1
odd q = omega arith

-- THEOREM: the cut sets PF and leaves T, E and AA
pub only_pf : (w : Whole) → OnlyPF w.chip.registers (after_cut w).chip.registers
unfolding after_cut with_pf pf bit_of
only_pf w =
    let es = w.chip.registers.es in
    let n = es / 64 * 64 + 32 + e_of es in
    let h = mod-lt es {m = 32} (omega arith) in
    let six : n / 64 ≡ es / 64 = pf_block (es / 64) (e_of es) h in
    let seven : n / 128 ≡ es / 128 = from_seven n ∙ ap (λ (q : ℕ). q / 2) six ∙ sym (from_seven es) in
    record {
      t_stays = refl;
      e_stays = omega arith;
      aa_stays = ap (λ (q : ℕ). eqb (q % 2) 1) seven;
      pf-set = ap (λ (q : ℕ). eqb (q % 2) 1) (from_five (es / 64) (e_of es) h) ∙ ap (λ (b : ℕ). eqb b 1) (odd (es / 64));
      six_stays = ap (λ (q : ℕ). eqb (q % 2) 1) six;
    }

-- a chip after a power on: it waits, RC is 0, "T 0000h, E/S 20h, scratchpad all FFh"; all else is as it was
unfoldable pub after_power_on : Whole → Whole
after_power_on w = whole (with_level Waiting (with_rc false (with_registers (registers 0x0000 0x20) w.chip))) w.memory (replicate (length w.pad) 0xFF)

-- what power on asks of a kind, of a DS28EC20
has-registers : (k : ℕ) → k ≡ 1 → has_registers k ≡ true
unfolding has_registers
has-registers k e = ap has_registers e

has_pad : (k : ℕ) → k ≡ 1 → has_scratchpad k ≡ true
unfolding has_scratchpad
has_pad k e = ap has_scratchpad e

-- THEOREM: a power on in place of the reset is no reset: at any level, inside an address too
pub power_on_exactly : (i : ℕ) (L : List Whole) → i < length L → (at i L).chip.kind ≡ 1 → at i (run (power_on_event ∷ []) L) ≡ after_power_on (at i L)
unfolding after_of plan_event outside_fits asked_by power_on_of power_on_chip power_on_pad after_power_on pick
power_on_exactly i L h e =
    let w = at i L in
    let r = pick_true (has_registers w.chip.kind) power_on_registers w.chip.registers (has-registers w.chip.kind e) in
    let s = pick_false (has_switch w.chip.kind) (switch_power_on w.chip.switch) w.chip.switch (not_switch w.chip.kind e) in
    let p = pick_true (has_scratchpad w.chip.kind) (replicate (length w.pad) 0xFF) w.pad (has_pad w.chip.kind e) in
    at_map (act_of PowerOn) i L h
    ∙ (λ j. whole (with_level Waiting (with_rc false (with_registers (r j) (with_switch (s j) w.chip)))) w.memory (p j))
