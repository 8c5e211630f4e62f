-- Laws: a chip keeps its code and kind, the sizes of its memory and scratchpad, and its ranges, whatever happens to it.
use Rattle.std.specs.Prelude.{ℕ, ◌≤◌, Bool, true, ◌≡◌, refl, leb, length}
use Rattle.std.proofs.Common.{◌∙◌, ap, sym, le-leb}
use Rattle.base.specs.Pick.{pick_both, pick_if}
use Rattle.base.specs.Bits.{both}
use Rattle.base.specs.Both.{both_holds, both_true'}
use Rattle.rom.specs.Rom.{rom_takes}
use Rattle.rom.specs.declared.RomNext.{RomNext}
use Rattle.rom.specs.declared.RomNext.TheVariants as next
use Rattle.scratchpad.specs.Scratchpad.{memory_in_range, registers_in_range, memory_begins}
use Rattle.scratchpad.specs.Registers.{pf_set}
use Rattle.scratchpad.specs.declared.Registers.{Registers}
use Rattle.ds2413.specs.Switch.{switch_begins, switch_in_range, phase_in_range, switch_power_on}
use Rattle.chip.specs.Bounds.{sight_last, sight_end}
use Rattle.chip.specs.Kinds.{has_memory, has_switch, knows_of, known_kind, image_size, pad_size}
use Rattle.chip.specs.With.{with_rc, with_level}
use Rattle.chip.specs.declared.ChipAfter.{ChipAfter}
use Rattle.ds2413.specs.declared.Switch.{Switch}
use Rattle.chip.specs.Chip.{Whole, chip_map, level_of, level_seen, rom_slot, function_in, function_slot, memory_sight, memory_slot, switch_slot, level_takes, takes_of, level_reset, reset_chip, reset_of, power_on_chip, power_on_of, outside_chip, outside_of}
use Rattle.chip.specs.Range.{level_in_range, in_range}
use Rattle.chip.specs.declared.Chip.{Chip}
use Rattle.chip.specs.declared.Level.{Level}
use Rattle.chip.specs.declared.Level.TheVariants.{Waiting, Rom, FunctionCommand, Memory, Pio}
use Rattle.line.specs.Line.{act_of}
use Rattle.line.specs.Named.{Named, act_named}
use Rattle.line.specs.Sizes.{act_sized}
use Rattle.line.specs.declared.Act.{Act}
use Rattle.line.specs.declared.Act.TheVariants.{Take, Reset, PowerOn}
use Rattle.chip.specs.RangeKept.{more_below, Clear, clear_of, of_clear, NextInRange, rom_leads, function_in_range, memory-in-range, clear_pf, reset_either, pio_function, switch-in-range}

-- a record in range, part by part
pub record InRange (c : Chip) : Type 0 where
  pub known : known_kind c.kind ≡ true
  pub clear : Clear c.registers.es
  pub pins : switch_in_range c.switch ≡ true
  pub place : level_in_range c.kind c.level ≡ true

pub in-range : (c : Chip) → in_range c ≡ true → InRange c
unfolding in_range registers_in_range
in-range c h =
    let p = both_holds (both (known_kind c.kind) _) (both (switch_in_range c.switch) _) h in
    let q = both_holds (known_kind c.kind) _ p.0 in
    let r = both_holds (switch_in_range c.switch) _ p.1 in
    record { known = q.0; clear = clear_of c.registers.es q.1; pins = r.0; place = r.1 }

pub range_in : (c : Chip) → InRange c → in_range c ≡ true
unfolding in_range registers_in_range
range_in c h =
    both_true' _ _ (both_true' _ _ h.known (of_clear c.registers.es h.clear)) (both_true' _ _ h.pins h.place)

next_level : (kind : ℕ) (n : RomNext) → NextInRange n → level_in_range kind (level_of n) ≡ true
next_level kind next.Wait h = refl
next_level kind (next.Step s) h = h
next_level kind next.Function h = refl

-- the same chip at another level in range
at_level : (c : Chip) (l : Level) (rc : Bool) → InRange c → level_in_range c.kind l ≡ true → InRange (with_level l (with_rc rc c))
at_level c l rc h k = record { known = h.known; clear = h.clear; pins = h.pins; place = k }

abbrev AfterInRange : ChipAfter → Type 0
AfterInRange t = InRange t.chip

function-in : (c : Chip) (b : ℕ) → InRange c → AfterInRange (function_in c b)
unfolding function_in memory_begins switch_begins
function-in c b h =
    pick_if AfterInRange _ _ _ (λ e. at_level c _ c.rc h (both_true' _ _ e (function_in_range (chip_map c).last b)))
    (λ e. pick_if AfterInRange _ _ _ (λ f. at_level c _ c.rc h (both_true' _ _ f (pio_function c.switch b))) (λ f. at_level c _ c.rc h refl))

level_in : (w : Whole) (v : Bool) (l : Level) → InRange w.chip → level_in_range w.chip.kind l ≡ true → InRange (level_takes w v l).chip
unfolding rom_slot function_slot memory_slot memory_sight switch_slot
level_in w v Waiting h k = h
level_in w v (Rom s) h k = at_level w.chip _ _ h (next_level w.chip.kind (rom_takes w.chip.code w.chip.rc v (knows_of w.chip.kind) s).next (rom_leads w.chip.code w.chip.rc v (knows_of w.chip.kind) s k))
level_in w v (FunctionCommand count bits) h k =
    pick_if AfterInRange _ _ _ (λ e. at_level w.chip _ w.chip.rc h (more_below count 7 e)) (λ e. function-in w.chip _ h)
level_in w v (Memory p) h k =
    let q = both_holds (has_memory w.chip.kind) (memory_in_range (chip_map w.chip).last p) k in
    let x = level_seen w (Memory p) in
    let m = memory-in-range (chip_map w.chip).last (memory_sight w.chip p x) (sight_last w.chip p x) (sight_end w.chip p x) w.chip.registers v p h.clear q.1 in
    record { known = h.known; clear = m.0; pins = h.pins; place = both_true' _ _ q.0 m.1 }
level_in w v (Pio p) h k =
    let q = both_holds (has_switch w.chip.kind) (phase_in_range p) k in
    let m = switch-in-range w.chip.switch v p h.pins q.1 in
    record { known = h.known; clear = h.clear; pins = m.0; place = both_true' _ _ q.0 m.1 }

-- what the registers have, with PF as it is and with PF = 1, they have after a reset
pub level_either : (P : Registers → Type 0) (c : Chip) → P c.registers → P (pf_set c.registers) → (l : Level) → P (level_reset c l)
level_either P c h k Waiting = h
level_either P c h k (Rom s) = h
level_either P c h k (FunctionCommand count bits) = h
level_either P c h k (Memory p) = reset_either P c.registers (chip_map c).cut_sets_pf h k p
level_either P c h k (Pio p) = h

-- every act keeps the ranges
act_in_range : (a : Act) (w : Whole) → InRange w.chip → InRange (act_of a w).chip
unfolding takes_of reset_of reset_chip power_on_of power_on_chip switch_in_range
act_in_range (Take v) w h = level_in w v w.chip.level h h.place
act_in_range Reset w h = record { known = h.known; clear = level_either (λ (r : Registers). Clear r.es) w.chip h.clear (clear_pf w.chip.registers.es h.clear) w.chip.level; pins = h.pins; place = refl }
act_in_range PowerOn w h =
    record {
      known = h.known;
      clear = pick_both (λ (r : Registers). Clear r.es) _ _ _ refl h.clear;
      pins = pick_both (λ (s : Switch). switch_in_range s ≡ true) _ _ _ (powered w.chip.switch h.pins) h.pins;
      place = refl;
    }
  where
    powered : (s : Switch) → switch_in_range s ≡ true → switch_in_range (switch_power_on s) ≡ true
    powered s k = both_true' _ _ refl (both_holds (leb s.latches 3) (leb s.outside 3) k).1

-- so do outside levels of two bits
outside_in_range : (l : ℕ) (w : Whole) → l ≤ 3 → InRange w.chip → InRange (outside_of l w).chip
unfolding outside_of outside_chip switch_in_range
outside_in_range l w k h =
    record {
      known = h.known;
      clear = h.clear;
      pins = pick_both (λ (s : Switch). switch_in_range s ≡ true) _ _ _
          (both_true' _ _ (both_holds (leb w.chip.switch.latches 3) (leb w.chip.switch.outside 3) h.pins).0 (le-leb l 3 k)) h.pins;
      place = h.place;
    }

pub outside_named : (l : ℕ) (w : Whole) → Named w (outside_of l w)
unfolding outside_of outside_chip
outside_named l w = (refl, refl)

-- a chip that is in range and has the memory and scratchpad that its kind asks for
pub record Good (w : Whole) : Type 0 where
  pub range : InRange w.chip
  pub memory : length w.memory ≡ image_size w.chip.kind
  pub pad : length w.pad ≡ pad_size w.chip.kind

pub act_good : (a : Act) (w : Whole) → Good w → Good (act_of a w)
act_good a w g =
    let n = act_named a w in
    let s = act_sized a w in
    record {
      range = act_in_range a w g.range;
      memory = s.0 ∙ g.memory ∙ ap image_size (sym n.1);
      pad = s.1 ∙ g.pad ∙ ap pad_size (sym n.1);
    }

pub outside_good : (l : ℕ) (w : Whole) → l ≤ 3 → Good w → Good (outside_of l w)
unfolding outside_of outside_chip
outside_good l w k g = record { range = outside_in_range l w k g.range; memory = g.memory; pad = g.pad }
