-- Laws: whatever happens to a chip, its record stays in range.
use Rattle.std.specs.Prelude.{ℕ, zero, suc, ◌+◌, ◌*◌, ◌/◌, ◌%◌, ◌<◌, Bool, true, false, not, ◌≡◌, eqb, ltb, leb}
use Rattle.std.proofs.Common.{arith, mod-lt, true≢false, ◌∙◌, ap, sym}
use Rattle.std.proofs.Math.Path.{refl}
use borrow.Author.Tests.{ltb-true, eq-eqb, ne_eqb, lt-ltb, le-leb}
use Rattle.base.specs.Pick.{pick_if, pick_both}
use Rattle.base.specs.Bits.{bit_of, both}
use Rattle.base.specs.Both.{both_holds, both_true'}
use Rattle.rom.specs.declared.Knows.{Knows}
use Rattle.rom.specs.Rom.{command_of, command_bit, read_bit, match_bit, search_bit, rom_takes, rom_in_range}
use Rattle.rom.specs.declared.RomNext.{RomNext}
use Rattle.rom.specs.declared.RomNext.TheVariants as next
use Rattle.rom.specs.declared.RomStep.{RomStep}
use Rattle.rom.specs.declared.RomStep.TheVariants.{Command, Read, Match, Search}
use Rattle.rom.specs.declared.RomResult.{RomResult}
use Rattle.scratchpad.specs.Registers.{e_of, with_e, with_pf, pf_set, with_aa, target_of}
use Rattle.scratchpad.specs.Scratchpad.{memory_function, address_in, write_address, after_byte, byte_in, write_data, crc_sent, pad_from, pad_begins, register_sent, pad_byte_sent, pad_sent, copy_address, three_bytes_in, copy_end, read_from, read_address, memory_sent, memory_takes, memory_reset, cut_of, memory_in_range}
use Rattle.scratchpad.specs.declared.Registers.{Registers}
use Rattle.scratchpad.specs.declared.Sight.{Sight}
use Rattle.scratchpad.specs.declared.MemoryAfter.{MemoryAfter}
use Rattle.scratchpad.specs.declared.MemoryPhase.{MemoryPhase}
use Rattle.scratchpad.specs.declared.MemoryPhase.TheVariants as memory
use Rattle.ds2413.specs.Switch.{switch_function, status_sent, pair_in, pair_bit, confirmed, shown, switch_takes, phase_in_range, switch_in_range}
use Rattle.ds2413.specs.declared.Switch.{Switch}
use Rattle.ds2413.specs.declared.SwitchAfter.{SwitchAfter}
use Rattle.ds2413.specs.declared.SwitchPhase.{SwitchPhase}
use Rattle.ds2413.specs.declared.SwitchPhase.TheVariants as pio

-- a count that is below one less than its end may grow
pub more_below : (count n : ℕ) → ltb count n ≡ true → ltb (count + 1) (n + 1) ≡ true
more_below count n e = lt-ltb (count + 1) (n + 1) (let h = ltb-true count n e in omega arith)

-- where the ROM level leads is in range
abbrev pub NextInRange : RomNext → Type 0
NextInRange next.Wait = Unit
NextInRange (next.Step s) = rom_in_range s ≡ true
NextInRange next.Function = Unit

abbrev Leads : RomResult → Type 0
Leads r = NextInRange r.next

command_leads : (k : Knows) (rc : Bool) (b : ℕ) → Leads (command_of k rc b)
unfolding command_of
command_leads k rc b =
    pick_both Leads _ _ _ refl
    (pick_both Leads _ _ _ refl
    (pick_both Leads _ _ _ (both_true' _ _ refl refl)
    (pick_both Leads _ _ _ tt
    (pick_both Leads _ _ _ (pick_both Leads _ _ _ tt tt) tt))))

pub rom_leads : (code : ℕ) (rc v : Bool) (k : Knows) (s : RomStep) → rom_in_range s ≡ true → NextInRange (rom_takes code rc v k s).next
unfolding command_bit read_bit match_bit search_bit
rom_leads code rc v k (Command count bits) h = pick_if Leads _ _ _ (λ e. more_below count 7 e) (λ e. command_leads k rc _)
rom_leads code rc v k (Read place) h = pick_if Leads _ _ _ (λ e. more_below place 63 e) (λ e. tt)
rom_leads code rc v k (Match place) h = pick_both Leads _ _ _ (pick_if Leads _ _ _ (λ e. more_below place 63 e) (λ e. tt)) tt
rom_leads code rc v k (Search place slot) h =
    let p = both_holds (ltb place 64) (ltb slot 3) h in
    pick_if Leads _ _ _ (λ e. both_true' _ _ p.0 (more_below slot 2 e))
    (λ e. pick_both Leads _ _ _ (pick_if Leads _ _ _ (λ f. both_true' _ _ (more_below place 63 f) refl) (λ f. tt)) tt)

-- bit 6 of E/S stays 0
abbrev pub Clear : ℕ → Type 0
Clear es = es / 64 % 2 ≡ 0

pub clear_of : (es : ℕ) → not (bit_of es 6) ≡ true → Clear es
unfolding bit_of
clear_of es h = go (eqb (es / 64 % 2) 1) (ne_of es) h
  where
    ne_of : (es : ℕ) → eqb (es / 64 % 2) 1 ≡ false → Clear es
    ne_of es e =
        let m : es / 64 % 2 < 2 = mod-lt (es / 64) (omega arith) in
        let n : es / 64 % 2 ≡ 1 → ⊥ = λ p. true≢false (sym (eq-eqb (es / 64 % 2) 1 p) ∙ e) in
        small (es / 64 % 2) m n
      where
        small : (k : ℕ) → k < 2 → (k ≡ 1 → ⊥) → k ≡ 0
        small zero m n = refl
        small (suc zero) m n = absurd (n refl)
        small (suc (suc k)) m n = absurd (omega arith)

    go : (b : Bool) → (b ≡ false → Clear es) → not b ≡ true → Clear es
    go true f h = absurd (true≢false (sym h))
    go false f h = f refl

pub clear_bit : (es : ℕ) → Clear es → bit_of es 6 ≡ false
unfolding bit_of
clear_bit es h = ne_eqb (es / 64 % 2) 1 (λ (p : es / 64 % 2 ≡ 1). omega arith)

pub of_clear : (es : ℕ) → Clear es → not (bit_of es 6) ≡ true
of_clear es h = ap not (clear_bit es h)

clear_e : (es offset : ℕ) → Clear es → Clear (with_e es offset)
unfolding with_e
clear_e es offset h = omega arith

-- with PF = 1, what E/S holds from bit 6 on stays
pub pf_block : (q k : ℕ) → k < 32 → (q * 64 + 32 + k) / 64 ≡ q
pf_block q k h = omega arith

pub clear_pf : (es : ℕ) → Clear es → Clear (with_pf es)
unfolding with_pf
clear_pf es h = ap (λ (n : ℕ). n % 2) (pf_block (es / 64) (e_of es) (mod-lt es (omega arith))) ∙ h

clear_aa : (es : ℕ) → Clear es → Clear (with_aa es)
unfolding with_aa
clear_aa es h = omega arith

clear_t : (t : ℕ) → Clear (t % 32)
clear_t t = omega arith

-- a slot of a DS28EC20 leaves bit 6 of E/S 0 and its phase in range
module _ (last : ℕ) where
  abbrev PhaseInRange : MemoryPhase → Type 0
  PhaseInRange p = memory_in_range last p ≡ true

  abbrev MemoryAfterInRange : MemoryAfter → Type 0
  MemoryAfterInRange s = Clear s.registers.es × PhaseInRange s.phase

  pub function_in_range : (b : ℕ) → PhaseInRange (memory_function b)
  unfolding memory_function
  function_in_range b =
      pick_both PhaseInRange _ _ _ refl (pick_both PhaseInRange _ _ _ refl (pick_both PhaseInRange _ _ _ refl (pick_both PhaseInRange _ _ _ refl refl)))

  offset_in : (offset : ℕ) → offset < 32 → both (ltb offset 32) (ltb 0 8) ≡ true
  offset_in offset h = both_true' _ _ (lt-ltb offset 32 h) refl

  offset-next : (offset : ℕ) → ltb offset 31 ≡ true → both (ltb (offset + 1) 32) (ltb 0 8) ≡ true
  offset-next offset e = both_true' _ _ (more_below offset 31 e) refl

  address-in : (bits : ℕ) → MemoryAfterInRange (address_in bits)
  unfolding address_in
  address-in bits = let t = target_of bits in (clear_t t, offset_in (t % 32) (mod-lt t (omega arith)))

  byte-in : (r : Registers) (offset b crc : ℕ) (see : Sight) → Clear r.es → MemoryAfterInRange (byte_in r offset b crc see)
  unfolding byte_in after_byte
  byte-in r offset b crc see h =
      (clear_e r.es offset h, pick_if PhaseInRange _ _ _ (λ e. offset-next offset e) (λ e. refl))

  three-bytes-in : (r : Registers) (address es : ℕ) (see : Sight) → Clear r.es → MemoryAfterInRange (three_bytes_in r address es see)
  unfolding three_bytes_in
  three-bytes-in r address es see h = pick_both MemoryAfterInRange _ _ _ (clear_aa r.es h, refl) (h, refl)

  module _ (see : Sight) (is_last : see.last ≡ last) (is_end : see.end < 32) where
    read-from : (address : ℕ) → PhaseInRange (read_from address see.last)
    unfolding read_from
    read-from address = pick_if PhaseInRange _ _ _ (λ e. both_true' _ _ (ap (leb address) (sym is_last) ∙ e) refl) (λ e. refl)

    pub memory-in-range : (r : Registers) (v : Bool) (p : MemoryPhase) → Clear r.es → memory_in_range last p ≡ true → MemoryAfterInRange (memory_takes r v see p)
    unfolding write_address write_data crc_sent register_sent pad_begins pad_from pad_sent pad_byte_sent copy_address copy_end read_address memory_sent
    memory-in-range r v memory.Ones h k = (h, refl)
    memory-in-range r v (memory.WriteAddress count bits) h k = pick_if MemoryAfterInRange _ _ _ (λ e. (h, more_below count 15 e)) (λ e. address-in _)
    memory-in-range r v (memory.WriteData offset count bits crc) h k =
        pick_if MemoryAfterInRange _ _ _ (λ e. (h, both_true' _ _ (both_holds (ltb offset 32) (ltb count 8) k).0 (more_below count 7 e))) (λ e. byte-in r offset _ crc see h)
    memory-in-range r v (memory.SendCrc place crc) h k = (h, pick_if PhaseInRange _ _ _ (λ e. more_below place 15 e) (λ e. refl))
    memory-in-range r v (memory.ReadRegisters place) h k =
        (h, pick_if PhaseInRange _ _ _ (λ e. more_below place 23 e) (λ e. pick_if PhaseInRange _ _ _ (λ f. offset_in (r.t % 32) (mod-lt r.t (omega arith))) (λ f. refl)))
    memory-in-range r v (memory.ReadPad offset count crc) h k = (
      h,
      pick_if PhaseInRange _ _ _ (λ e. both_true' _ _ (both_holds (ltb offset 32) (ltb count 8) k).0 (more_below count 7 e))
          (λ e. pick_if PhaseInRange _ _ _ (λ f. offset_in (offset + 1) (let g = ltb-true offset see.end f in omega arith)) (λ f. refl)),
    )
    memory-in-range r v (memory.CopyAddress count bits) h k = (h, pick_if PhaseInRange _ _ _ (λ e. more_below count 15 e) (λ e. refl))
    memory-in-range r v (memory.CopyEnd address count bits) h k = pick_if MemoryAfterInRange _ _ _ (λ e. (h, more_below count 7 e)) (λ e. three-bytes-in r address _ see h)
    memory-in-range r v (memory.Copied answer) h k = (h, refl)
    memory-in-range r v (memory.ReadAddress count bits) h k = (h, pick_if PhaseInRange _ _ _ (λ e. more_below count 15 e) (λ e. read-from _))
    memory-in-range r v (memory.ReadMemory address count) h k =
        let p = both_holds (leb address last) (ltb count 8) k in (
          h,
          pick_if PhaseInRange _ _ _ (λ e. both_true' _ _ p.0 (more_below count 7 e))
              (λ e. pick_if PhaseInRange _ _ _ (λ f. both_true' _ _ (le-leb (address + 1) last (let g = ltb-true address see.last f in omega (arith, is_last))) refl) (λ f. refl)),
        )

-- a reset leaves the registers, or it sets PF: what both have, the registers have after it
pub reset_either : (P : Registers → Type 0) (r : Registers) (cut : Bool) → P r → P (pf_set r) → (p : MemoryPhase) → P (memory_reset r cut p)
unfolding cut_of
reset_either P r cut h k memory.Ones = h
reset_either P r cut h k (memory.WriteAddress count bits) = pick_both P _ _ _ k h
reset_either P r cut h k (memory.WriteData offset count bits crc) = pick_both P _ _ _ k h
reset_either P r cut h k (memory.SendCrc place crc) = h
reset_either P r cut h k (memory.ReadRegisters place) = h
reset_either P r cut h k (memory.ReadPad offset count crc) = h
reset_either P r cut h k (memory.CopyAddress count bits) = h
reset_either P r cut h k (memory.CopyEnd address count bits) = h
reset_either P r cut h k (memory.Copied answer) = h
reset_either P r cut h k (memory.ReadAddress count bits) = h
reset_either P r cut h k (memory.ReadMemory address count) = h

-- a slot of a DS2413 leaves its latches and outside levels two bits each and its phase in range
abbrev SwitchAfterInRange : SwitchAfter → Type 0
SwitchAfterInRange s = (switch_in_range s.switch ≡ true) × (phase_in_range s.phase ≡ true)

abbrev PioInRange : SwitchPhase → Type 0
PioInRange p = phase_in_range p ≡ true

pub pio_function : (c : Switch) (b : ℕ) → PioInRange (switch_function c b)
unfolding switch_function
pio_function c b = pick_both PioInRange _ _ _ refl (pick_both PioInRange _ _ _ refl refl)

pair-in : (c : Switch) (pair : ℕ) → switch_in_range c ≡ true → SwitchAfterInRange (pair_in c pair)
unfolding pair_in switch_in_range
pair-in c pair h =
    pick_both SwitchAfterInRange _ _ _
    (both_true' _ _ (le-leb (pair % 4) 3 (let m = mod-lt pair {m = 4} (omega arith) in omega arith)) (both_holds (leb c.latches 3) (leb c.outside 3) h).1, refl)
    (h, refl)

pub switch-in-range : (c : Switch) (v : Bool) (p : SwitchPhase) → switch_in_range c ≡ true → phase_in_range p ≡ true → SwitchAfterInRange (switch_takes c v p)
unfolding status_sent pair_bit confirmed shown
switch-in-range c v pio.Ones h k = (h, refl)
switch-in-range c v (pio.Status count sample) h k = (h, pick_if PioInRange _ _ _ (λ e. more_below count 7 e) (λ e. refl))
switch-in-range c v (pio.Take count bits) h k = pick_if SwitchAfterInRange _ _ _ (λ e. (h, more_below count 15 e)) (λ e. pair-in c _ h)
switch-in-range c v (pio.Confirm count) h k = (h, pick_if PioInRange _ _ _ (λ e. more_below count 7 e) (λ e. refl))
switch-in-range c v (pio.Show count sample) h k = (h, pick_if PioInRange _ _ _ (λ e. more_below count 7 e) (λ e. refl))
