-- When a copy is carried out. Document 01, 55h: "If they equal TA1, TA2, E/S, and PF = 0, and T's page isn't closed, the copy is carried
-- out". That such a slot carries one out is `carries-out`, in the crate `recovery`; here: no other slot does.
use Rattle.std.specs.Prelude.{ℕ, ◌≤◌, false, not, ◌≡◌, refl, eqb, ltb, get_or}
use Rattle.std.proofs.Math.Bool.{Bool, true}
use Rattle.std.proofs.Common.{true≢false, ◌∙◌, ap, subst}
use Rattle.std.proofs.Math.Path.{sym}
use borrow.Author.Tests.{ltb-false, eqb-true, not-true}
use Rattle.base.specs.Pick.{pick, pick_if, pick_both, pick_false}
use Rattle.base.specs.Bits.{filled, both}
use Rattle.base.specs.Both.{both_holds}
use Rattle.scratchpad.specs.Registers.{registers, e_of, pf, with_aa}
use Rattle.scratchpad.specs.Map.{Map}
use Rattle.scratchpad.specs.Scratchpad.{in_page, page_at_hand, address_in, write_address, write_data, byte_in, carried_out, three_bytes_in, copy_end, memory_begins}
use Rattle.scratchpad.specs.declared.Hand.{Hand}
use Rattle.scratchpad.specs.declared.Hand.TheVariants as hand
use Rattle.scratchpad.specs.declared.Deed.TheVariants.{Copy}
use Rattle.scratchpad.specs.declared.MemoryAfter.{MemoryAfter}
use Rattle.scratchpad.specs.declared.MemoryPhase.TheVariants as memory
use Rattle.ds28ec20.specs.Map.{ds28ec20}
use Rattle.memory.specs.Part.{map_of}
use Rattle.memory.specs.Memory.{look_of, seen_in, sight_by}
use Rattle.chip.specs.Kinds.{part_of}
use Rattle.chip.specs.With.{with_level, with_registers}
use Rattle.chip.specs.declared.ChipAfter.{ChipAfter}
use Rattle.chip.specs.Chip.{Whole, chip_map, left, function_slot, function_in, memory_look, memory_sight, memory_slot, level_seen, level_takes_by}
use Rattle.chip.specs.declared.Level.{Level}
use Rattle.chip.specs.declared.Level.TheVariants.{Waiting, Rom, FunctionCommand, Memory, Pio}
use Rattle.recovery.specs.CarriedOut.{is_copy, level_carries_out, carries_out}

-- what a copy was asked by, of a chip w with the map M, in a slot of the value v at the level l
pub record Asked (M : Map) (w : Whole) (v : Bool) (l : Level) : Type 0 where
  -- 55h and two bytes were taken, and all of the third byte but this slot's bit
  pub address : ℕ
  pub count : ℕ
  pub bits : ℕ
  pub third : l ≡ Memory (memory.CopyEnd address count bits)
  pub last_bit : 7 ≤ count
  -- "If they equal TA1, TA2, E/S"
  pub is_t : address ≡ w.chip.registers.t
  pub is_es : filled 0x80 bits v ≡ w.chip.registers.es
  -- "and PF = 0"
  pub no_pf : pf w.chip.registers.es ≡ false
  -- "and T's page isn't closed", by the memory before the copy
  pub not_closed : let page = in_page w.chip.registers.t 0 in M.closed page (get_or w.memory (M.control page) 0) (get_or w.memory (M.lock page) 0) ≡ false

-- a slot that carries out a copy: where it leaves a chip, and what it was asked by
pub record Carried (w : Whole) (v : Bool) (l : Level) (t : ChipAfter) : Type 0 where
  pub leaves : let r = w.chip.registers in
      t ≡ left (with_level (Memory (memory.Copied false)) (with_registers (registers r.t (with_aa r.es)) w.chip)) (Copy r.t (e_of r.es))
  pub asked : Asked (chip_map w.chip) w v l

-- the third byte of Copy
module _ (w : Whole) (v : Bool) (address count bits : ℕ) where
  abbrev end : Level
  end = Memory (memory.CopyEnd address count bits)

  -- its last bit
  end_carried : level_carries_out w v end ≡ true → Carried w v end (level_takes_by w.chip v (level_seen w end) end)
  unfolding memory_slot memory_sight memory_look copy_end three_bytes_in carried_out page_at_hand
  end_carried =
      let M = chip_map w.chip in
      let r = w.chip.registers in
      let page = hand.Page (in_page r.t 0) in
      let closed : Hand → Bool = λ h. (sight_by M r.es (seen_in w.memory w.pad (look_of M h)) h).closed in
      let P : MemoryAfter → Type 0 = λ t. is_copy t.deed ≡ true → Carried w v end (left (with_level (Memory t.phase) (with_registers t.registers w.chip)) t.deed) in
      pick_if P _ _ _ (λ e f. absurd (true≢false (sym f)))
      (λ e. pick_if P _ _ _ (λ c f.
      let p = both_holds (both (eqb address r.t) (eqb (filled 0x80 bits v) r.es)) _ c in
      let q = both_holds (eqb address r.t) _ p.0 in
      let n = both_holds (not (pf r.es)) _ p.1 in
      record {
        leaves = refl;
        asked = record {
          address = address;
          count = count;
          bits = bits;
          third = refl;
          last_bit = ltb-false count 7 e;
          is_t = eqb-true address r.t q.0;
          is_es = eqb-true (filled 0x80 bits v) r.es q.1;
          no_pf = not-true (pf r.es) n.0;
          not_closed = sym (ap closed (pick_false (ltb count 7) hand.Nothing page e)) ∙ not-true (closed (pick (ltb count 7) hand.Nothing page)) n.1;
        };
      }) (λ c f. absurd (true≢false (sym f))))

-- a slot that carries out no copy
abbrev CopiesNot : ChipAfter → Type 0
CopiesNot t = is_copy t.deed ≡ false

abbrev MemoryCopiesNot : MemoryAfter → Type 0
MemoryCopiesNot t = is_copy t.deed ≡ false

-- no other phase and no other level carries out a copy
pub level_carried : (w : Whole) (v : Bool) (l : Level) → level_carries_out w v l ≡ true → Carried w v l (level_takes_by w.chip v (level_seen w l) l)
unfolding function_slot function_in memory_slot memory_begins write_address address_in write_data byte_in
level_carried w v Waiting f = absurd (true≢false (sym f))
level_carried w v (Rom s) f = absurd (true≢false (sym f))
level_carried w v (FunctionCommand count bits) f = absurd (true≢false (sym f ∙ pick_both CopiesNot _ _ _ refl (pick_both CopiesNot _ _ _ refl (pick_both CopiesNot _ _ _ refl refl))))
level_carried w v (Memory memory.Ones) f = absurd (true≢false (sym f))
level_carried w v (Memory (memory.WriteAddress count bits)) f = absurd (true≢false (sym f ∙ pick_both MemoryCopiesNot _ _ _ refl refl))
level_carried w v (Memory (memory.WriteData offset count bits crc)) f = absurd (true≢false (sym f ∙ pick_both MemoryCopiesNot _ _ _ refl refl))
level_carried w v (Memory (memory.SendCrc place crc)) f = absurd (true≢false (sym f))
level_carried w v (Memory (memory.ReadRegisters place)) f = absurd (true≢false (sym f))
level_carried w v (Memory (memory.ReadPad offset count crc)) f = absurd (true≢false (sym f))
level_carried w v (Memory (memory.CopyAddress count bits)) f = absurd (true≢false (sym f))
level_carried w v (Memory (memory.CopyEnd address count bits)) f = end_carried w v address count bits f
level_carried w v (Memory (memory.Copied answer)) f = absurd (true≢false (sym f))
level_carried w v (Memory (memory.ReadAddress count bits)) f = absurd (true≢false (sym f))
level_carried w v (Memory (memory.ReadMemory address count)) f = absurd (true≢false (sym f))
level_carried w v (Pio p) f = absurd (true≢false (sym f))

-- the map of a DS28EC20
pub map_is : (k : ℕ) → k ≡ 1 → map_of (part_of k) ≡ ds28ec20
unfolding map_of part_of
map_is k e = ap (λ (n : ℕ). map_of (part_of n)) e

-- THEOREM: a slot of the value v carries out a copy in a DS28EC20, in any state, only if it was asked so
pub copy_asked : (v : Bool) (w : Whole) → w.chip.kind ≡ 1 → carries_out v w ≡ true → Asked ds28ec20 w v w.chip.level
unfolding carries_out
copy_asked v w k c = subst (λ (M : Map). Asked M w v w.chip.level) (map_is w.chip.kind k) (level_carried w v w.chip.level c).asked
