-- Law: a slot on a chip's record in its place is the slot on the chip, packed again.
use Prim.Native.Nat.{ℕ, ◌+◌, ◌*◌, ◌/◌, ◌%◌, ◌≤◌}
use Rattle.std.proofs.Common.{arith, ◌∙◌}
use Rattle.std.specs.Prelude.{Bool, true, false, ◌≡◌, length, get_or, set}
use mathlib.Core.List.{List}
use Rattle.std.proofs.Math.Path.{refl, ap, sym}
use Rattle.std.proofs.Math.Dec.{ltb}
use Rattle.base.specs.Pick.{pick, pick_true, pick_false, pick_of, pick_if}
use Rattle.base.specs.Bits.{bit_of, same, filled}
use Rattle.base.specs.Parts.{part_byte, put_in_part}
use Rattle.crc.specs.Crc.{poly16, crc_byte}
use Rattle.records.specs.Numbers.{number_at}
use Rattle.rom.specs.Rom.{rom, rom_takes, command_bit, read_bit, match_bit}
use Rattle.rom.specs.declared.RomResult.{RomResult}
use Rattle.rom.specs.declared.RomNext.TheVariants as next
use Rattle.rom.specs.declared.RomStep.{RomStep}
use Rattle.rom.specs.declared.RomStep.TheVariants.{Command, Read, Match, Search}
use Rattle.scratchpad.specs.declared.Deed.TheVariants as deed
use Rattle.scratchpad.specs.declared.MemoryAfter.{MemoryAfter}
use Rattle.scratchpad.specs.declared.MemoryPhase.{MemoryPhase}
use Rattle.scratchpad.specs.declared.MemoryPhase.TheVariants.{Ones, WriteAddress, WriteData, SendCrc, ReadRegisters, ReadPad, CopyAddress, CopyEnd, Copied, ReadAddress, ReadMemory}
use Rattle.scratchpad.specs.declared.Sight.{Sight}
use Rattle.scratchpad.specs.declared.Hand.{Hand}
use Rattle.scratchpad.specs.declared.Hand.TheVariants as hand
use Rattle.scratchpad.specs.Map.{rule_by}
use Rattle.scratchpad.specs.Registers.{registers, with_e}
use Rattle.scratchpad.specs.Scratchpad as scratchpad
use Rattle.scratchpad.specs.Scratchpad.{memory_after, memory_takes, write_address, write_data, crc_sent, register_sent, pad_sent, pad_byte_sent, copy_address, copy_end, read_address, memory_sent, after_byte, in_page, byte_at_hand}
use Rattle.memory.specs.Memory.{look_of, seen_in, sight_by}
use Rattle.ds2413.specs.Switch.{switch_after, switch_takes, status_sent, pair_bit, confirmed, shown}
use Rattle.ds2413.specs.declared.SwitchAfter.{SwitchAfter}
use Rattle.ds2413.specs.declared.SwitchPhase.{SwitchPhase}
use Rattle.ds2413.specs.declared.SwitchPhase.TheVariants as pio
use Rattle.chip.specs.Chip.{Whole, left, chip_map, level_of, level_seen, memory_look, rom_slot, function_slot, memory_sight, memory_slot, switch_slot, after_memory, after_switch}
use Rattle.chip.specs.Kinds.{image_size, pad_size, knows_of}
use Rattle.chip.specs.With.{with_level, with_rc, with_registers}
use Rattle.chip.specs.declared.Chip.{Chip}
use Rattle.chip.specs.declared.ChipAfter.{ChipAfter}
use Rattle.chip.specs.declared.Level.{Level}
use Rattle.chip.specs.declared.Level.TheVariants.{Waiting, Rom, FunctionCommand, Memory, Pio}
use Rattle.line.specs.Bridge.{part_of, put_part, whole_at, act_at}
use Rattle.line.specs.Line.{act_of}
use Rattle.line.specs.declared.Act.TheVariants as act
use Rattle.packed.specs.Packed.{packed, unpacked, put_record}
use Rattle.packed.specs.Laws.{unpacked_packed}
use Rattle.packed.specs.Places.{put_packed}
use Rattle.packed.specs.Within.{back, leaves, act_is, act_still}
use Rattle.packed.specs.Parts.{byte_of_part, put_of_part}
use Rattle.packed.specs.Takes.{Taken, taken, shape_of, filled_at, word_filled, of_code, any_in, count_in, byte_in, word_in, code_in, put_step, offset_next, address_next, memory_end, memory_out, pad_end, pad_out, ruled_in, whole_in, data_end, data_in, takes_in}

-- what a slot leaves of a chip and the buffers, the chip packed
abbrev pub packed_taken : Whole → Taken
packed_taken x = taken (packed x.chip) x.memory x.pad

-- a number of two bytes is found again
word_back : (w : ℕ) → w % 256 + 256 * (w / 256) ≡ w
word_back w = omega arith

-- the code is found in the record
code_back : (c : Chip) → number_at (packed c) 0 8 ≡ c.code
unfolding unpacked
code_back c = ap (λ (d : Chip). d.code) (unpacked_packed c)

-- the general way
any_packed : (v : Bool) (image pad : ℕ) (c : Chip) (ms ss : List ℕ) → any_in v image pad (packed c) ms ss ≡ packed_taken (act_at (act_of (act.Take v)) c image pad ms ss)
unfolding any_in
any_packed v image pad c ms ss =
    ap (λ (d : Chip). let x = act_at (act_of (act.Take v)) d image pad ms ss in taken (put_record x.chip (packed c)) x.memory x.pad) (unpacked_packed c)
    ∙ ap (λ (bs : List ℕ). let x = act_at (act_of (act.Take v)) c image pad ms ss in taken bs x.memory x.pad) (put_packed _ c)

-- where the chip's parts lie in the buffers
module _ (v : Bool) (image pad : ℕ) (c : Chip) (ms ss : List ℕ) (h : image + image_size c.kind ≤ length ms) (k : pad + pad_size c.kind ≤ length ss) where
  -- the slot on the chip at a level, and on its record
  abbrev on_chip : Level → Taken
  on_chip l = packed_taken (act_at (act_of (act.Take v)) (with_level l c) image pad ms ss)

  abbrev on_record : Level → Taken
  on_record l = takes_in v image pad (packed (with_level l c)) ms ss

  abbrev general : Level → Taken
  general l = any_in v image pad (packed (with_level l c)) ms ss

  general_is : (l : Level) → general l ≡ on_chip l
  general_is l = any_packed v image pad (with_level l c) ms ss

  -- a slot that only leads from one level to another
  abbrev Leads : Level → Level → Type 0
  Leads l n = leaves v image pad (with_level l c) ms ss ≡ left (with_level n c) deed.Nothing

  leads : (l n : Level) (bs : List ℕ) → bs ≡ packed (with_level n c) → Leads l n → taken bs ms ss ≡ on_chip l
  leads l n bs e f =
      ap (λ (x : List ℕ). taken x ms ss) e
      ∙ ap (λ (x : Whole). packed_taken x) (sym (act_still v image pad (with_level l c) ms ss h k (with_level n c) f))

  -- one that does so where a test is true; else it goes the general way
  where_true : (l n : Level) (t : Bool) (bs : List ℕ) → bs ≡ packed (with_level n c) → (t ≡ true → Leads l n) → pick t (taken bs ms ss) (general l) ≡ on_chip l
  where_true l n t bs e f = pick_if (λ (x : Taken). x ≡ on_chip l) t _ _ (λ g. leads l n bs e (f g)) (λ g. general_is l)

  -- by what the level says
  rom_leads : (s n : RomStep) → rom_takes c.code c.rc v (knows_of c.kind) s ≡ rom (next.Step n) c.rc → Leads (Rom s) (Rom n)
  unfolding rom_slot
  rom_leads s n e = ap (λ (t : RomResult). left (with_level (level_of t.next) (with_rc t.rc c)) deed.Nothing) e

  abbrev sight_of : MemoryPhase → Sight
  sight_of p = let d = with_level (Memory p) c in memory_sight d p (level_seen (whole_at d image pad ms ss) (Memory p))

  memory_leads : (p n : MemoryPhase) → memory_takes c.registers v (sight_of p) p ≡ memory_after c.registers n deed.Nothing → Leads (Memory p) (Memory n)
  unfolding memory_slot
  memory_leads p n e = ap (λ (t : MemoryAfter). after_memory (with_level (Memory p) c) t) e

  switch_leads : (p n : SwitchPhase) → switch_takes c.switch v p ≡ switch_after c.switch n → Leads (Pio p) (Pio n)
  unfolding switch_slot
  switch_leads p n e = ap (λ (t : SwitchAfter). left (after_switch (with_level (Pio p) c) t) deed.Nothing) e

  -- a step of the ROM level
  rom_law : (s : RomStep) → on_record (Rom s) ≡ on_chip (Rom s)
  unfolding takes_in shape_of pick packed count_in byte_in filled_at command_bit read_bit code_in of_code match_bit
  rom_law (Command count bits) =
      let n = Command (count + 1) (filled 0x80 bits v) in
      where_true (Rom (Command count bits)) (Rom n) (ltb count 7) _ refl (λ g. rom_leads (Command count bits) n (pick_true (ltb count 7) _ _ g))
  rom_law (Read place) =
      let n = Read (place + 1) in
      where_true (Rom (Read place)) (Rom n) (ltb place 63) _ refl (λ g. rom_leads (Read place) n (pick_true (ltb place 63) _ _ g))
  rom_law (Match place) =
      let n = Match (place + 1) in
      let e = code_back (with_level (Rom (Match place)) c) in
      pick_if (λ (x : Taken). x ≡ on_chip (Rom (Match place))) (ltb place 63) _ _
      (λ g. where_true (Rom (Match place)) (Rom n) (of_code place v (packed (with_level (Rom (Match place)) c))) _ refl
      (λ f. rom_leads (Match place) n
      (pick_true (same (bit_of c.code place) v) _ _ (ap (λ (x : ℕ). same (bit_of x place) v) (sym e) ∙ f) ∙ pick_true (ltb place 63) _ _ g)))
      (λ g. general_is (Rom (Match place)))
  rom_law (Search place part) = general_is (Rom (Search place part))

  -- a phase of a memory: w is found again, and takes a bit
  abbrev word_of : Level → ℕ → ℕ → List ℕ
  word_of l count w = let x : ℕ = filled 0x8000 w v in set (set (set (packed (with_level l c)) 16 (x % 256)) 17 (x / 256)) 18 count

  filled_word : (l : Level) (count w : ℕ) → word_of l count (w % 256 + 256 * (w / 256)) ≡ word_of l count w
  filled_word l count w = ap (λ (x : ℕ). word_of l count x) (word_back w)

  counts_on : (p n : MemoryPhase) → p ≡ n → memory_after c.registers p deed.Nothing ≡ memory_after c.registers n deed.Nothing
  counts_on p n e = ap (λ (q : MemoryPhase). memory_after c.registers q deed.Nothing) e

  -- the record at a phase, and at one that a test chooses
  abbrev record_at : MemoryPhase → List ℕ
  record_at p = packed (with_level (Memory p) c)

  chosen : (t : Bool) (p n : MemoryPhase) → pick t (record_at p) (record_at n) ≡ record_at (pick t p n)
  chosen t p n = sym (pick_of (λ (q : MemoryPhase). record_at q) t p n)

  chosen_of : (t u : Bool) (p n m : MemoryPhase) → pick t (record_at p) (pick u (record_at n) (record_at m)) ≡ record_at (pick t p (pick u n m))
  chosen_of t u p n m = ap (λ (x : List ℕ). pick t (record_at p) x) (chosen u n m) ∙ chosen t p (pick u n m)

  -- a byte of the memory that is sent
  memory-out : (address count : ℕ) → memory_out (record_at (ReadMemory address count)) ≡ record_at (memory_sent address count (sight_of (ReadMemory address count)))
  unfolding memory_out memory_end address_next put_step packed memory_sent memory_sight
  memory-out address count =
      let last = (chip_map c).last in
      ap (λ (w : ℕ). pick (ltb count 7) (record_at (ReadMemory address (count + 1))) (pick (ltb w last) (record_at (ReadMemory (w + 1) 0)) (record_at Ones))) (word_back address)
      ∙ chosen_of (ltb count 7) (ltb address last) (ReadMemory address (count + 1)) (ReadMemory (address + 1) 0) Ones

  -- a byte of the scratchpad that is sent
  pad-out : (offset count crc : ℕ) → pad_out pad (record_at (ReadPad offset count crc)) ss ≡ record_at (pad_sent offset count crc (sight_of (ReadPad offset count crc)))
  unfolding pad_out pad_end offset_next put_step packed pad_sent pad_byte_sent memory_sight memory_look
  pad-out offset count crc =
      let t = ltb count 7 in
      let u = ltb offset ((chip_map c).end c.registers.es) in
      let sum : ℕ = crc_byte poly16 crc (get_or (part_of ss pad (pad_size c.kind)) offset 0) in
      let chosen_by : ℕ → ℕ → List ℕ = λ w b. pick t (record_at (ReadPad offset (count + 1) crc)) (pick u (record_at (ReadPad (offset + 1) 0 (crc_byte poly16 w b))) (record_at (SendCrc 0 (crc_byte poly16 w b)))) in
      (λ j. chosen_by (word_back crc j) (byte_of_part ss pad (pad_size c.kind) offset k j))
      ∙ chosen_of t u (ReadPad offset (count + 1) crc) (ReadPad (offset + 1) 0 sum) (SendCrc 0 sum)

  -- a data byte that was taken whole, by the memory byte that its last bit sees
  module _ (offset count bits crc : ℕ) where
    abbrev data_step : MemoryPhase
    data_step = WriteData offset count bits crc

    abbrev address : ℕ
    address = in_page c.registers.t offset

    abbrev sent : ℕ
    sent = filled 0x80 bits v

    abbrev sight_by' : Hand → Sight
    sight_by' x = sight_by (chip_map c) c.registers.es (seen_in (part_of ms image (image_size c.kind)) (part_of ss pad (pad_size c.kind)) (look_of (chip_map c) x)) x

    abbrev byte_leaves : ChipAfter
    byte_leaves = after_memory (with_level (Memory data_step) c) (scratchpad.byte_in c.registers offset sent crc (sight_by' (hand.Byte address)))

    byte-leaves : ltb count 7 ≡ false → leaves v image pad (with_level (Memory data_step) c) ms ss ≡ byte_leaves
    unfolding memory_slot memory_sight memory_look write_data byte_at_hand
    byte-leaves g =
        ap (λ (t : MemoryAfter). after_memory (with_level (Memory data_step) c) t) (pick_false (ltb count 7) _ _ g)
        ∙ ap (λ (x : Hand). after_memory (with_level (Memory data_step) c) (scratchpad.byte_in c.registers offset sent crc (sight_by' x))) (pick_false (ltb count 7) hand.Nothing (hand.Byte address) g)

    -- its record
    abbrev with_byte : MemoryPhase → List ℕ
    with_byte p = packed (with_level (Memory p) (with_registers (registers c.registers.t (with_e c.registers.es offset)) c))

    byte_record : offset_next 18 offset 31 (crc_byte poly16 (number_at (record_at data_step) 16 2) sent) (set (record_at data_step) 12 (with_e c.registers.es offset)) ≡ with_byte (after_byte offset (crc_byte poly16 crc sent))
    unfolding offset_next put_step packed after_byte
    byte_record =
        ap (λ (w : ℕ). pick (ltb offset 31) (with_byte (WriteData (offset + 1) 0 0 (crc_byte poly16 w sent))) (with_byte (SendCrc 0 (crc_byte poly16 w sent)))) (word_back crc)
        ∙ sym (pick_of (λ (p : MemoryPhase). with_byte p) (ltb offset 31) (WriteData (offset + 1) 0 0 (crc_byte poly16 crc sent)) (SendCrc 0 (crc_byte poly16 crc sent)))

    -- and the scratchpads
    abbrev ruled : ℕ → ℕ → ℕ → ℕ
    ruled a x y = rule_by (chip_map c) a x y sent

    abbrev memory_byte : ℕ → ℕ
    memory_byte a = get_or (part_of ms image (image_size c.kind)) a 0

    byte_pads : put_in_part ss pad (pad_size c.kind) offset (ruled_in image offset sent (record_at data_step) ms)
        ≡ put_part ss pad (pad_size c.kind) (set (part_of ss pad (pad_size c.kind)) offset (ruled address (memory_byte address) (memory_byte ((chip_map c).control address))))
    unfolding ruled_in packed
    byte_pads =
        let size : ℕ = image_size c.kind in
        let M = chip_map c in
        ap (λ (t : ℕ). put_in_part ss pad (pad_size c.kind) offset (ruled (in_page t offset) (part_byte ms image size (in_page t offset)) (part_byte ms image size (M.control (in_page t offset))))) (word_back c.registers.t)
        ∙ (λ j. put_in_part ss pad (pad_size c.kind) offset (ruled address (byte_of_part ms image size address h j) (byte_of_part ms image size (M.control address) h j)))
        ∙ put_of_part ss pad (pad_size c.kind) offset k (ruled address (memory_byte address) (memory_byte (M.control address)))

    byte_law : ltb count 7 ≡ false → data_end v image pad (record_at data_step) ms ss ≡ on_chip (Memory data_step)
    unfolding data_end whole_in packed scratchpad.byte_in rule_by
    byte_law g =
        (λ j. taken (byte_record j) (sym (back ms image (image_size c.kind)) j) (byte_pads j))
        ∙ ap (λ (x : Whole). packed_taken x) (sym (act_is v image pad (with_level (Memory data_step) c) ms ss h k byte_leaves (byte-leaves g)))

  memory_law : (p : MemoryPhase) → on_record (Memory p) ≡ on_chip (Memory p)
  unfolding takes_in shape_of pick packed count_in byte_in filled_at word_in word_filled data_in write_address write_data crc_sent register_sent copy_address copy_end read_address
  memory_law Ones = leads (Memory Ones) (Memory Ones) _ refl (memory_leads Ones Ones refl)
  memory_law (WriteAddress count bits) =
      let n = WriteAddress (count + 1) (filled 0x8000 bits v) in
      where_true (Memory (WriteAddress count bits)) (Memory n) (ltb count 15) _ (filled_word (Memory (WriteAddress count bits)) (count + 1) bits)
      (λ g. memory_leads (WriteAddress count bits) n (pick_true (ltb count 15) _ _ g))
  memory_law (WriteData offset count bits crc) =
      let p = WriteData offset count bits crc in
      let n = WriteData offset (count + 1) (filled 0x80 bits v) crc in
      pick_if (λ (x : Taken). x ≡ on_chip (Memory p)) (ltb count 7) _ _
      (λ g. leads (Memory p) (Memory n) _ refl (memory_leads p n (pick_true (ltb count 7) _ _ g)))
      (λ g. byte_law offset count bits crc g)
  memory_law (SendCrc place crc) =
      let n = SendCrc (place + 1) crc in
      where_true (Memory (SendCrc place crc)) (Memory n) (ltb place 15) _ refl
      (λ g. memory_leads (SendCrc place crc) n (counts_on _ n (pick_true (ltb place 15) _ _ g)))
  memory_law (ReadRegisters place) =
      let n = ReadRegisters (place + 1) in
      where_true (Memory (ReadRegisters place)) (Memory n) (ltb place 23) _ refl
      (λ g. memory_leads (ReadRegisters place) n (counts_on _ n (pick_true (ltb place 23) _ _ g)))
  memory_law (ReadPad offset count crc) =
      let p = ReadPad offset count crc in
      let n = pad_sent offset count crc (sight_of p) in
      leads (Memory p) (Memory n) _ (pad-out offset count crc) (memory_leads p n refl)
  memory_law (CopyAddress count bits) =
      let n = CopyAddress (count + 1) (filled 0x8000 bits v) in
      where_true (Memory (CopyAddress count bits)) (Memory n) (ltb count 15) _ (filled_word (Memory (CopyAddress count bits)) (count + 1) bits)
      (λ g. memory_leads (CopyAddress count bits) n (counts_on _ n (pick_true (ltb count 15) _ _ g)))
  memory_law (CopyEnd address count bits) =
      let n = CopyEnd address (count + 1) (filled 0x80 bits v) in
      where_true (Memory (CopyEnd address count bits)) (Memory n) (ltb count 7) _ refl
      (λ g. memory_leads (CopyEnd address count bits) n (pick_true (ltb count 7) _ _ g))
  memory_law (Copied answer) = general_is (Memory (Copied answer))
  memory_law (ReadAddress count bits) =
      let n = ReadAddress (count + 1) (filled 0x8000 bits v) in
      where_true (Memory (ReadAddress count bits)) (Memory n) (ltb count 15) _ (filled_word (Memory (ReadAddress count bits)) (count + 1) bits)
      (λ g. memory_leads (ReadAddress count bits) n (counts_on _ n (pick_true (ltb count 15) _ _ g)))
  memory_law (ReadMemory address count) =
      let p = ReadMemory address count in
      let n = memory_sent address count (sight_of p) in
      leads (Memory p) (Memory n) _ (memory-out address count) (memory_leads p n refl)

  -- a phase of a switch
  shows_on : (p n : SwitchPhase) → p ≡ n → switch_after c.switch p ≡ switch_after c.switch n
  shows_on p n e = ap (λ (q : SwitchPhase). switch_after c.switch q) e

  switch_law : (p : SwitchPhase) → on_record (Pio p) ≡ on_chip (Pio p)
  unfolding takes_in shape_of pick packed count_in word_in word_filled status_sent pair_bit confirmed shown
  switch_law pio.Ones = leads (Pio pio.Ones) (Pio pio.Ones) _ refl (switch_leads pio.Ones pio.Ones refl)
  switch_law (pio.Status count sample) =
      let n = pio.Status (count + 1) sample in
      where_true (Pio (pio.Status count sample)) (Pio n) (ltb count 7) _ refl
      (λ g. switch_leads (pio.Status count sample) n (shows_on _ n (pick_true (ltb count 7) _ _ g)))
  switch_law (pio.Take count bits) =
      let n = pio.Take (count + 1) (filled 0x8000 bits v) in
      where_true (Pio (pio.Take count bits)) (Pio n) (ltb count 15) _ (filled_word (Pio (pio.Take count bits)) (count + 1) bits)
      (λ g. switch_leads (pio.Take count bits) n (pick_true (ltb count 15) _ _ g))
  switch_law (pio.Confirm count) =
      let n = pio.Confirm (count + 1) in
      where_true (Pio (pio.Confirm count)) (Pio n) (ltb count 7) _ refl
      (λ g. switch_leads (pio.Confirm count) n (shows_on _ n (pick_true (ltb count 7) _ _ g)))
  switch_law (pio.Show count sample) =
      let n = pio.Show (count + 1) sample in
      where_true (Pio (pio.Show count sample)) (Pio n) (ltb count 7) _ refl
      (λ g. switch_leads (pio.Show count sample) n (shows_on _ n (pick_true (ltb count 7) _ _ g)))

  level_law : (l : Level) → on_record l ≡ on_chip l
  unfolding takes_in shape_of pick packed byte_in filled_at function_slot
  level_law Waiting = leads Waiting Waiting _ refl refl
  level_law (Rom s) = rom_law s
  level_law (FunctionCommand count bits) =
      let n = FunctionCommand (count + 1) (filled 0x80 bits v) in
      where_true (FunctionCommand count bits) n (ltb count 7) _ refl (λ g. pick_true (ltb count 7) _ _ g)
  level_law (Memory p) = memory_law p
  level_law (Pio p) = switch_law p

module _ (v : Bool) (image pad : ℕ) (c : Chip) (ms ss : List ℕ) where
  -- where the chip's parts lie in the buffers
  pub takes_packed : image + image_size c.kind ≤ length ms → pad + pad_size c.kind ≤ length ss
      → takes_in v image pad (packed c) ms ss ≡ packed_taken (act_at (act_of (act.Take v)) c image pad ms ss)
  takes_packed h k = level_law v image pad c ms ss h k c.level
