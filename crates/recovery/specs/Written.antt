-- A match of its code and Write Scratchpad: where a DS28EC20 comes to, by bytes from any offset on and by a whole page.
use Rattle.std.specs.Prelude.{ℕ, suc, ◌+◌, ◌-◌, ◌/◌, ◌%◌, ◌<◌, ◌≤◌, Bool, ◌≡◌, leb, set, take, drop}
use native.Mathlib.Omega.{arith}
use Rattle.std.proofs.Common.{add-one, ◌∙◌, drop_of_length-le, take-suc-set, drop-set-lt, le-leb}
use Rattle.std.proofs.Math.Bool.{true}
use mathlib.Core.List.{List, [], ◌∷◌, ◌++◌, append_assoc, append-nil}
use Rattle.std.proofs.Math.Path.{refl, ap, sym}
use Rattle.std.proofs.Math.ListN.{length, length-set}
use Rattle.std.proofs.lemmas.List.{set_split}
use Rattle.std.proofs.lemmas.Bool.{lt-leb}
use Rattle.base.specs.Pick.{pick, pick_true, pick_false}
use Rattle.base.specs.Bits.{both}
use Rattle.crc.specs.Crc.{poly16, crc_byte, crc_of}
use Rattle.rom.specs.declared.RomStep.TheVariants.{Command}
use Rattle.scratchpad.specs.Registers.{registers, with_e}
use Rattle.scratchpad.specs.Scratchpad.{crc_of_address, after_byte, byte_in, write_data, in_page, byte_at_hand}
use Rattle.scratchpad.specs.declared.Registers.{Registers}
use Rattle.scratchpad.specs.declared.MemoryPhase.{MemoryPhase}
use Rattle.scratchpad.specs.declared.MemoryPhase.TheVariants.{WriteData, SendCrc}
use Rattle.scratchpad.specs.Map.{rule_by}
use Rattle.ds28ec20.specs.Map.{ds28ec20}
use Rattle.memory.specs.Part.{map_of}
use Rattle.memory.specs.Memory.{rule_at}
use Rattle.chip.specs.Kinds.{part_of}
use Rattle.chip.specs.With.{with_rc, with_level, with_registers}
use Rattle.chip.specs.Chip.{Whole, whole, memory_look, memory_sight, memory_slot, takes_of, sends_of}
use Rattle.chip.specs.declared.Chip.{Chip}
use Rattle.chip.specs.declared.Level.TheVariants.{Rom, FunctionCommand, Memory}
use Rattle.histories.specs.Below.{Bytes, first_below, others_below}
use Rattle.histories.specs.Sent.{bits_from, bits_of}
use Rattle.recovery.specs.Sessions.{opening, write_bits, Page, WithinPage, page_in}
use Rattle.recovery.specs.Filled.{filled_by, byte_taken}
use Rattle.recovery.specs.Goes.{Goes, goes_from, goes_to, goes_append, ec20, goes_opening, goes_0_f, goes_address}

-- bytes sent to the addresses from a on, each through the rule of a byte
abbrev pub ruled : List ℕ → ℕ → List ℕ → List ℕ
ruled m a [] = []
ruled m a (b ∷ bs) = rule_at ds28ec20 m a b ∷ ruled m (a + 1) bs

-- the chip after the write: T, E/S 1Fh, RC 1, the CRC-16 of command, address and bytes to be sent, the scratchpad ruled; code,
-- kind, latches, outside levels and memory as they were
unfoldable pub written_to : Whole → ℕ → List ℕ → Whole
written_to w t bytes =
    whole
    (with_level (Memory (SendCrc 0 (crc_of poly16 0 (0x0F ∷ t % 256 ∷ t / 256 ∷ bytes)))) (with_rc true (with_registers (registers t 0x1F) w.chip)))
    w.memory
    (ruled w.memory t bytes)

-- at an offset a data byte comes next, or past 31 the CRC-16
abbrev pub data_from : ℕ → ℕ → MemoryPhase
data_from o crc = pick (leb o 31) (WriteData o 0 0 crc) (SendCrc 0 crc)

-- a data byte leads to the next offset
after-byte : (o crc : ℕ) → after_byte o crc ≡ data_from (o + 1) crc
unfolding after_byte
after-byte o crc = ap (λ (n : ℕ). pick (leb n 31) (WriteData (o + 1) 0 0 crc) (SendCrc 0 crc)) (sym (add-one o))

-- a scratchpad with other bytes from an offset on
abbrev pub overlaid : ℕ → List ℕ → List ℕ → List ℕ
overlaid o bytes pad = take o pad ++ (bytes ++ drop (o + length bytes) pad)

-- as many bytes are ruled as were sent
ruled_length : (m : List ℕ) (a : ℕ) (bytes : List ℕ) → length (ruled m a bytes) ≡ length bytes
ruled_length m a [] = refl
ruled_length m a (b ∷ bs) = ap suc (ruled_length m (a + 1) bs)

-- E/S after a data byte
with-e : (es o : ℕ) → es < 32 → o < 32 → with_e es o ≡ o
unfolding with_e
with-e es o h k = omega arith

-- the address of the next offset, and of T's own
page_next : (t o : ℕ) → in_page t (o + 1) ≡ in_page t o + 1
unfolding in_page
page_next t o = omega arith

page_own : (t : ℕ) → in_page t (t % 32) ≡ t
unfolding in_page
page_own t = omega arith

-- up to the end of the scratchpad
overlaid_end : (o : ℕ) (xs s : List ℕ) → length s ≤ o + length xs → overlaid o xs s ≡ take o s ++ xs
overlaid_end o xs s h = ap (λ (y : List ℕ). take o s ++ (xs ++ y)) (drop_of_length-le s h) ∙ ap (λ (y : List ℕ). take o s ++ y) (append-nil xs)

-- one byte, and the others after it
overlaid_one : (s : List ℕ) (o x : ℕ) → o < length s → set s o x ≡ overlaid o (x ∷ []) s
overlaid_one s o x h = set_split s o x h ∙ ap (λ (n : ℕ). take o s ++ (x ∷ drop n s)) (sym (add-one o))

overlaid_more : (s : List ℕ) (o x : ℕ) (xs : List ℕ) → o < length s → overlaid (o + 1) xs (set s o x) ≡ overlaid o (x ∷ xs) s
overlaid_more s o x xs h =
    let n : o + 1 + length xs ≡ o + suc (length xs) = omega arith in
    ap (λ (k : ℕ). take k (set s o x) ++ (xs ++ drop (o + 1 + length xs) (set s o x))) (add-one o)
    ∙ ap (λ (y : List ℕ). y ++ (xs ++ drop (o + 1 + length xs) (set s o x))) (take-suc-set s o x h)
    ∙ append_assoc (take o s) (x ∷ []) (xs ++ drop (o + 1 + length xs) (set s o x))
    ∙ ap (λ (y : List ℕ). take o s ++ (x ∷ (xs ++ y))) (drop-set-lt (o + 1 + length xs) s o x (omega arith))
    ∙ ap (λ (k : ℕ). take o s ++ (x ∷ (xs ++ drop k s))) n

module _ (c : Chip) (m : List ℕ) (t : ℕ) where
  -- a chip that has the byte x at offset o
  abbrev put : ℕ → ℕ → ℕ → List ℕ → ℕ → Whole
  put o crc es s x = ec20 c m (Memory (after_byte o (crc_byte poly16 crc x))) true (registers t (with_e es o)) (set s o (rule_at ds28ec20 m (in_page t o) x))

  -- the 8 bits of a byte, as the register takes them
  goes_eight : (b o crc es : ℕ) (s : List ℕ) → Goes (bits_from 8 0 b) (ec20 c m (Memory (WriteData o 0 0 crc)) true (registers t es) s) (put o crc es s (filled_by 0x80 0 (bits_from 8 0 b)))
  unfolding sends_of takes_of memory_slot memory_sight memory_look byte_at_hand part_of map_of write_data byte_in rule_at rule_by both pick
  goes_eight b o crc es s = record { silent = refl; comes = refl }

  -- a byte
  goes_byte : (b o crc es : ℕ) (s : List ℕ) → o < 32 → es < 32 → b < 256
      → Goes (bits_from 8 0 b) (ec20 c m (Memory (data_from o crc)) true (registers t es) s)
      (ec20 c m (Memory (data_from (o + 1) (crc_byte poly16 crc b))) true (registers t o) (set s o (rule_at ds28ec20 m (in_page t o) b)))
  goes_byte b o crc es s h k l =
      let d : data_from o crc ≡ WriteData o 0 0 crc = pick_true (leb o 31) _ _ (le-leb o 31 (omega arith)) in
      goes_from (bits_from 8 0 b) _ _ _ (ap (λ (p : MemoryPhase). ec20 c m (Memory p) true (registers t es) s) d)
      (goes_to (bits_from 8 0 b) _ _ _ (goes_eight b o crc es s)
      (ap (put o crc es s) (byte_taken b l)
      ∙ (λ j. ec20 c m (Memory (after-byte o (crc_byte poly16 crc b) j)) true (registers t (with-e es o k h j)) (set s o (rule_at ds28ec20 m (in_page t o) b)))))

  -- bytes from an offset on
  goes_data : (bs : List ℕ) (b o crc es : ℕ) (s : List ℕ) → length bs + o < 32 → length s ≡ 32 → es < 32 → Bytes (b ∷ bs)
      → Goes (bits_of (b ∷ bs)) (ec20 c m (Memory (data_from o crc)) true (registers t es) s)
      (ec20 c m (Memory (data_from (o + length (b ∷ bs)) (crc_of poly16 crc (b ∷ bs)))) true (registers t (o + length bs)) (overlaid o (ruled m (in_page t o) (b ∷ bs)) s))
  unfolding crc_of
  goes_data [] b o crc es s e l h small =
      let x = rule_at ds28ec20 m (in_page t o) b in
      let z : o ≡ o + 0 = omega arith in
      goes_append (bits_from 8 0 b) [] _ _ _ (goes_byte b o crc es s (omega arith) h (first_below _ b [] small))
      (record { silent = refl; comes = λ j. ec20 c m (Memory (data_from (o + 1) (crc_byte poly16 crc b))) true (registers t (z j)) (overlaid_one s o x (omega arith) j) })
  goes_data (y ∷ bs) b o crc es s e l h small =
      let x = rule_at ds28ec20 m (in_page t o) b in
      let n = crc_byte poly16 crc b in
      let p : o + 1 + length (y ∷ bs) ≡ o + length (b ∷ y ∷ bs) = omega arith in
      let q : o + 1 + length bs ≡ o + length (y ∷ bs) = omega arith in
      let r = ap (λ (a : ℕ). overlaid (o + 1) (ruled m a (y ∷ bs)) (set s o x)) (page_next t o) ∙ overlaid_more s o x (ruled m (in_page t o + 1) (y ∷ bs)) (omega arith) in
      goes_append (bits_from 8 0 b) (bits_of (y ∷ bs)) _ _ _ (goes_byte b o crc es s (omega arith) h (first_below _ b (y ∷ bs) small))
      (goes_to (bits_of (y ∷ bs)) _ _ _
      (goes_data bs y (o + 1) n o (set s o x) (omega arith) (simp length-set l) (omega arith) (others_below _ b (y ∷ bs) small))
      (λ j. ec20 c m (Memory (data_from (p j) (crc_of poly16 n (y ∷ bs)))) true (registers t (q j)) (r j)))

  -- the chip after the bytes: T, E, the scratchpad ruled from T mod 32 on; a data byte comes next, or the CRC-16 of command, address and bytes
  abbrev pub wrote : List ℕ → List ℕ → Whole
  wrote bytes s =
      ec20 c m (Memory (data_from (t % 32 + length bytes) (crc_of poly16 0 (0x0F ∷ t % 256 ∷ t / 256 ∷ bytes)))) true
      (registers t (t % 32 + (length bytes - 1))) (overlaid (t % 32) (ruled m t bytes) s)

  -- THEOREM: from the function level on, silent all along
  pub goes_write : (bytes : List ℕ) (r : Registers) (s : List ℕ) → WithinPage t bytes → length s ≡ 32
      → Goes (write_bits t bytes) (ec20 c m (FunctionCommand 0 0) true r s) (wrote bytes s)
  unfolding crc_of crc_of_address
  goes_write [] r s g l = absurd (let f = g.some in omega arith)
  goes_write (b ∷ bs) r s g l =
      let f = g.fits in
      let o = t % 32 in
      let n = crc_of_address 0x0F t in
      let d : data_from o n ≡ WriteData o 0 0 n = pick_true (leb o 31) _ _ (le-leb o 31 (omega arith)) in
      let k : length (b ∷ bs) - 1 ≡ length bs = omega arith in
      goes_append (bits_from 8 0 0x0F) (bits_from 16 0 t ++ bits_of (b ∷ bs)) _ _ _ (goes_0_f c m r s)
      (goes_append (bits_from 16 0 t) (bits_of (b ∷ bs)) _ _ _ (goes_address c m t r s g.address)
      (goes_from (bits_of (b ∷ bs)) _ _ _ (ap (λ (p : MemoryPhase). ec20 c m (Memory p) true (registers t o) s) (sym d))
      (goes_to (bits_of (b ∷ bs)) _ _ _ (goes_data bs b o n o s (omega arith) l (omega arith) g.small)
      (λ j. ec20 c m (Memory (data_from (o + length (b ∷ bs)) (crc_of poly16 n (b ∷ bs)))) true (registers t (o + sym k j)) (overlaid o (ruled m (page_own t j) (b ∷ bs)) s)))))

  -- THEOREM: with bytes up to offset 31 the CRC-16 comes next
  pub goes_filled : (bytes : List ℕ) (r : Registers) (s : List ℕ) → WithinPage t bytes → t % 32 + length bytes ≡ 32 → length s ≡ 32
      → Goes (write_bits t bytes) (ec20 c m (FunctionCommand 0 0) true r s)
      (ec20 c m (Memory (SendCrc 0 (crc_of poly16 0 (0x0F ∷ t % 256 ∷ t / 256 ∷ bytes)))) true (registers t 0x1F) (take (t % 32) s ++ ruled m t bytes))
  goes_filled bytes r s g f l =
      let n = crc_of poly16 0 (0x0F ∷ t % 256 ∷ t / 256 ∷ bytes) in
      let d : data_from (t % 32 + length bytes) n ≡ SendCrc 0 n = pick_false (leb (t % 32 + length bytes) 31) _ _ (lt-leb (t % 32 + length bytes) 31 (omega arith)) in
      let e : t % 32 + (length bytes - 1) ≡ 0x1F = let k = g.some in omega arith in
      let k : length s ≤ t % 32 + length (ruled m t bytes) = let q = ruled_length m t bytes in omega arith in
      goes_to (write_bits t bytes) _ _ _ (goes_write bytes r s g l)
      (λ j. ec20 c m (Memory (d j)) true (registers t (e j)) (overlaid_end (t % 32) (ruled m t bytes) s k j))

  -- THEOREM: from a reset on, a whole page
  pub goes_written : (bytes : List ℕ) (rc : Bool) (r : Registers) (s : List ℕ) → Page t bytes → length s ≡ 32
      → Goes (opening c.code ++ write_bits t bytes) (ec20 c m (Rom (Command 0 0)) rc r s)
      (ec20 c m (Memory (SendCrc 0 (crc_of poly16 0 (0x0F ∷ t % 256 ∷ t / 256 ∷ bytes)))) true (registers t 0x1F) (ruled m t bytes))
  goes_written bytes rc r s g l =
      let z = g.offset in
      let f = g.full in
      let n = crc_of poly16 0 (0x0F ∷ t % 256 ∷ t / 256 ∷ bytes) in
      goes_append (opening c.code) (write_bits t bytes) _ _ _
      (goes_opening c m rc r s)
      (goes_to (write_bits t bytes) _ _ _ (goes_filled bytes r s (page_in t bytes g) (omega arith) l)
      (ap (λ (o : ℕ). ec20 c m (Memory (SendCrc 0 n)) true (registers t 0x1F) (take o s ++ ruled m t bytes)) z))
