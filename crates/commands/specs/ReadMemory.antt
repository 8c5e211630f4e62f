-- What Read Memory sends, in full. Document 01: "F0h Read Memory: TA1, TA2, bytes up to the last address, then ones. T, E/S and scratchpad
-- stay."
use Rattle.std.specs.Prelude.{ℕ, ◌+◌, ◌<◌, ◌≤◌, Bool, true, ◌≡◌, leb, length, get_or, drop}
use Rattle.std.proofs.Common.{arith, add-one, ◌∙◌, sym, drop_of_length-le, lt-ltb}
use mathlib.Core.List.{List, [], ◌++◌, append-nil}
use Rattle.std.proofs.Math.Path.{refl, ap, subst}
use Rattle.base.specs.Pick.{pick}
use Rattle.base.specs.Bits.{bit_of, both}
use Rattle.scratchpad.specs.Scratchpad.{memory_function, read_from, read_address, memory_sent}
use Rattle.scratchpad.specs.declared.Registers.{Registers}
use Rattle.scratchpad.specs.declared.MemoryPhase.TheVariants.{Ones, ReadAddress, ReadMemory}
use Rattle.ds28ec20.specs.Map.{ds28ec20, last_address}
use Rattle.memory.specs.Part.{map_of}
use Rattle.chip.specs.Kinds.{part_of, image_size}
use Rattle.chip.specs.Chip.{Whole, memory_look, memory_sight, memory_slot, takes_of, sends_of, level_reset, reset_of}
use Rattle.chip.specs.declared.Chip.{Chip}
use Rattle.chip.specs.declared.Level.TheVariants.{FunctionCommand}
use Rattle.histories.specs.Histories.{at, run, answers}
use Rattle.histories.specs.Sent.{bits_from, bits_of}
use Rattle.recovery.specs.Filled.{filled_by, address_taken}
use Rattle.recovery.specs.Goes.{Goes, ec20, goes_to, goes_append, goes_command}
use Rattle.recovery.proofs.Installed.{Installed}
use Rattle.commands.specs.ShortAddress.{matched}
use Rattle.commands.specs.Streams.{then_ones, but_level, Streams}
use Rattle.commands.specs.Sending.{in_phase, streams_bytes, streams_end}
use Rattle.commands.specs.ReadSession.{reading, reading_answers, after_match, after_match_is, session_reads, session_stays}

-- F0h and the address t
abbrev pub read_memory : ℕ → List Bool
read_memory t = bits_from 8 0 0xF0 ++ bits_from 16 0 t

-- the bits that Read Memory sends from the address t on: those of the memory's bytes from there to its last; past it none
abbrev pub memory_bits : ℕ → List ℕ → List Bool
memory_bits t memory = bits_of (drop t memory)

-- the memory of a DS28EC20 ends at 0A3Fh
pub memory_size : (kind : ℕ) → kind ≡ 1 → image_size kind ≡ last_address + 1
unfolding image_size pick
memory_size kind e = rw e

module _ (c : Chip) (m : List ℕ) (rc : Bool) (r : Registers) (s : List ℕ) where
  -- a byte of the memory, bit by bit
  memory-sends : (a x p : ℕ) → sends_of (in_phase c m rc r s (ReadMemory a p)) ≡ bit_of (get_or m a 0) p
  unfolding sends_of memory_sight memory_look
  memory-sends a x p = refl

  memory_moves : (a x : ℕ) (v : Bool) (p : ℕ) → p < 7 → takes_of v (in_phase c m rc r s (ReadMemory a p)) ≡ in_phase c m rc r s (ReadMemory a (p + 1))
  unfolding takes_of memory_slot memory_sent pick
  memory_moves a x v p h = simp (lt-ltb p 7 h)

  memory_leads : (a x : ℕ) (v : Bool) → takes_of v (in_phase c m rc r s (ReadMemory a 7)) ≡ in_phase c m rc r s (read_from (a + 1) last_address)
  unfolding takes_of memory_slot memory_sight memory_look part_of map_of ds28ec20 memory_sent read_from pick
  memory_leads a x v = ap (λ (j : ℕ). in_phase c m rc r s (pick (leb j last_address) (ReadMemory (a + 1) 0) Ones)) (sym (add-one a))

  -- the memory from an address on, then ones
  pub streams_memory : (t : ℕ) → length m ≡ last_address + 1 → Streams (memory_bits t m) (in_phase c m rc r s (read_from t last_address))
  unfolding read_from
  streams_memory t l =
      subst (λ (bits : List Bool). Streams bits (in_phase c m rc r s (read_from t last_address))) (append-nil (memory_bits t m))
      (streams_bytes c m rc r s m last_address (λ a x p. ReadMemory a p) (λ x. Ones) (λ x b. x) (λ x bs. []) l
      memory-sends memory_moves memory_leads (λ x b bs. refl) (λ x. streams_end c m rc r s) 2624 t 0 (omega arith))

  -- the 16 bits of an address, as the register takes them
  goes_bits : (t : ℕ) → Goes (bits_from 16 0 t) (in_phase c m true r s (ReadAddress 0 0)) (in_phase c m true r s (read_from (filled_by 0x8000 0 (bits_from 16 0 t)) last_address))
  unfolding sends_of takes_of memory_slot memory_sight memory_look part_of map_of ds28ec20 read_address both pick
  goes_bits t = record { silent = refl; comes = refl }

-- the command and an address, after which the memory is sent from there on; the chip is silent over them
pub goes_read : (c : Chip) (m : List ℕ) (r : Registers) (s : List ℕ) (t : ℕ) → t < 0x10000
    → Goes (read_memory t) (ec20 c m (FunctionCommand 0 0) true r s) (in_phase c m true r s (read_from t last_address))
unfolding memory_function pick
goes_read c m r s t h =
    goes_append (bits_from 8 0 0xF0) (bits_from 16 0 t) _ _ _ (goes_command c m 0xF0 r s (omega arith))
    (goes_to (bits_from 16 0 t) _ _ _ (goes_bits c m true r s t) (ap (λ (a : ℕ). in_phase c m true r s (read_from a last_address)) (address_taken t h)))

module _ (i : ℕ) (L : List Whole) (s : Installed i L) (t : ℕ) (h : t < 0x10000) where
  -- chip i, its code, and its registers after the reset
  abbrev own : Whole
  own = at i L

  abbrev code : ℕ
  code = own.chip.code

  abbrev first : Registers
  first = level_reset own.chip own.chip.level

  -- the chip when the address is in
  abbrev begun : Whole
  begun = in_phase own.chip own.memory true first own.pad (read_from t last_address)

  -- the command and the address bring it there, and it is silent over them
  taken : Goes (read_memory t) (after_match own) begun
  taken = goes_read own.chip own.memory first own.pad t h

  -- what it sends from there on
  streams : Streams (memory_bits t own.memory) begun
  streams = streams_memory own.chip own.memory true first own.pad t (s.good.memory ∙ memory_size own.chip.kind s.kind)

  -- THEOREM: after a reset, a match of its code, F0h and an address, n read slots are answered so
  pub memory_answers : (n : ℕ) → answers (reading code (read_memory t) n) L ≡ reading_answers code (read_memory t) (then_ones n (memory_bits t own.memory))
  memory_answers n = session_reads i L s (read_memory t) begun (memory_bits t own.memory) taken streams n

  -- THEOREM: above 0A3Fh they are ones alone
  pub memory_past : last_address < t → (n : ℕ) → answers (reading code (read_memory t) n) L ≡ reading_answers code (read_memory t) (then_ones n [])
  memory_past k n =
      let l : length own.memory ≤ t = let e = s.good.memory ∙ memory_size own.chip.kind s.kind in omega arith in
      memory_answers n ∙ ap (λ (bytes : List ℕ). reading_answers code (read_memory t) (then_ones n (bits_of bytes))) (drop_of_length-le own.memory l)

  -- THEOREM: and the chip, but for its level, is as the reset left it, and RC is 1: "T, E/S and scratchpad stay."
  pub memory_stays : (n : ℕ) → but_level (at i (run (reading code (read_memory t) n) L)) ≡ but_level (matched (reset_of own))
  memory_stays n = session_stays i L s (read_memory t) begun (memory_bits t own.memory) taken streams n ∙ after_match_is own s.kind
