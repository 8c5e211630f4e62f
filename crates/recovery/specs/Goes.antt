-- A chip that is fed given bits: silent all along, and where it comes to. Of any chip: a match of its code, or of another. Of a DS28EC20: 0Fh
-- and an address.
use Rattle.std.specs.Prelude.{ℕ, zero, suc, ◌+◌, ◌%◌, ◌^◌, ◌<◌, ◌≤◌, Bool, true, false, ◌≡◌}
use Rattle.std.proofs.Common.{arith, ◌∙◌, ap, sym, subst}
use mathlib.Core.List.{List, [], ◌∷◌, ◌++◌}
use Rattle.std.proofs.Math.Path.{refl}
use borrow.Author.Tests.{lt-ltb, le-ltb}
use Rattle.base.specs.Pick.{pick}
use Rattle.base.specs.Bits.{bit_of, same, both, filled}
use Rattle.base.specs.Both.{both_holds, both_true'}
use Rattle.base.specs.Same.{same_own, same_bit}
use Rattle.rom.specs.Rom.{command_of, command_bit, match_bit}
use Rattle.rom.specs.declared.RomStep.TheVariants.{Command, Match}
use Rattle.scratchpad.specs.Registers.{registers, target_of}
use Rattle.scratchpad.specs.Scratchpad.{memory_begins, memory_function, crc_of_address, address_in, write_address}
use Rattle.scratchpad.specs.declared.Registers.{Registers}
use Rattle.scratchpad.specs.declared.MemoryPhase.TheVariants.{WriteAddress, WriteData}
use Rattle.chip.specs.Kinds.{has_memory}
use Rattle.chip.specs.With.{with_kind, with_rc, with_level, with_registers}
use Rattle.chip.specs.Chip.{Whole, whole, rom_slot, function_in, function_slot, memory_slot, takes_of, sends_of}
use Rattle.chip.specs.declared.Chip.{Chip}
use Rattle.chip.specs.declared.Level.{Level}
use Rattle.chip.specs.declared.Level.TheVariants.{Waiting, Rom, FunctionCommand, Memory}
use Rattle.histories.specs.Fed.{fed, sends_nothing}
use Rattle.histories.specs.Sent.{bits_from}
use Rattle.recovery.specs.Sessions.{opening}
use Rattle.recovery.specs.Opening.{low_bits, same_code}
use Rattle.recovery.specs.Filled.{filled_by, byte_taken, address_taken}

-- fed these bits, a chip sends nothing all along and comes to exactly u
pub record Goes (vs : List Bool) (w u : Whole) : Type 0 where
  pub silent : sends_nothing vs w ≡ true
  pub comes : fed vs w ≡ u

-- from an equal state
pub goes_from : (vs : List Bool) (w x u : Whole) → w ≡ x → Goes vs x u → Goes vs w u
goes_from vs w x u e g = subst (λ (y : Whole). Goes vs y u) (sym e) g

-- to an equal state
pub goes_to : (vs : List Bool) (w x u : Whole) → Goes vs w x → x ≡ u → Goes vs w u
goes_to vs w x u g e = record { silent = g.silent; comes = g.comes ∙ e }

-- one bit, and others after it
pub goes_bit : (v : Bool) (vs : List Bool) (w u : Whole) → sends_of w ≡ true → Goes vs (takes_of v w) u → Goes (v ∷ vs) w u
goes_bit v vs w u s g = record { silent = both_true' _ _ s g.silent; comes = g.comes }

-- one run of bits after another
pub goes_append : (xs ys : List Bool) (w u z : Whole) → Goes xs w u → Goes ys u z → Goes (xs ++ ys) w z
goes_append [] ys w u z f g = goes_from ys w u z f.comes g
goes_append (x ∷ xs) ys w u z f g =
    let s = both_holds (sends_of w) (sends_nothing xs (takes_of x w)) f.silent in
    goes_bit x (xs ++ ys) w z s.0 (goes_append xs ys (takes_of x w) u z (record { silent = s.1; comes = f.comes }) g)

module _ (c : Chip) (m : List ℕ) where
  -- a chip of this kind and c's code at a level, with these registers
  abbrev pub of_kind : ℕ → Level → Bool → Registers → List ℕ → Whole
  of_kind kind l rc r s = whole (with_level l (with_rc rc (with_registers r (with_kind kind c)))) m s

  -- a DS28EC20
  abbrev pub ec20 : Level → Bool → Registers → List ℕ → Whole
  ec20 = of_kind 1

  -- a match, of a chip of any kind
  module _ (kind : ℕ) where
    -- 55h
    goes_55 : (rc : Bool) (r : Registers) (s : List ℕ) → Goes (bits_from 8 0 0x55) (of_kind kind (Rom (Command 0 0)) rc r s) (of_kind kind (Rom (Match 0)) false r s)
    unfolding sends_of takes_of rom_slot command_bit command_of filled bit_of both pick
    goes_55 rc r s = record { silent = refl; comes = refl }

    -- a bit of its code
    own_bit : (p : ℕ) (r : Registers) (s : List ℕ) → p < 63 → takes_of (bit_of c.code p) (of_kind kind (Rom (Match p)) false r s) ≡ of_kind kind (Rom (Match (p + 1))) false r s
    unfolding takes_of rom_slot match_bit pick
    own_bit p r s h = simp (same_own, lt-ltb p 63 h)

    -- the last bit of its code
    last_bit : (p : ℕ) (r : Registers) (s : List ℕ) → 63 ≤ p → takes_of (bit_of c.code p) (of_kind kind (Rom (Match p)) false r s) ≡ of_kind kind (FunctionCommand 0 0) true r s
    unfolding takes_of rom_slot match_bit pick
    last_bit p r s h = simp (same_own, le-ltb p 63 h)

    -- it sends nothing
    own_sends : (p : ℕ) (r : Registers) (s : List ℕ) → sends_of (of_kind kind (Rom (Match p)) false r s) ≡ true
    unfolding sends_of
    own_sends p r s = refl

    -- the bits of its code from a place on
    goes_code : (k p : ℕ) (r : Registers) (s : List ℕ) → k + p ≡ 63 → Goes (bits_from (suc k) p c.code) (of_kind kind (Rom (Match p)) false r s) (of_kind kind (FunctionCommand 0 0) true r s)
    goes_code zero p r s e = goes_bit _ [] _ _ (own_sends p r s) (record { silent = refl; comes = last_bit p r s (omega arith) })
    goes_code (suc k) p r s e =
        goes_bit _ (bits_from (suc k) (p + 1) c.code) _ _ (own_sends p r s)
        (goes_from (bits_from (suc k) (p + 1) c.code) _ _ _ (own_bit p r s (omega arith)) (goes_code k (p + 1) r s (omega arith)))

    -- a match of its code
    pub goes_match : (rc : Bool) (r : Registers) (s : List ℕ) → Goes (opening c.code) (of_kind kind (Rom (Command 0 0)) rc r s) (of_kind kind (FunctionCommand 0 0) true r s)
    goes_match rc r s = goes_append (bits_from 8 0 0x55) (bits_from 64 0 c.code) _ _ _ (goes_55 rc r s) (goes_code 63 0 r s refl)

    -- a chip that waits goes on waiting
    pub goes_waiting : (vs : List Bool) (rc : Bool) (r : Registers) (s : List ℕ) → Goes vs (of_kind kind Waiting rc r s) (of_kind kind Waiting rc r s)
    unfolding sends_of takes_of
    goes_waiting [] rc r s = record { silent = refl; comes = refl }
    goes_waiting (v ∷ vs) rc r s = goes_bit v vs _ _ refl (goes_waiting vs rc r s)

    -- a match of another code: the chip waits from the bit on at which the codes part
    module _ (code : ℕ) (g : code < 2 ^ 64) (h : c.code < 2 ^ 64) (other : c.code ≡ code → ⊥) where
      -- a bit that the codes share
      shared_bit : (p : ℕ) (r : Registers) (s : List ℕ) → p < 63 → same (bit_of c.code p) (bit_of code p) ≡ true
          → takes_of (bit_of code p) (of_kind kind (Rom (Match p)) false r s) ≡ of_kind kind (Rom (Match (p + 1))) false r s
      unfolding takes_of rom_slot match_bit pick
      shared_bit p r s l e = simp (e, lt-ltb p 63 l)

      -- the bit at which they part
      parting_bit : (p : ℕ) (r : Registers) (s : List ℕ) → same (bit_of c.code p) (bit_of code p) ≡ false
          → takes_of (bit_of code p) (of_kind kind (Rom (Match p)) false r s) ≡ of_kind kind Waiting false r s
      unfolding takes_of rom_slot match_bit pick
      parting_bit p r s e = simp e

      -- codes that share all bits are the same
      shares_all : (p : ℕ) → p ≡ 63 → c.code % 2 ^ p ≡ code % 2 ^ p → same (bit_of c.code p) (bit_of code p) ≡ true → ⊥
      shares_all p e low s =
          other (same_code code g c.code (p + 1) (omega arith) h (low_bits c.code code p low (same_bit (bit_of c.code p) (bit_of code p) s)))

      goes_apart : (k p : ℕ) (r : Registers) (s : List ℕ) → k + p ≡ 63 → c.code % 2 ^ p ≡ code % 2 ^ p
          → Goes (bits_from (suc k) p code) (of_kind kind (Rom (Match p)) false r s) (of_kind kind Waiting false r s)
      goes_apart zero p r s e low = go (same (bit_of c.code p) (bit_of code p)) refl
        where
          go : (t : Bool) → same (bit_of c.code p) (bit_of code p) ≡ t → Goes (bits_from 1 p code) (of_kind kind (Rom (Match p)) false r s) (of_kind kind Waiting false r s)
          go true q = absurd (shares_all p (omega arith) low q)
          go false q = goes_bit _ [] _ _ (own_sends p r s) (record { silent = refl; comes = parting_bit p r s q })
      goes_apart (suc k) p r s e low = go (same (bit_of c.code p) (bit_of code p)) refl (goes_apart k (p + 1))
        where
          go : (t : Bool) → same (bit_of c.code p) (bit_of code p) ≡ t
              → ((r : Registers) (s : List ℕ) → k + (p + 1) ≡ 63 → c.code % 2 ^ (p + 1) ≡ code % 2 ^ (p + 1)
              → Goes (bits_from (suc k) (p + 1) code) (of_kind kind (Rom (Match (p + 1))) false r s) (of_kind kind Waiting false r s))
              → Goes (bits_from (suc (suc k)) p code) (of_kind kind (Rom (Match p)) false r s) (of_kind kind Waiting false r s)
          go true q more =
              goes_bit _ (bits_from (suc k) (p + 1) code) _ _ (own_sends p r s)
              (goes_from (bits_from (suc k) (p + 1) code) _ _ _ (shared_bit p r s (omega arith) q)
              (more r s (omega arith) (low_bits c.code code p low (same_bit (bit_of c.code p) (bit_of code p) q))))
          go false q more =
              goes_bit _ (bits_from (suc k) (p + 1) code) _ _ (own_sends p r s)
              (goes_from (bits_from (suc k) (p + 1) code) _ _ _ (parting_bit p r s q) (goes_waiting (bits_from (suc k) (p + 1) code) false r s))

      pub goes_other : (rc : Bool) (r : Registers) (s : List ℕ) → Goes (opening code) (of_kind kind (Rom (Command 0 0)) rc r s) (of_kind kind Waiting false r s)
      goes_other rc r s = goes_append (bits_from 8 0 0x55) (bits_from 64 0 code) _ _ _ (goes_55 rc r s) (goes_apart 63 0 r s refl (omega arith))

  -- a match of a DS28EC20's code
  pub goes_opening : (rc : Bool) (r : Registers) (s : List ℕ) → Goes (opening c.code) (ec20 (Rom (Command 0 0)) rc r s) (ec20 (FunctionCommand 0 0) true r s)
  goes_opening = goes_match 1

  -- the 8 bits of a function command, as the register takes them
  goes_eight : (b : ℕ) (r : Registers) (s : List ℕ)
      → Goes (bits_from 8 0 b) (ec20 (FunctionCommand 0 0) true r s) (ec20 (Memory (memory_function (filled_by 0x80 0 (bits_from 8 0 b)))) true r s)
  unfolding sends_of takes_of function_slot function_in has_memory memory_begins both pick
  goes_eight b r s = record { silent = refl; comes = refl }

  -- a function command
  pub goes_command : (b : ℕ) (r : Registers) (s : List ℕ) → b < 256
      → Goes (bits_from 8 0 b) (ec20 (FunctionCommand 0 0) true r s) (ec20 (Memory (memory_function b)) true r s)
  goes_command b r s h = goes_to (bits_from 8 0 b) _ _ _ (goes_eight b r s) (ap (λ (n : ℕ). ec20 (Memory (memory_function n)) true r s) (byte_taken b h))

  -- 0Fh
  pub goes_0_f : (r : Registers) (s : List ℕ) → Goes (bits_from 8 0 0x0F) (ec20 (FunctionCommand 0 0) true r s) (ec20 (Memory (WriteAddress 0 0)) true r s)
  unfolding memory_function pick
  goes_0_f r s = goes_command 0x0F r s (omega arith)

  -- a chip that has the address
  abbrev pub addressed : List ℕ → ℕ → Whole
  addressed s t = ec20 (Memory (WriteData (t % 32) 0 0 (crc_of_address 0x0F t))) true (registers t (t % 32)) s

  -- the 16 bits of an address, as the register takes them
  goes_bits : (t : ℕ) (r : Registers) (s : List ℕ) → Goes (bits_from 16 0 t) (ec20 (Memory (WriteAddress 0 0)) true r s) (addressed s (filled_by 0x8000 0 (bits_from 16 0 t)))
  unfolding sends_of takes_of memory_slot write_address address_in target_of both pick
  goes_bits t r s = record { silent = refl; comes = refl }

  -- an address
  pub goes_address : (t : ℕ) (r : Registers) (s : List ℕ) → t < 0x10000 → Goes (bits_from 16 0 t) (ec20 (Memory (WriteAddress 0 0)) true r s) (addressed s t)
  goes_address t r s h = goes_to (bits_from 16 0 t) _ _ _ (goes_bits t r s) (ap (addressed s) (address_taken t h))
