-- Laws: a Write Scratchpad that a reset ends inside its address, and one that it ends straight after it.
use Rattle.std.specs.Prelude.{ℕ, ◌+◌, ◌%◌, ◌<◌, Bool, true, List, [], ◌∷◌, ◌++◌, ◌≡◌, length}
use Rattle.std.proofs.Common.{arith, ◌∙◌, sym, lt-ltb}
use Rattle.std.proofs.Math.Path.{refl, ap}
use Rattle.base.specs.Pick.{pick}
use Rattle.base.specs.Bits.{filled}
use Rattle.rom.specs.declared.RomStep.TheVariants.{Command}
use Rattle.scratchpad.specs.Registers.{registers, with_pf, pf_set}
use Rattle.scratchpad.specs.Scratchpad.{write_address}
use Rattle.scratchpad.specs.declared.Registers.{Registers}
use Rattle.scratchpad.specs.declared.MemoryPhase.TheVariants.{WriteAddress}
use Rattle.chip.specs.With.{with_kind}
use Rattle.chip.specs.Chip.{Whole, whole, memory_slot, takes_of, sends_of, level_reset, reset_chip, reset_of}
use Rattle.chip.specs.declared.Chip.{Chip}
use Rattle.chip.specs.declared.Level.TheVariants.{Rom, Memory}
use Rattle.line.specs.Events.{reset_event}
use Rattle.histories.specs.Histories.{at, run}
use Rattle.line.specs.Keeps.{level_either}
use Rattle.histories.specs.Sent.{bits_from}
use Rattle.recovery.specs.Sessions.{opening, match_session}
use Rattle.recovery.specs.Filled.{filled_by}
use Rattle.recovery.specs.Goes.{Goes, goes_from, goes_bit, goes_append, ec20, goes_opening, goes_0_f, addressed, goes_address}
use Rattle.recovery.proofs.Among.{among_at}
use Rattle.recovery.proofs.Installed.{Installed, installed_run}
use Rattle.recovery.proofs.Matched.{reset_is, session_among}
use Rattle.recovery.proofs.Recovery.{run_append}
use Rattle.commands.specs.Reset.{is_cut, awaiting, after_cut}
use Rattle.commands.proofs.Reset.{reset_exactly, short-address}
use Rattle.commands.specs.ShortAddress.{begun_write, ended_write, matched, after_address}

-- a DS28EC20 that takes the bits of an address
module _ (c : Chip) (m : List ℕ) where
  -- it sends nothing
  address_sends : (k b : ℕ) (r : Registers) (s : List ℕ) → sends_of (ec20 c m (Memory (WriteAddress k b)) true r s) ≡ true
  unfolding sends_of
  address_sends k b r s = refl

  -- one bit that is not the last
  address_bit : (v : Bool) (k b : ℕ) (r : Registers) (s : List ℕ) → k < 15
      → takes_of v (ec20 c m (Memory (WriteAddress k b)) true r s) ≡ ec20 c m (Memory (WriteAddress (k + 1) (filled 0x8000 b v))) true r s
  unfolding takes_of memory_slot write_address pick
  address_bit v k b r s h = simp (lt-ltb k 15 h)

  -- fewer than 16
  goes_fewer : (vs : List Bool) (k n b : ℕ) (r : Registers) (s : List ℕ) → k + length vs ≡ n → n < 16
      → Goes vs (ec20 c m (Memory (WriteAddress k b)) true r s) (ec20 c m (Memory (WriteAddress n (filled_by 0x8000 b vs))) true r s)
  goes_fewer [] k n b r s e h =
      let z : k ≡ n = omega arith in
      record { silent = refl; comes = ap (λ (j : ℕ). ec20 c m (Memory (WriteAddress j b)) true r s) z }
  goes_fewer (v ∷ vs) k n b r s e h =
      goes_bit v vs _ _ (address_sends k b r s)
      (goes_from vs _ _ _ (address_bit v k b r s (omega arith)) (goes_fewer vs (k + 1) n (filled 0x8000 b v) r s (omega arith) h))

  -- from the reset to there
  goes_short : (vs : List Bool) (rc : Bool) (r : Registers) (s : List ℕ) → length vs < 16
      → Goes (opening c.code ++ (bits_from 8 0 0x0F ++ vs)) (ec20 c m (Rom (Command 0 0)) rc r s) (ec20 c m (Memory (WriteAddress (length vs) (filled_by 0x8000 0 vs))) true r s)
  goes_short vs rc r s h =
      goes_append (opening c.code) (bits_from 8 0 0x0F ++ vs) _ _ _ (goes_opening c m rc r s)
      (goes_append (bits_from 8 0 0x0F) vs _ _ _ (goes_0_f c m r s) (goes_fewer vs 0 (length vs) 0 r s (omega arith) h))

  -- all 16
  goes_whole : (t : ℕ) (rc : Bool) (r : Registers) (s : List ℕ) → t < 0x10000
      → Goes (opening c.code ++ (bits_from 8 0 0x0F ++ bits_from 16 0 t)) (ec20 c m (Rom (Command 0 0)) rc r s) (addressed c m s t)
  goes_whole t rc r s h =
      goes_append (opening c.code) (bits_from 8 0 0x0F ++ bits_from 16 0 t) _ _ _ (goes_opening c m rc r s)
      (goes_append (bits_from 8 0 0x0F) (bits_from 16 0 t) _ _ _ (goes_0_f c m r s) (goes_address c m t r s h))

-- PF set twice is PF set
pf_again : (es : ℕ) → with_pf (with_pf es) ≡ with_pf es
unfolding with_pf
pf_again es = omega arith

-- so the reset that opens the session makes no difference
opened : (w : Whole) → pf_set (level_reset w.chip w.chip.level) ≡ pf_set w.chip.registers
opened w =
    level_either (λ (r : Registers). pf_set r ≡ pf_set w.chip.registers) w.chip refl
    (ap (registers w.chip.registers.t) (pf_again w.chip.registers.es)) w.chip.level

module _ (i : ℕ) (L : List Whole) (s : Installed i L) where
  -- chip i, its code, and its registers after the reset that opens the session
  abbrev own : Whole
  own = at i L

  abbrev code : ℕ
  code = own.chip.code

  abbrev first : Registers
  first = level_reset own.chip own.chip.level

  -- where bits that go so for the chip alone bring it on the line
  brings : (vs : List Bool) (u : Whole)
      → Goes (opening code ++ vs) (ec20 own.chip own.memory (Rom (Command 0 0)) own.chip.rc first own.pad) u
      → at i (run (match_session code vs) L) ≡ u
  brings vs u g = among_at (session_among i L s code refl vs u (goes_from (opening code ++ vs) _ _ _ (reset_is own s.kind) g))

  -- a chip that was matched, with its kind written out
  ec20_is : (r : Registers) → awaiting r (ec20 own.chip own.memory (Rom (Command 0 0)) true r own.pad) ≡ awaiting r (matched own)
  ec20_is r = λ j. awaiting r (matched (whole (with_kind (sym s.kind j) own.chip) own.memory own.pad))

  module _ (bits : List Bool) (h : length bits < 16) where
    -- the chip with these bits of an address in
    begun : at i (run (begun_write code bits) L) ≡ ec20 own.chip own.memory (Memory (WriteAddress (length bits) (filled_by 0x8000 0 bits))) true first own.pad
    begun = brings (bits_from 8 0 0x0F ++ bits) _ (goes_short own.chip own.memory bits own.chip.rc first own.pad h)

    -- THEOREM: a reset, a match, 0Fh and fewer than 16 bits of an address leave T and E/S as that reset left them ..
    pub short_before : (at i (run (begun_write code bits) L)).chip.registers ≡ (reset_of own).chip.registers
    unfolding reset_of reset_chip
    short_before = ap (λ (w : Whole). w.chip.registers) begun

    -- THEOREM: .. and the next reset sets PF: from any state of the line, the chip is as it was but for PF = 1, RC = 1 by the match,
    -- and its level
    pub short-write : at i (run (ended_write code bits) L) ≡ after_cut (matched own)
    unfolding after_cut
    short-write =
        let k = installed_run i (begun_write code bits) L s in
        ap (at i) (run_append (begun_write code bits) (reset_event ∷ []) L)
        ∙ short-address i (run (begun_write code bits) L) k.attached k.kind (length bits) (filled_by 0x8000 0 bits) (ap (λ (w : Whole). w.chip.level) begun)
        ∙ ap after_cut begun
        ∙ ec20_is (pf_set first)
        ∙ ap (λ (r : Registers). awaiting r (matched own)) (opened own)

  -- THEOREM: with all 16 bits in, the address is taken, and the reset is no cut
  pub whole_address : (t : ℕ) → t < 0x10000 → at i (run (ended_write code (bits_from 16 0 t)) L) ≡ after_address t (matched own)
  unfolding after_address pick
  whole_address t h =
      let bits = bits_from 16 0 t in
      let u = addressed own.chip own.memory own.pad t in
      let e : at i (run (begun_write code bits) L) ≡ u = brings (bits_from 8 0 0x0F ++ bits) u (goes_whole own.chip own.memory t own.chip.rc first own.pad h) in
      let k = installed_run i (begun_write code bits) L s in
      ap (at i) (run_append (begun_write code bits) (reset_event ∷ []) L)
      ∙ reset_exactly i (run (begun_write code bits) L) k.attached k.kind
      ∙ ap (λ (w : Whole). awaiting (pick (is_cut w.chip.level) (pf_set w.chip.registers) w.chip.registers) w) e
      ∙ ec20_is (registers t (t % 32))
