-- What a reset, a power on and a copy do, and "A short address also sets PF.": of the public event, over a table and its buffers.
use Rattle.std.specs.Prelude.{ℕ, ◌<◌, Bool, true, List, [], ◌∷◌, ◌≡◌, length}
use Rattle.std.proofs.Common.{◌∙◌, ap, sym, subst}
use Rattle.base.specs.Pick.{pick}
use Rattle.scratchpad.specs.Registers.{pf_set}
use Rattle.scratchpad.specs.declared.MemoryPhase.TheVariants.{WriteAddress}
use Rattle.chip.specs.Chip.{Whole, reset_of}
use Rattle.chip.specs.declared.Level.TheVariants.{Memory}
use Rattle.line.specs.Event.{plan_on}
use Rattle.line.specs.Events.{reset_event, power_on_event}
use Rattle.line.specs.declared.Event.{Event}
use Rattle.line.specs.Attached.{Attached, Stands, line_from}
use Rattle.histories.specs.Histories.{at, run}
use Rattle.line.proofs.Standing.{line_good, line_length}
use Rattle.histories.specs.Joined.{run_on, run_joined, stands_on}
use Rattle.histories.specs.Sent.{bits_from}
use Rattle.recovery.specs.CarriedOut.{NoCopy}
use Rattle.recovery.proofs.CarriedOut.{no_copy}
use Rattle.recovery.proofs.Public.{chip_of, TableInstalled, good_at, line_installed}
use Rattle.commands.specs.Reset.{is_cut, awaiting, after_cut, after_power_on, power_on_exactly}
use Rattle.commands.proofs.Reset.{reset_exactly, short-address}
use Rattle.commands.specs.ShortAddress.{begun_write, ended_write, matched, after_address}
use Rattle.commands.proofs.ShortAddress.{short_before, short-write, whole_address}
use Rattle.commands.proofs.NotCopied.{NoAddress, cut_not_copied}
use Rattle.commands.specs.Copy.{Copies, CopiedInFull, copy_in_full}

-- THEOREM: a reset on any table that neither 8 nor 5 refuses, at any level of a DS28EC20
pub reset_exactly_on : (i : ℕ) (l : Attached) → Stands l → i < l.count → (chip_of i l).chip.kind ≡ 1
    → chip_of i (run_on (reset_event ∷ []) l)
    ≡ awaiting (pick (is_cut (chip_of i l).chip.level) (pf_set (chip_of i l).chip.registers) (chip_of i l).chip.registers) (chip_of i l)
reset_exactly_on i l s h k =
    ap (at i) (run_joined (reset_event ∷ []) l s) ∙ reset_exactly i (line_from l) (rw (line_length l s) h) k

-- THEOREM: at whatever count of address bits
pub short_address_on : (i : ℕ) (l : Attached) → Stands l → i < l.count → (chip_of i l).chip.kind ≡ 1
    → (count bits : ℕ) → (chip_of i l).chip.level ≡ Memory (WriteAddress count bits)
    → chip_of i (run_on (reset_event ∷ []) l) ≡ after_cut (chip_of i l)
short_address_on i l s h k count bits e =
    ap (at i) (run_joined (reset_event ∷ []) l s) ∙ short-address i (line_from l) (rw (line_length l s) h) k count bits e

-- THEOREM: a power on, at any level of it
pub power_on_exactly_on : (i : ℕ) (l : Attached) → Stands l → i < l.count → (chip_of i l).chip.kind ≡ 1
    → chip_of i (run_on (power_on_event ∷ []) l) ≡ after_power_on (chip_of i l)
power_on_exactly_on i l s h k = ap (at i) (run_joined (power_on_event ∷ []) l s) ∙ power_on_exactly i (line_from l) (rw (line_length l s) h) k

-- THEOREM: a reset, a match, 0Fh and fewer than 16 bits of an address
pub short_before_on : (i : ℕ) (l : Attached) → TableInstalled i l → (bits : List Bool) → length bits < 16
    → (chip_of i (run_on (begun_write (chip_of i l).chip.code bits) l)).chip.registers ≡ (reset_of (chip_of i l)).chip.registers
short_before_on i l s bits h =
    ap (λ (L : List Whole). (at i L).chip.registers) (run_joined (begun_write (chip_of i l).chip.code bits) l s.stands)
    ∙ short_before i (line_from l) (line_installed i l s) bits h

-- THEOREM: and a reset
pub short_write_on : (i : ℕ) (l : Attached) → TableInstalled i l → (bits : List Bool) → length bits < 16
    → chip_of i (run_on (ended_write (chip_of i l).chip.code bits) l) ≡ after_cut (matched (chip_of i l))
short_write_on i l s bits h =
    ap (at i) (run_joined (ended_write (chip_of i l).chip.code bits) l s.stands) ∙ short-write i (line_from l) (line_installed i l s) bits h

-- THEOREM: the same with all 16 bits
pub whole_address_on : (i : ℕ) (l : Attached) → TableInstalled i l → (t : ℕ) → t < 0x10000
    → chip_of i (run_on (ended_write (chip_of i l).chip.code (bits_from 16 0 t)) l) ≡ after_address t (matched (chip_of i l))
whole_address_on i l s t h =
    ap (at i) (run_joined (ended_write (chip_of i l).chip.code (bits_from 16 0 t)) l s.stands) ∙ whole_address i (line_from l) (line_installed i l s) t h

-- THEOREM: after a reset that cuts a Write Scratchpad no copy is carried out until an address is whole, and the memory is as it was
pub cut_not_copied_on : (i : ℕ) (l : Attached) → Stands l → i < l.count → (chip_of i l).chip.kind ≡ 1 → is_cut (chip_of i l).chip.level ≡ true
    → (rest : List Event) → NoAddress i rest (line_from (run_on (reset_event ∷ []) l))
    → record {
      copies-none : NoCopy i rest (line_from (run_on (reset_event ∷ []) l));
      memory_stays : (chip_of i (run_on rest (run_on (reset_event ∷ []) l))).memory ≡ (chip_of i l).memory;
    }
cut_not_copied_on i l s h k c rest n =
    let cut = reset_event ∷ [] in
    let j = run_joined cut l s in
    let r = cut_not_copied i (line_from l) (rw (line_length l s) h) k c rest (rw j at n) in
    record {
      copies-none = rw j r.copies-none;
      memory_stays = ap (λ (L : List Whole). (at i L).memory) (run_joined rest (run_on cut l) (stands_on cut l s))
          ∙ ap (λ (L : List Whole). (at i (run rest L)).memory) j
          ∙ r.memory_stays;
    }

-- THEOREM: a copy in full: every event on such a table that carries out a copy in the DS28EC20 at place i
pub copy_in_full_on : (i : ℕ) (e : Event) (l : Attached) → Stands l → i < l.count → (chip_of i l).chip.kind ≡ 1
    → Copies (plan_on e (line_from l)) i (line_from l) → CopiedInFull (chip_of i l) (chip_of i (run_on (e ∷ []) l))
copy_in_full_on i e l s h k c =
    let L = line_from l in
    let n : i < length L = rw (line_length l s) h in
    subst (λ (M : List Whole). CopiedInFull (at i L) (at i M)) (sym (run_joined (e ∷ []) l s)) (copy_in_full i e L n (good_at i L n (line_good l s)) k c)

-- THEOREM: a history in which the chip carries out no copy leaves its memory
pub no_copy_on : (i : ℕ) (es : List Event) (l : Attached) → Stands l → NoCopy i es (line_from l) → (chip_of i (run_on es l)).memory ≡ (chip_of i l).memory
no_copy_on i es l s n = ap (λ (L : List Whole). (at i L).memory) (run_joined es l s) ∙ no_copy i es (line_from l) n
