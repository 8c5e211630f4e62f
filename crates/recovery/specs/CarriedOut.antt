-- Which slots carry out a copy; and a chip that carries out none keeps its memory.
use Rattle.std.specs.Prelude.{ℕ, Bool, true, false, not, List, ◌≡◌, ltb}
use Rattle.std.proofs.Common.{◌∙◌, ap}
use Rattle.std.proofs.Math.Path.{refl}
use Rattle.std.proofs.lemmas.Bool.{not-true}
use Rattle.base.specs.Pick.{pick}
use Rattle.base.specs.Bits.{filled}
use Rattle.scratchpad.specs.Scratchpad.{carried_out, three_bytes_in, copy_end}
use Rattle.scratchpad.specs.declared.MemoryAfter.{MemoryAfter}
use Rattle.scratchpad.specs.declared.MemoryPhase.TheVariants.{CopyEnd}
use Rattle.scratchpad.specs.declared.Deed.{Deed}
use Rattle.scratchpad.specs.declared.Deed.TheVariants.{Nothing, Put, Copy}
use Rattle.chip.specs.Chip.{Whole, level_seen, level_takes_by, memory_sight, memory_slot}
use Rattle.chip.specs.declared.Level.{Level}
use Rattle.chip.specs.declared.Level.TheVariants.{Memory}
use Rattle.line.specs.Line.{value_of}
use Rattle.line.specs.declared.Event.{Event}
use Rattle.histories.specs.Histories.{at}
use Rattle.histories.specs.AtSlots.{AtSlots, at_slots, at-slots}

-- the deed is a copy
abbrev pub is_copy : Deed → Bool
is_copy Nothing = false
is_copy (Put offset b) = false
is_copy (Copy t e) = true

-- at each level, what a slot of the value v leaves has a copy for its deed
abbrev pub level_carries_out : Whole → Bool → Level → Bool
level_carries_out w v l = is_copy (level_takes_by w.chip v (level_seen w l) l).deed

-- a slot of the value v carries out a copy in the chip w
unfoldable pub carries_out : Bool → Whole → Bool
carries_out v w = level_carries_out w v w.chip.level

-- THEOREM: at the third byte of 55h it is the test by which Copy itself decides, once the last bit is in
pub carries-out : (w : Whole) (v : Bool) (address count bits : ℕ) → w.chip.level ≡ Memory (CopyEnd address count bits)
    → carries_out v w ≡ pick (ltb count 7) false (carried_out w.chip.registers address (filled 0x80 bits v) (memory_sight w.chip (CopyEnd address count bits) (level_seen w (Memory (CopyEnd address count bits)))))
unfolding carries_out memory_slot copy_end three_bytes_in pick
carries-out w v address count bits e = ap (level_carries_out w v) e ∙ go (ltb count 7) _ _ _ _ refl refl refl
  where
    go : (s t : Bool) (a b c : MemoryAfter) → is_copy a.deed ≡ false → is_copy b.deed ≡ true → is_copy c.deed ≡ false → is_copy (pick s a (pick t b c)).deed ≡ pick s false t
    go true t a b c p q r = p
    go false true a b c p q r = q
    go false false a b c p q r = r

-- no slot of a history carries out a copy in chip i
abbrev pub NoCopy : ℕ → List Event → List Whole → Type 0
NoCopy i es L = AtSlots (λ (b : Bool) (K : List Whole). carries_out (value_of b K) (at i K) ≡ false) es L

-- whether that is so, computed
abbrev pub copies_none : ℕ → List Event → List Whole → Bool
copies_none i es L = at_slots (λ (b : Bool) (K : List Whole). not (carries_out (value_of b K) (at i K))) es L

-- where it computes to true, it is so
pub copies-none : (i : ℕ) (es : List Event) (L : List Whole) → copies_none i es L ≡ true → NoCopy i es L
copies-none i es L e = at-slots _ _ (λ b K h. not-true (carries_out (value_of b K) (at i K)) h) es L e
