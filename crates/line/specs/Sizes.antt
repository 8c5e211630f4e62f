-- Laws: every act keeps the sizes of a chip's memory and scratchpad.
use Rattle.std.specs.Prelude.{ℕ, zero, suc, Bool, true, false, List, ◌≡◌, refl, length, replicate}
use Rattle.std.proofs.Common.{length-set}
use Rattle.std.proofs.lemmas.List.{length-replicate}
use Rattle.base.specs.Pick.{pick}
use Rattle.scratchpad.specs.declared.Deed.{Deed}
use Rattle.scratchpad.specs.declared.Deed.TheVariants.{Nothing, Put, Copy}
use Rattle.scratchpad.specs.Map.{Map}
use Rattle.memory.specs.Memory.{copied, done}
use Rattle.chip.specs.Kinds.{has_scratchpad}
use Rattle.chip.specs.Chip.{Whole, chip_map, level_seen, level_takes_by, takes_of, reset_of, power_on_of, power_on_pad}
use Rattle.line.specs.Line.{act_of}
use Rattle.line.specs.declared.Act.{Act}
use Rattle.line.specs.declared.Act.TheVariants.{Take, Reset, PowerOn}

-- a function on a chip keeps the sizes of its memory and scratchpad
abbrev pub Sized : (Whole → Whole) → Type 0
Sized f = (w : Whole) → (length (f w).memory ≡ length w.memory) × (length (f w).pad ≡ length w.pad)

-- a copy keeps the size of the memory
pub copied_length : (M : Map) (m s : List ℕ) (p k n : ℕ) → length (copied M m s p k n) ≡ length m
unfolding copied
copied_length M m s p k zero = refl
copied_length M m s p k (suc n) = simp length-set (copied_length M m s p k n)

done_lengths : (M : Map) (m s : List ℕ) (d : Deed) → (length (done M m s d).memory ≡ length m) × (length (done M m s d).pad ≡ length s)
done_lengths M m s Nothing = (refl, refl)
done_lengths M m s (Put offset b) = (refl, simp length-set)
done_lengths M m s (Copy t e) = (copied_length _ _ _ _ _ _, refl)

pad_length : (t : Bool) (s : List ℕ) → length (pick t (replicate (length s) 0xFF) s) ≡ length s
unfolding pick
pad_length true s = length-replicate (length s) 0xFF
pad_length false s = refl

pub act_sized : (a : Act) → Sized (act_of a)
unfolding takes_of reset_of power_on_of power_on_pad
act_sized (Take v) w =
    let l = w.chip.level in
    done_lengths (chip_map w.chip) w.memory w.pad (level_takes_by w.chip v (level_seen w l) l).deed
act_sized Reset w = (refl, refl)
act_sized PowerOn w = (refl, pad_length (has_scratchpad w.chip.kind) w.pad)
