-- Laws: a dispatch over the levels, taken at the level that a match found.
use Rattle.std.specs.Prelude.{ℕ, Bool, ◌≡◌, List}
use Rattle.std.proofs.Common.{◌∙◌, ap}
use Rattle.base.specs.Along.{along}
use Rattle.rom.specs.declared.RomNext.{RomNext}
use Rattle.scratchpad.specs.declared.Registers.{Registers}
use Rattle.memory.specs.declared.Part.{Part}
use Rattle.memory.specs.declared.Look.{Look}
use Rattle.memory.specs.declared.Seen.{Seen}
use Rattle.memory.specs.Part.{map_of}
use Rattle.memory.specs.Memory.{Bytes, bytes, seen_in, done}
use Rattle.chip.specs.Kinds.{part_of}
use Rattle.chip.specs.Chip.{Whole, whole, level_of, level_looks, level_takes_by, level_sends_by, level_reset, level_takes, level_sends, looks_of, takes_by, sends_by, takes_of, sends_of}
use Rattle.chip.specs.declared.Chip.{Chip}
use Rattle.chip.specs.declared.ChipAfter.{ChipAfter}
use Rattle.chip.specs.Range.{level_in_range}
use Rattle.chip.specs.declared.Level.{Level}

pub level-at : (q p : RomNext) (r : Level) → q ≡ p → r ≡ level_of p → r ≡ level_of q
level-at q p r = along (λ (k : RomNext). level_of k) q p r

pub looks_at : (c : Chip) (q p : Level) (r : Look) → q ≡ p → r ≡ level_looks c p → r ≡ level_looks c q
looks_at c q p r = along (λ (k : Level). level_looks c k) q p r

pub takes_at : (c : Chip) (v : Bool) (x : Seen) (q p : Level) (r : ChipAfter) → q ≡ p → r ≡ level_takes_by c v x p → r ≡ level_takes_by c v x q
takes_at c v x q p r = along (λ (k : Level). level_takes_by c v x k) q p r

pub sends-at : (c : Chip) (x : Seen) (q p : Level) (r : Bool) → q ≡ p → r ≡ level_sends_by c x p → r ≡ level_sends_by c x q
sends-at c x q p r = along (λ (k : Level). level_sends_by c x k) q p r

pub reset_at : (c : Chip) (q p : Level) (r : Registers) → q ≡ p → r ≡ level_reset c p → r ≡ level_reset c q
reset_at c q p r = along (λ (k : Level). level_reset c k) q p r

pub in_range_at : (kind : ℕ) (q p : Level) (r : Bool) → q ≡ p → r ≡ level_in_range kind p → r ≡ level_in_range kind q
in_range_at kind q p r = along (λ (k : Level). level_in_range kind k) q p r

-- what a slot does to a chip at a known level
pub takes-in : (w : Whole) (v : Bool) (l : Level) → w.chip.level ≡ l → takes_of v w ≡ level_takes w v l
unfolding takes_of
takes-in w v l e = ap (level_takes w v) e

-- what a chip at a known level sends
pub sends-in : (w : Whole) (l : Level) → w.chip.level ≡ l → sends_of w ≡ level_sends w l
unfolding sends_of
sends-in w l e = ap (level_sends w) e

-- a slot in a row: look, fetch, take, and the deed done
pub takes_is : (c : Chip) (v : Bool) (m s m' s' : List ℕ) (k : Look) (x : Seen) (t : ChipAfter) (p : Part)
    → k ≡ looks_of c → x ≡ seen_in m s k → t ≡ takes_by c v x → p ≡ part_of c.kind → bytes m' s' ≡ done (map_of p) m s t.deed
    → whole t.chip m' s' ≡ takes_of v (whole c m s)
unfolding takes_of takes_by looks_of
takes_is c v m s m' s' k x t p e f g h d =
    let y : x ≡ seen_in m s (level_looks c c.level) = f ∙ ap (λ (l : Look). seen_in m s l) e in
    ap (λ (b : Bytes). whole t.chip b.memory b.pad) d
    ∙ ap (λ (q : Part). let b = done (map_of q) m s t.deed in whole t.chip b.memory b.pad) h
    ∙ ap (λ (u : ChipAfter). let b = done (map_of (part_of c.kind)) m s u.deed in whole u.chip b.memory b.pad) (g ∙ ap (λ (z : Seen). level_takes_by c v z c.level) y)

-- what a chip sends in a row: look, fetch, say
pub sends_is : (c : Chip) (m s : List ℕ) (k : Look) (x : Seen) (r : Bool) → k ≡ looks_of c → x ≡ seen_in m s k → r ≡ sends_by c x → r ≡ sends_of (whole c m s)
unfolding sends_of sends_by looks_of
sends_is c m s k x r e f g = g ∙ ap (λ (z : Seen). level_sends_by c z c.level) (f ∙ ap (λ (l : Look). seen_in m s l) e)
