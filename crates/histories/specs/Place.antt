-- Laws: the chip at one place of a line, where each chip does the same, and where one chip gets new outside levels.
use Rattle.std.specs.Prelude.{ℕ, zero, suc, ◌<◌, List, [], ◌∷◌, map, ◌≡◌, refl, length}
use Rattle.std.proofs.Common.{arith, not-suc-le-zero}
use Rattle.chip.specs.Chip.{Whole, outside_of}
use Rattle.line.specs.Line.{outside_at}
use Rattle.histories.specs.Histories.{at}

-- it does the same as each
pub at_map : (f : Whole → Whole) (i : ℕ) (L : List Whole) → i < length L → at i (map f L) ≡ f (at i L)
at_map f i [] h = absurd (not-suc-le-zero h)
at_map f zero (w ∷ L) h = refl
at_map f (suc i) (w ∷ L) h = at_map f i L (omega arith)

-- what it has before, and would have after, it has after, also at a place past the line
pub map-at : (P : Whole → Type 0) (f : Whole → Whole) (i : ℕ) (L : List Whole) → P (at i L) → P (f (at i L)) → P (at i (map f L))
map-at P f i [] h k = h
map-at P f zero (w ∷ L) h k = k
map-at P f (suc i) (w ∷ L) h k = map-at P f i L h k

pub outside-at : (P : Whole → Type 0) (i j l : ℕ) (L : List Whole) → P (at i L) → P (outside_of l (at i L)) → P (at i (outside_at j l L))
outside-at P i j l [] h k = h
outside-at P zero zero l (w ∷ L) h k = k
outside-at P (suc i) zero l (w ∷ L) h k = h
outside-at P zero (suc j) l (w ∷ L) h k = h
outside-at P (suc i) (suc j) l (w ∷ L) h k = outside-at P i j l L h k
