-- Laws: a dispatch taken at the case that a match found, and a copy byte by byte.
use Rattle.std.specs.Prelude.{ℕ, zero, suc, ◌+◌, ◌-◌, ◌<◌, ◌≤◌, List, ◌≡◌, refl, get_or, set}
use Rattle.std.proofs.Common.{not-suc-le-zero, arith, ◌∙◌, ap, sym}
use Rattle.base.specs.Along.{along}
use Rattle.scratchpad.specs.Map.{Map}
use Rattle.scratchpad.specs.declared.Deed.{Deed}
use Rattle.scratchpad.specs.declared.Hand.{Hand}
use Rattle.scratchpad.specs.declared.Sight.{Sight}
use Rattle.ds28ec20.specs.Map.{ds28ec20}
use Rattle.memory.specs.declared.Part.{Part}
use Rattle.memory.specs.declared.Part.TheVariants.{Ds28ec20}
use Rattle.memory.specs.declared.Look.{Look}
use Rattle.memory.specs.declared.Seen.{Seen}
use Rattle.memory.specs.Part.{map_of}
use Rattle.memory.specs.Memory.{Bytes, look_of, seen_in, sight_by, rule_at, copied, done}

-- the map of a part: there is one part, and a match on it shows nothing
pub map_ds28ec20 : (q : Part) → map_of q ≡ ds28ec20
unfolding map_of
map_ds28ec20 Ds28ec20 = refl

pub look_at : (M : Map) (q p : Hand) (r : Look) → q ≡ p → r ≡ look_of M p → r ≡ look_of M q
look_at M q p r = along (λ (k : Hand). look_of M k) q p r

pub sight_at : (M : Map) (es : ℕ) (x : Seen) (q p : Hand) (r : Sight) → q ≡ p → r ≡ sight_by M es x p → r ≡ sight_by M es x q
sight_at M es x q p r = along (λ (k : Hand). sight_by M es x k) q p r

pub seen_at : (m s : List ℕ) (q p : Look) (r : Seen) → q ≡ p → r ≡ seen_in m s p → r ≡ seen_in m s q
seen_at m s q p r = along (λ (k : Look). seen_in m s k) q p r

pub copied_none : (M : Map) (m s : List ℕ) (p k n : ℕ) → n ≤ 0 → m ≡ copied M m s p k n
unfolding copied
copied_none M m s p k zero h = refl
copied_none M m s p k (suc n) h = absurd (not-suc-le-zero h)

pub copied_more : (M : Map) (m s : List ℕ) (p k n o : ℕ) → 0 < n → o ≡ k + n - 1 → copied M m s p k n ≡ set (copied M m s p k (n - 1)) (p + o) (rule_at M m (p + o) (get_or s o 0))
unfolding copied
copied_more M m s p k zero o h e = absurd (not-suc-le-zero h)
copied_more M m s p k (suc n) o h e =
    let a : suc n - 1 ≡ n = omega arith in
    let b : o ≡ k + n = omega arith in
    rw (a, b)

pub done_at : (M : Map) (m s : List ℕ) (q d : Deed) (r : Bytes) → q ≡ d → r ≡ done M m s d → r ≡ done M m s q
done_at M m s q d r e h = h ∙ ap (λ (k : Deed). done M m s k) (sym e)
