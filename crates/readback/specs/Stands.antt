-- Document 02, M-109: "minus one tenth is FFFFh in kind 102". What a byte and a pair of bytes stand for.
use Rattle.std.specs.Prelude.{ℕ, suc, ◌+◌, ◌-◌, ◌^◌, ◌<◌, ◌≤◌, Bool, true, false, cond, ◌≡◌, refl, ltb, ℤ, pos, negsuc}
use Rattle.std.proofs.Common.{arith, ◌∙◌, ap, sym, subst, ltb-true, ltb-false}
use contract.Lifetimes.{Lfts}
use denote.Triple.Clauses.{at_exit}
use Rattle.std.proofs.Math.IntN.{sub_ℕ}
use Rattle.base.specs.Pick.{pick, pick_if}
use Rattle.setpoints.specs.Signed.{signed, unsigned}
use Rattle.setpoints.specs.contracts as setpoints
use Rattle.setpoints.proofs as setpoints_proofs

-- n, below two halves, stands for z: z is from −half to half − 1, and is n, or n less both halves
abbrev pub Stands : ℕ → ℕ → ℤ → Type 0
Stands half n (pos m) = (m < half) × (n ≡ m)
Stands half n (negsuc m) = (m < half) × (n + suc m ≡ half + half)

-- it stands for one number
pub stands_once : (half n : ℕ) (y z : ℤ) → Stands half n y → Stands half n z → y ≡ z
stands_once half n (pos a) (pos b) s t = ap pos (sym s.1 ∙ t.1)
stands_once half n (pos a) (negsuc b) (h, e) (k, d) = absurd (omega arith)
stands_once half n (negsuc a) (pos b) (h, e) (k, d) = absurd (omega arith)
stands_once half n (negsuc a) (negsuc b) (h, e) (k, d) = let q : a ≡ b = omega arith in ap negsuc q

-- what is read by the middle stands for it
by_middle : (half n : ℕ) → n < half + half → Stands half n (pick (ltb n half) (pos n) (sub_ℕ n (half + half)))
by_middle half n h = pick_if (Stands half n) (ltb n half) _ _ (λ t. (ltb-true n half t, refl)) (λ t. less (ltb n (half + half)) refl (ltb-false n half t))
  where
    less : (t : Bool) → ltb n (half + half) ≡ t → half ≤ n → Stands half n (cond t (negsuc (half + half - suc n)) (pos (n - (half + half))))
    less true e l = (omega arith, omega arith)
    less false e l = let k = ltb-false n (half + half) e in absurd (omega arith)

-- THEOREM: what every byte and every pair stands for
pub signed_byte_is : (b : ℕ) → b < 0x100 → Stands 0x80 b (signed 1 b)
unfolding signed
signed_byte_is b h = by_middle 0x80 b h

pub signed_pair_is : (n : ℕ) → n < 0x10000 → Stands 0x8000 n (signed 2 n)
unfolding signed
signed_pair_is n h = by_middle 0x8000 n h

-- and whoever calls `setpoints::signed_byte` or `setpoints::signed_pair` is told it
pub signed_byte : (κs : Lfts 0) (b : ℕ) (r : ℤ) → b < 0x100
    → setpoints_proofs.signed_byte.Reads.Learnt κs (b, tt) r (at_exit setpoints.signed_byte.ended κs (b, tt) (tt, tt)) → Stands 0x80 b r
signed_byte κs b r h c = subst (Stands 0x80 b) (sym c) (signed_byte_is b h)

pub signed_pair : (κs : Lfts 0) (n : ℕ) (r : ℤ) → n < 0x10000
    → setpoints_proofs.signed_pair.Reads.Learnt κs (n, tt) r (at_exit setpoints.signed_pair.ended κs (n, tt) (tt, tt)) → Stands 0x8000 n r
signed_pair κs n r h c = subst (Stands 0x8000 n) (sym c) (signed_pair_is n h)

-- THEOREM: and the number that stands for it is the byte, or the pair, again
back : (bytes half n : ℕ) (z : ℤ) → 256 ^ bytes ≡ half + half → Stands half n z → unsigned bytes z ≡ n
back bytes half n (pos m) e s = sym s.1
back bytes half n (negsuc m) e (h, d) = omega arith

pub byte_back : (b : ℕ) → b < 0x100 → unsigned 1 (signed 1 b) ≡ b
byte_back b h = back 1 0x80 b (signed 1 b) refl (signed_byte_is b h)

pub pair_back : (n : ℕ) → n < 0x10000 → unsigned 2 (signed 2 n) ≡ n
pair_back n h = back 2 0x8000 n (signed 2 n) refl (signed_pair_is n h)

-- FFh and FFFFh are minus one, "not .. 65,535"
pub minus_one : (signed 1 0xFF ≡ negsuc 0) × (signed 2 0xFFFF ≡ negsuc 0)
unfolding signed pick
minus_one = (refl, refl)
