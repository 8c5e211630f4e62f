-- Laws: what every kind keeps to.
use Rattle.std.specs.Prelude.{ℕ, ◌<◌, ◌≤◌, Bool, true, false, ◌≡◌, refl, eqb}
use Rattle.std.proofs.Common.{arith, true≢false, sym, eqb-true}
use Rattle.base.specs.Pick.{pick}
use Rattle.chip.specs.Kinds.{known_kind, image_most, pad_most, image_size, pad_size}

-- no kind asks more than the most
size_small : (t : Bool) (n : ℕ) → pick t n 0 ≤ n
unfolding pick
size_small true n = omega arith
size_small false n = omega arith

pub image_small : (kind : ℕ) → image_size kind ≤ image_most
unfolding image_size
image_small kind = size_small (eqb kind 1) 2624

pub pad_small : (kind : ℕ) → pad_size kind ≤ pad_most
unfolding pad_size
pad_small kind = size_small (eqb kind 1) 32

-- a kind that is known is a byte
pub known_small : (kind : ℕ) → known_kind kind ≡ true → kind < 256
unfolding known_kind pick
known_small kind = go (eqb kind 1) (eqb kind 2) (eqb-true kind 1) (eqb-true kind 2)
  where
    go : (a b : Bool) → (a ≡ true → kind ≡ 1) → (b ≡ true → kind ≡ 2) → pick a true b ≡ true → kind < 256
    go true b f g h = let k = f refl in omega arith
    go false true f g h = let k = g refl in omega arith
    go false false f g h = absurd (true≢false (sym h))

pub known_past : (kind : ℕ) → 256 ≤ kind → false ≡ known_kind kind
known_past kind h = go (known_kind kind) (known_small kind)
  where
    go : (t : Bool) → (t ≡ true → kind < 256) → false ≡ t
    go true f = let k = f refl in absurd (omega arith)
    go false f = refl
