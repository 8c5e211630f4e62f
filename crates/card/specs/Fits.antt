-- Laws: a card gives no more chips than there are places.
use Rattle.std.specs.Prelude.{ℕ, zero, suc, ◌≤◌, List, [], ◌∷◌, length, Option, Some, None, Result, Ok, Err}
use Rattle.std.proofs.Common.{arith}
use Rattle.chip.specs.declared.Chip.{Chip}
use Rattle.line.specs.Layout.{capped}
use Rattle.line.specs.Prefix.{capped_few}
use Rattle.card.specs.Card.{Read, all, none, after, onward, read_from, entry_at}
use Rattle.card.specs.declared.Fault.{Fault}
use Rattle.card.specs.declared.Entry.{Entry}

-- what was read holds at most m chips
abbrev pub AtMost : ℕ → Read → Type 0
AtMost m (all cs) = length cs ≤ m
AtMost m (none r at) = Unit {0}

one_more : (m : ℕ) (c : Chip) (r : Read) → AtMost m r → AtMost (suc m) (after (c ∷ []) r)
one_more m c (all cs) h = omega arith
one_more m c (none r at) h = tt

no_more : (at : ℕ) (e : Result (Option Entry) Fault) → AtMost 0 (onward at (λ next. none 1 at) e)
no_more at (Ok None) = omega arith
no_more at (Ok (Some e)) = tt
no_more at (Err f) = tt

read_on : (m at : ℕ) (go : ℕ → Read) (e : Result (Option Entry) Fault) → ((next : ℕ) → AtMost m (go next)) → AtMost (suc m) (onward at go e)
read_on m at go (Ok None) f = omega arith
read_on m at go (Ok (Some e)) f = one_more m _ (go e.next) (f e.next)
read_on m at go (Err r) f = tt

pub read_few : (m : ℕ) (s : List ℕ) (at : ℕ) → AtMost m (read_from m s at)
unfolding read_from
read_few zero s at = no_more at (entry_at s at zero)
read_few (suc m) s at = read_on m at (λ next. read_from m s next) (entry_at s at (suc m)) (λ next. read_few m s next)

-- with so many places, of which 16 are used
fewer : (m n : ℕ) (r : Read) → m ≤ n → AtMost m r → AtMost n r
fewer m n (all cs) l h = omega arith
fewer m n (none r at) l h = tt

pub read_fits : (places : ℕ) (s : List ℕ) (at : ℕ) → AtMost places (read_from (capped places) s at)
read_fits places s at = fewer (capped places) places (read_from (capped places) s at) (capped_few places).1 (read_few (capped places) s at)
