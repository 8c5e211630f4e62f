-- What a map promises of a run of bytes that one control byte guards (a block, a page), and laws: every copy keeps it.
use Rattle.std.specs.Prelude.{ℕ, zero, suc, ◌+◌, ◌<◌, true, List, [], ◌∷◌, ◌≡◌, refl, get_or, set}
use Rattle.std.proofs.Common.{◌∙◌, ap, subst}
use Rattle.std.specs.Int.Bits.{bit_and, and_self}
use Rattle.base.specs.Pick.{pick}
use Rattle.scratchpad.specs.Registers.{mark}
use Rattle.scratchpad.specs.Map.{Map}
use Rattle.memory.specs.Memory.{rule_at, copied}
use Rattle.protection.specs.And.{falls_onto, and_falls}

-- a control byte of 55h, which write-protects its bytes
abbrev pub WriteProtected : ℕ → Type 0
WriteProtected b = b ≡ 0x55

-- and one of AAh, the EPROM mode
abbrev pub InEpromMode : ℕ → Type 0
InEpromMode b = b ≡ 0xAA

-- so many bytes from an address on, whose control byte stands at c
pub record Guarded (M : Map) (c from size : ℕ) : Type 0 where
  -- the control byte stays, once it is a mark
  pub marked : (m : List ℕ) (b : ℕ) → mark (get_or m c 0) ≡ true → rule_at M m c b ≡ get_or m c 0
  -- 55h holds the bytes
  pub held : (m : List ℕ) (k b : ℕ) → k < size → WriteProtected (get_or m c 0) → rule_at M m (from + k) b ≡ get_or m (from + k) 0
  -- AAh lets them only fall
  pub falls : (m : List ℕ) (k b : ℕ) → k < size → InEpromMode (get_or m c 0) → rule_at M m (from + k) b ≡ bit_and (get_or m (from + k) 0) b

-- the bytes are write-protected in m: then they are so in r too, and none of them differs
abbrev pub Protected : ℕ → ℕ → ℕ → List ℕ → List ℕ → Type 0
Protected c from size m r = WriteProtected (get_or m c 0) → WriteProtected (get_or r c 0) × ((k : ℕ) → k < size → get_or r (from + k) 0 ≡ get_or m (from + k) 0)

-- they are in EPROM mode in m: then they are so in r too, and each byte of r AND that of m is that of r
abbrev pub OnlyFalls : ℕ → ℕ → ℕ → List ℕ → List ℕ → Type 0
OnlyFalls c from size m r =
    InEpromMode (get_or m c 0) → InEpromMode (get_or r c 0) × ((k : ℕ) → k < size → bit_and (get_or r (from + k) 0) (get_or m (from + k) 0) ≡ get_or r (from + k) 0)

-- a byte of a list in which one was set
set_at : (Q : ℕ → Type 0) (l : List ℕ) (i a v : ℕ) → Q (get_or l a 0) → (a ≡ i → Q v) → Q (get_or (set l i v) a 0)
set_at Q [] i a v q f = q
set_at Q (x ∷ l) zero zero v q f = f refl
set_at Q (x ∷ l) zero (suc a) v q f = q
set_at Q (x ∷ l) (suc i) zero v q f = q
set_at Q (x ∷ l) (suc i) (suc a) v q f = set_at Q l i a v q (λ e. f (ap suc e))

-- a byte after a copy is the byte before or what the rule of a byte gives there
copied_at : (M : Map) (Q : ℕ → Type 0) (m s : List ℕ) (p k n a : ℕ) → Q (get_or m a 0) → ((b : ℕ) → Q (rule_at M m a b)) → Q (get_or (copied M m s p k n) a 0)
unfolding copied
copied_at M Q m s p k zero a q f = q
copied_at M Q m s p k (suc n) a q f =
    set_at Q (copied M m s p k n) (p + (k + n)) a _ (copied_at M Q m s p k n a q f) (λ e. subst (λ (x : ℕ). Q (rule_at M m x (get_or s (k + n) 0))) e (f (get_or s (k + n) 0)))

-- 55h and AAh are marks
mark_55 : (x : ℕ) → WriteProtected x → mark x ≡ true
unfolding mark pick
mark_55 x e = rw e

mark_aa : (x : ℕ) → InEpromMode x → mark x ≡ true
unfolding mark pick
mark_aa x e = rw e

module _ (M : Map) (c from size : ℕ) (g : Guarded M c from size) (m s : List ℕ) (p k n : ℕ) where
  -- a copy keeps protected bytes
  pub protected_copied : Protected c from size m (copied M m s p k n)
  protected_copied e = (
    copied_at M WriteProtected m s p k n c e (λ b. g.marked m b (mark_55 (get_or m c 0) e) ∙ e),
    λ o l. copied_at M (λ (x : ℕ). x ≡ get_or m (from + o) 0) m s p k n (from + o) refl (λ b. g.held m o b l e),
  )

  -- a copy raises no bit of bytes in EPROM mode
  pub only_falls_copied : OnlyFalls c from size m (copied M m s p k n)
  only_falls_copied e = (
    copied_at M InEpromMode m s p k n c e (λ b. g.marked m b (mark_aa (get_or m c 0) e) ∙ e),
    λ o l. copied_at M (λ (x : ℕ). bit_and x (get_or m (from + o) 0) ≡ x) m s p k n (from + o) (and_self (get_or m (from + o) 0))
        (λ b. rw (g.falls m o b l e) (and_falls (get_or m (from + o) 0) b)),
  )

-- what is kept from m to r and from r to s is kept from m to s
module _ (c from size : ℕ) (m r s : List ℕ) where
  pub protected_onto : Protected c from size m r → Protected c from size r s → Protected c from size m s
  protected_onto f g e =
      let p = f e in
      let q = g p.0 in
      (q.0, λ k h. q.1 k h ∙ p.1 k h)

  pub only_falls_onto : OnlyFalls c from size m r → OnlyFalls c from size r s → OnlyFalls c from size m s
  only_falls_onto f g e =
      let p = f e in
      let q = g p.0 in
      (q.0, λ k h. falls_onto (get_or s (from + k) 0) (get_or r (from + k) 0) (get_or m (from + k) 0) (q.1 k h) (p.1 k h))
