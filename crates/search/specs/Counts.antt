-- Laws: hosts one after the other, and what they count.
use Rattle.std.specs.Prelude.{ℕ, ◌+◌, Bool, true, false, ◌≡◌, refl}
use Rattle.std.proofs.Common.{add_assoc, zero-add, sym, ◌∙◌, ap}
use Rattle.base.specs.Pick.{pick}
use Rattle.line.specs.Events.{slot_event}
use Rattle.search.specs.Host.{Host, done, ask, bind, Wire, Played, played, more, resets_of, slots_of, play}

pub more_more : {A L : Type 0} (r s r' s' : ℕ) (p : Played A L) → more r s (more r' s' p) ≡ more (r + r') (s + s') p
more_more r s r' s' p = λ i. played p.result p.line (sym (add_assoc r r' p.resets) i) (sym (add_assoc s s' p.slots) i)

pub more_none : {A L : Type 0} (p : Played A L) → p ≡ more 0 0 p
more_none p = λ i. played p.result p.line (sym (zero-add p.resets) i) (sym (zero-add p.slots) i)

-- a slot counts as one slot, whatever its bit
pub one_slot : {A L : Type 0} (b : Bool) (p : Played A L) → more (resets_of (slot_event b)) (slots_of (slot_event b)) p ≡ more 0 1 p
unfolding pick
one_slot true p = refl
one_slot false p = refl

-- what one came to, and then the other
abbrev pub and_then : (W : Wire) {A B : Type 0} → Played A W.L → (A → Host B) → Played B W.L
and_then W p g = more p.resets p.slots (play W (g p.result) p.line)

pub play_bind : (W : Wire) {A B : Type 0} (h : Host A) (g : A → Host B) (l : W.L) → play W (bind h g) l ≡ and_then W (play W h l) g
unfolding play bind
play_bind W (done a) g l = more_none (play W (g a) l)
play_bind W (ask e f) g l =
    ap (more (resets_of e) (slots_of e)) (play_bind W (f (W.says e l)) g (W.does e l)) ∙ more_more (resets_of e) (slots_of e) _ _ _
