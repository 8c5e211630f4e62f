-- Laws: what holds where a match found a value, taken to the value that was matched.
use Rattle.std.specs.Prelude.{◌≡◌}
use Rattle.std.proofs.Common.{◌∙◌, ap, sym}

-- what a dispatch comes to at p, it comes to at each q that is p
pub along {ℓ ℓ'} : {B : Type ℓ} {A : Type ℓ'} (f : B → A) (q p : B) (r : A) → q ≡ p → r ≡ f p → r ≡ f q
along f q p r e h = h ∙ ap f (sym e)
