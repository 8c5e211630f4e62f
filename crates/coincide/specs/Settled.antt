-- "Show that any two outcomes it permits coincide": the statement, of a function's own contract as the checker read it from the source. An outcome
-- is the result and the last value of whatever was lent to be changed.
use Rattle.std.specs.Prelude.{◌≡◌}
use seplogic.Ra.Ura.{Ura}
use base.Logic.{SProp, ent, sep, fst∗, snd∗}
use contract.Lifetimes.{Lfts}
use contract.Monad.{Fun, fact, fact_i, fact_use}
use denote.Triple.Clauses.{Ended, Lasts, AtExit, at_exit, Clauses}
use denote.Triple.Entry.{Args, Res}
use types.Logic.{Logic}
use prog.Memory.{Memory}
use prog.Routine.{Routine}

-- what a contract claims of arguments, a result and what was lent as it is at the end
abbrev pub Claim : Ended → Type 1
Claim T = (κs : Lfts T.signature.lifetimes) → Args T.signature κs → Res T.signature κs → AtExit T κs → Type 0

-- for all arguments: two results x and y, with the last values v and w of what was lent, that the contract permits, are the same
abbrev pub Settled : (T : Ended) → Claim T → Type 0
Settled T L =
    (κs : Lfts T.signature.lifetimes) (a : Args T.signature κs) (x y : Res T.signature κs) (v w : Lasts T κs a)
    → L κs a x (at_exit T κs a v) → L κs a y (at_exit T κs a w) → (x ≡ y) × (v ≡ w)

-- a contract as it is written, in the program logic: it is taken of a function to which a struct is lent
abbrev pub Written : Ended → Type 2
Written T = (M : Type 1) (𝓤 : Ura M) (𝓛 : Logic 𝓤) → (Memory → SProp 𝓤) → (Routine → Fun 𝓤) → Clauses 𝓤 T

-- the same statement of such a contract, in every model of the logic
abbrev pub Fixed : (T : Ended) → Written T → Type 2
Fixed T c =
    (M : Type 1) (𝓤 : Ura M) (𝓛 : Logic 𝓤) (mem : Memory → SProp 𝓤) (run : Routine → Fun 𝓤)
    (κs : Lfts T.signature.lifetimes) (a : Args T.signature κs) (g : (c M 𝓤 𝓛 mem run κs a).ghost) (x y : Res T.signature κs) (v w : Lasts T κs a)
    → ent 𝓤 (sep 𝓤 ((c M 𝓤 𝓛 mem run κs a).ensures g x (at_exit T κs a v)) ((c M 𝓤 𝓛 mem run κs a).ensures g y (at_exit T κs a w))) (fact 𝓤 ((x ≡ y) × (v ≡ w)))

-- what follows from two facts, of two facts of the logic
pub two_facts : {M : Type 1} (𝓤 : Ura M) (φ ψ χ : Type 0) → (φ → ψ → χ) → ent 𝓤 (sep 𝓤 (fact 𝓤 φ) (fact 𝓤 ψ)) (fact 𝓤 χ)
two_facts 𝓤 φ ψ χ f =
    fact_use 𝓤 φ (fst∗ 𝓤 (fact 𝓤 φ) (fact 𝓤 ψ)) (λ p.
    fact_use 𝓤 ψ (snd∗ 𝓤 (fact 𝓤 φ) (fact 𝓤 ψ)) (λ q. fact_i 𝓤 χ (sep 𝓤 (fact 𝓤 φ) (fact 𝓤 ψ)) (f p q)))
