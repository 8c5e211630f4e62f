use native.Mathlib.Omega.{arith}
use mathlib.Core.Path.{◌∙◌, ap}
use Prim.Native.Nat.{ℕ}
use mathlib.Core.List.{List}
use Rattle.packed.specs.Judged.{bytes_stand}
use Rattle.packed.specs.JudgedLaw.{bytes_judged, never_stands}
use Rattle.packed.proofs.judged.stands.Goals as goal

pub returns-in-Some : goal.returns-in-Some
returns-in-Some c =
    let e = c.in-Some.ensures.cases in
    c.bytes_stand.ensures ∙ ap (λ (l : List ℕ). bytes_stand l) e.same ∙ bytes_judged c.args.r.now (λ i. omega (arith, c.type_inv.r i)) e.long

pub returns-in-None : goal.returns-in-None
returns-in-None c = never_stands _ c.in-None.ensures.cases
