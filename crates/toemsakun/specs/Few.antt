-- Laws: a search lists at most 16 codes.
use Prim.Native.Nat.{ℕ, zero, suc, ◌+◌, ◌-◌, ◌≤◌}
use native.Mathlib.Omega.{arith}
use Rattle.std.specs.Prelude.{Bool, List, [], ◌∷◌, ◌++◌, eqb, length, Result, Ok, Err}
use Rattle.line.specs.declared.Refusal.{Refusal}
use Rattle.std.proofs.Math.Bool.{true, false}
use Rattle.std.proofs.Common.{sym, subst}
use Rattle.std.proofs.Math.ListN.{length-append}
use Rattle.base.specs.Pick.{pick}
use Rattle.line.specs.Layout.{capped}
use Rattle.line.specs.Prefix.{capped_few}
use Rattle.line.specs.Events.{reset_event}
use Rattle.search.specs.Host.{Host, done, bind, Played, Listed, listed, End, write, begun, pass, heard, play, passes, go_on, up_to}
use Rattle.search.specs.Counts.{play_bind}
use Rattle.line.specs.Attached.{Attached, says_of, leaves_of, verdict_at}
use Rattle.search.specs.Search.{wire, search_by, search_of}

-- what a host comes to after another, from what it comes to whatever the other came to
result_bind : {A B : Type 0} (P : B → Type 0) (h : Host A) (g : A → Host B) (l : Attached) → ((a : A) (k : Attached) → P (play wire (g a) k).result) → P (play wire (bind h g) l).result
result_bind {B = B} P h g l f = subst (λ (p : Played B Attached). P p.result) (sym (play_bind wire h g l)) (f _ _)

-- at most m codes are listed
abbrev Lists : ℕ → Listed → Type 0
Lists m r = length r.codes ≤ m

module _ (m : ℕ) where
  -- how the host goes on after a pass
  on_few : (n : ℕ) (out : List ℕ) (again : ℕ → List ℕ → Host Listed) → length out + suc n ≤ m → ((w : ℕ) (o : List ℕ) (k : Attached) → length o + n ≤ m → Lists m (play wire (again w o) k).result)
      → (e : End) (k : Attached) → Lists m (play wire (go_on n out again e) k).result
  unfolding play pick
  on_few n out again h f e k = go e.whole (eqb e.last 0) (eqb n 0) (f (up_to (e.last - 1) e.path) (out ++ (e.path ∷ [])) k (simp length-append (omega arith)))
    where
      go : (a b c : Bool) → Lists m (play wire (again (up_to (e.last - 1) e.path) (out ++ (e.path ∷ []))) k).result
          → Lists m (play wire (pick a (pick b (done (listed (out ++ (e.path ∷ [])) true)) (pick c (done (listed (out ++ (e.path ∷ [])) false)) (again (up_to (e.last - 1) e.path) (out ++ (e.path ∷ []))))) (done (listed out true))) k).result
      go true true c g = simp length-append (omega arith)
      go true false true g = simp length-append (omega arith)
      go true false false g = g
      go false b c g = omega arith

  presence : (b : Bool) (h h' : Host Listed) (k : Attached) → Lists m (play wire h k).result → Lists m (play wire h' k).result → Lists m (play wire (pick b h h') k).result
  unfolding pick
  presence true h h' k f g = f
  presence false h h' k f g = g

  passes_few : (n want : ℕ) (out : List ℕ) (l : Attached) → length out + n ≤ m → Lists m (play wire (passes n want out) l).result
  unfolding play passes
  passes_few zero want out l h = presence (heard (says_of reset_event l)) (done (listed out true)) (done (listed out false)) (leaves_of reset_event l) (omega arith) (omega arith)
  passes_few (suc n) want out l h =
      presence (heard (says_of reset_event l)) (done (listed out true)) _ (leaves_of reset_event l) (omega arith)
      (result_bind (Lists m) (write 8 0 0xF0) (λ u. bind (pass 64 (begun want)) (go_on n out (λ w o. passes n w o))) (leaves_of reset_event l)
      (λ a k. result_bind (Lists m) (pass 64 (begun want)) (go_on n out (λ w o. passes n w o)) k (on_few n out (λ w o. passes n w o) h (λ w o. passes_few n w o))))

-- a search lists at most 16 codes
pub search_few : (list : List ℕ) (l : Attached) → (search_of list l).number ≤ 16
unfolding search_of
search_few list l = go (verdict_at l)
  where
    go : (v : Result (Unit {0}) Refusal) → (search_by v list l).number ≤ 16
    go (Ok tt) = passes_few 16 (capped (length list)) 0 [] l (omega (arith, (capped_few (length list)).0))
    go (Err r) = omega arith
