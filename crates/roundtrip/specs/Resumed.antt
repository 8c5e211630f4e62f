-- Laws: what was read of the beginning of a text stays, and reading goes on behind it.
use Prim.Native.Nat.{ℕ, zero, suc, ◌+◌, ◌<◌, ◌≤◌}
use Rattle.std.proofs.Common.{arith, zero-add, inl, inr, ◌∙◌, ap, sym, drop-drop, Result, Ok, Err}
use Rattle.std.specs.Prelude.{Bool, false, List, [], ◌∷◌, ◌++◌, ◌⊎◌, ◌≡◌, eqb, ltb, take, drop}
use Rattle.std.proofs.Math.Bool.{true}
use Rattle.std.proofs.Math.Path.{refl, subst}
use Rattle.std.proofs.Math.ListN.{length, length-drop}
use Rattle.std.proofs.lemmas.List.{drop-append-le}
use borrow.Author.Tests.{eqb-true, ltb-true}
use Rattle.base.specs.Pick.{pick_true, pick_if}
use Rattle.intelhex.specs.Faults.{line_most}
use Rattle.intelhex.specs.Bytes.{bytes_of}
use Rattle.intelhex.specs.Lines.{standing, before, form_of, judged}
use Rattle.intelhex.specs.Reading.{Given, Next, data-record, end-record, stop, next_by, next_in, next_of, next_after, next, Found, found, following, lines_of}
use Rattle.intelhex.proofs.Underway.{NextLies, next_lies, following_following}
use Rattle.intelhex.specs.declared.Ending.{Ending}
use Rattle.intelhex.specs.declared.Ending.TheVariants.{End, Part}
use Rattle.intelhex.specs.declared.lines.Standing.{Standing}
use Rattle.intelhex.specs.declared.lines.Standing.TheVariants.{Nothing, Unended, Endless, Line}
use Rattle.intelhex.specs.declared.record.Judged.{Judged}
use Rattle.intelhex.specs.declared.record.Judged.TheVariants as judged-as
use Rattle.roundtrip.specs.Steps.{lines_data, lines_end, lines_stop}
use Rattle.roundtrip.specs.Growing.{next_stays}
use Rattle.intelhex.specs.declared.Fault.{Fault}

-- ---- where more may come, reading never ends well, and awaits more only where fewer characters are left than a line can have
abbrev Awaits : List ℕ → Next → Type 0
Awaits s (data-record size g) = Unit {0}
Awaits s (end-record size) = Unit {0}
Awaits s (stop (Ok End)) = ⊥
Awaits s (stop (Ok Part)) = length s < line_most
Awaits s (stop (Err f)) = Unit {0}

module _ (s : List ℕ) where
  record_awaits : (size : ℕ) (bytes : List ℕ) (j : Result Judged Fault) → Awaits s (next_by size bytes j)
  record_awaits size bytes (Ok (judged-as.Data address count)) = tt
  record_awaits size bytes (Ok judged-as.End) = tt
  record_awaits size bytes (Err f) = tt

  form_awaits : (size : ℕ) (line : List ℕ) (x : Result ℕ Fault) → Awaits s (next_in size line x)
  form_awaits size line (Ok n) = record_awaits size (bytes_of (drop 1 line)) (judged (bytes_of (drop 1 line)))
  form_awaits size line (Err f) = tt

  abbrev Few : Standing → Type 0
  Few Nothing = length s < line_most
  Few Unended = length s < line_most
  Few Endless = Unit {0}
  Few (Line n size) = Unit {0}

  standing_few : Few (standing s)
  unfolding standing
  standing_few =
      pick_if Few (eqb (length s) 0) _ _ (λ e. let z : length s ≡ 0 = eqb-true _ _ e in omega arith)
      (λ e. pick_if Few (ltb (before (take line_most s)) (length (take line_most s))) _ _ (λ b. tt) (λ b. pick_if Few (ltb (length s) line_most) _ _ (λ l. ltb-true _ _ l) (λ l. tt)))

  standing_awaits : (x : Standing) → Few x → Awaits s (next_of true s x)
  standing_awaits Nothing h = subst (λ (e : Result Ending Fault). Awaits s (stop e)) (sym (pick_true _ _ _ refl)) h
  standing_awaits Unended h = subst (λ (e : Result Ending Fault). Awaits s (stop e)) (sym (pick_true _ _ _ refl)) h
  standing_awaits Endless h = tt
  standing_awaits (Line n size) h = form_awaits size (take n s) (form_of _)

  awaits : (over : Bool) → Awaits s (next over true s)
  unfolding next next_after
  awaits over =
      pick_if (Awaits s) over _ _
      (λ o.
      pick_if (Awaits s) (eqb (length s) 0) _ _
      (λ e. subst (λ (x : Result Ending Fault). Awaits s (stop x)) (sym (pick_true _ _ _ refl)) (let z : length s ≡ 0 = eqb-true _ _ e in omega arith))
      (λ e. tt))
      (λ o. standing_awaits (standing s) standing_few)

-- ---- what was read of a beginning stays, and reading goes on behind it

-- what the whole comes to, by how reading the beginning ended
abbrev pub Resumes : Bool → List ℕ → List ℕ → List Given → Result Ending Fault → ℕ → ℕ → Bool → Found → Type 0
Resumes more s t gs (Ok End) at lines over whole = ⊥
Resumes more s t gs (Ok Part) at lines over whole =
    (whole ≡ following gs at lines (lines_of more over (drop at s ++ t))) × ((at ≤ length s) × (length (drop at s) < line_most))
Resumes more s t gs (Err f) at lines over whole = whole ≡ found gs (Err f) at lines over

abbrev pub Resumed : Bool → List ℕ → List ℕ → Found → Found → Type 0
Resumed more s t f whole = Resumes more s t f.given f.ending f.at f.lines f.over whole

-- a line before the beginning
resume_line : (more : Bool) (s t : List ℕ) (hs : List Given) (size : ℕ) → size ≤ length s → (gs : List Given) (e : Result Ending Fault) (at lines : ℕ) (over : Bool) (whole : Found)
    → Resumes more (drop size s) t gs e at lines over whole → Resumes more s t (hs ++ gs) e (size + at) (1 + lines) over (following hs size 1 whole)
resume_line more s t hs size h gs (Ok End) at lines over whole r = absurd r
resume_line more s t hs size h gs (Ok Part) at lines over whole (e, (w, f)) =
    let d = length-drop size s in
    let q = drop-drop at size s in (
      ap (following hs size 1) e ∙ following_following hs gs size at 1 lines (lines_of more over (drop at (drop size s) ++ t))
          ∙ ap (λ (x : List ℕ). following (hs ++ gs) (size + at) (1 + lines) (lines_of more over (x ++ t))) q,
      (omega arith, subst (λ (x : List ℕ). length x < line_most) q f),
    )
resume_line more s t hs size h gs (Err f) at lines over whole e = ap (following hs size 1) e

-- a record, more awaited, and a refusal are told apart
tag : Next → ℕ
tag (data-record size g) = 0
tag (end-record size) = 0
tag (stop (Ok End)) = 0
tag (stop (Ok Part)) = 1
tag (stop (Err f)) = 2

module _ (more : Bool) (t : List ℕ) where
  pub resumed : (k : ℕ) (over : Bool) (s : List ℕ) → length s < k → Resumed more s t (lines_of true over s) (lines_of more over (s ++ t))
  unfolding tag
  resumed zero over s h = absurd (omega arith)
  resumed (suc k) over s h =
      by (next over true s) refl (next_stays more s t over) (awaits s over) (next_lies s over true)
      (λ o size a b. resumed k o (drop size s) (let d = length-drop size s in omega arith))
    where
      of : (f g : Found) → lines_of true over s ≡ f → lines_of more over (s ++ t) ≡ g → Resumed more s t f g → Resumed more s t (lines_of true over s) (lines_of more over (s ++ t))
      of f g p q r = subst (λ (x : Found). Resumed more s t x (lines_of more over (s ++ t))) (sym p) (subst (Resumed more s t f) (sym q) r)

      rest : (size : ℕ) (o : Bool) (gs : List Given) → size ≤ length s → following gs size 1 (lines_of more o (drop size (s ++ t))) ≡ following gs size 1 (lines_of more o (drop size s ++ t))
      rest size o gs b = ap (λ (x : List ℕ). following gs size 1 (lines_of more o x)) (drop-append-le size s t b)

      by : (x : Next) → next over true s ≡ x → (next over true s ≡ stop (Ok Part)) ⊎ (next over more (s ++ t) ≡ next over true s) → Awaits s (next over true s) → NextLies s (next over true s)
          → ((o : Bool) (size : ℕ) → 0 < size → size ≤ length s → Resumed more (drop size s) t (lines_of true o (drop size s)) (lines_of more o (drop size s ++ t)))
          → Resumed more s t (lines_of true over s) (lines_of more over (s ++ t))
      by (data-record size g) e (inl p) w l later = absurd (let z : 0 ≡ 1 = ap tag (sym e ∙ p) in omega arith)
      by (data-record size g) e (inr p) w l later =
          let m : NextLies s (data-record size g) = subst (NextLies s) e l in
          let F = lines_of true false (drop size s) in
          of _ _ (lines_data true over s size g e) (lines_data more over (s ++ t) size g (p ∙ e) ∙ rest size false (g ∷ []) m.1)
          (resume_line more s t (g ∷ []) size m.1 F.given F.ending F.at F.lines F.over _ (later false size m.0 m.1))
      by (end-record size) e (inl p) w l later = absurd (let z : 0 ≡ 1 = ap tag (sym e ∙ p) in omega arith)
      by (end-record size) e (inr p) w l later =
          let m : NextLies s (end-record size) = subst (NextLies s) e l in
          let F = lines_of true true (drop size s) in
          of _ _ (lines_end true over s size e) (lines_end more over (s ++ t) size (p ∙ e) ∙ rest size true [] m.1)
          (resume_line more s t [] size m.1 F.given F.ending F.at F.lines F.over _ (later true size m.0 m.1))
      by (stop (Ok End)) e p w l later = absurd (subst (Awaits s) e w)
      by (stop (Ok Part)) e p w l later =
          let few : length s < line_most = subst (Awaits s) e w in
          let G = lines_of more over (s ++ t) in
          subst (λ (x : Found). Resumed more s t x G) (sym (lines_stop true over s (Ok Part) e))
          ((λ j. found G.given G.ending (sym (zero-add G.at) j) (sym (zero-add G.lines) j) G.over), (omega arith, few))
      by (stop (Err f)) e (inl p) w l later = absurd (let z : 2 ≡ 1 = ap tag (sym e ∙ p) in omega arith)
      by (stop (Err f)) e (inr p) w l later = of _ _ (lines_stop true over s (Err f) e) (lines_stop more over (s ++ t) (Err f) (p ∙ e)) refl
