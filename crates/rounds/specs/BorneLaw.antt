-- Laws: how a code is looked up among the DS28EC20s of a table, and how the codes are counted which they bear.
use Rattle.std.specs.Prelude.{ℕ, ◌+◌, ◌-◌, ◌*◌, ◌<◌, ◌≤◌, Bool, false, not, ◌||◌, ◌≡◌, refl, eqb, leb, length, take, drop, get_or}
use Rattle.std.specs.List.{list_any}
use native.Mathlib.Omega.{arith}
use Rattle.std.proofs.Common.{add-one, ◌∙◌, drop_of_length-le, drop-cons, le-leb}
use Rattle.std.proofs.lemmas.Bool.{lt-leb}
use Rattle.std.proofs.lemmas.List.{take_rest}
use Rattle.std.proofs.Math.Bool.{true}
use mathlib.Core.List.{List, [], ◌∷◌}
use Rattle.std.proofs.Math.Path.{ap, sym}
use Rattle.base.specs.Pick.{pick, pick_true, pick_false}
use Rattle.base.specs.Bits.{both}
use Rattle.base.specs.Once.{is_in, once_each, distinct_in}
use Rattle.chip.specs.Kinds.{is_ds28ec20}
use Rattle.chip.specs.With.{no_chip}
use Rattle.chip.specs.declared.Chip.{Chip}
use Rattle.rounds.specs.Borne.{bears_code, borne_in, page_size, pages_asked}

-- a chip is the last DS28EC20 of a table that bears its code, with those after it
abbrev pub last_bearer : Chip → List Chip → Bool
last_bearer c cs = both (is_ds28ec20 c.kind) (not (is_in c.code (borne_in cs)))

-- a code among those that chips bear, by the first of them
borne_first : (code : ℕ) (c : Chip) (cs : List Chip) → is_in code (borne_in (c ∷ cs)) ≡ pick (bears_code code c.kind c.code) true (is_in code (borne_in cs))
unfolding borne_in both pick
borne_first code c cs = go (is_ds28ec20 c.kind)
  where
    go : (t : Bool) → is_in code (pick t (c.code ∷ borne_in cs) (borne_in cs)) ≡ pick (both t (eqb code c.code)) true (is_in code (borne_in cs))
    go true = refl
    go false = refl

-- how many codes chips bear, by the first of them
count_first : (c : Chip) (cs : List Chip) → distinct_in (borne_in (c ∷ cs)) ≡ pick (last_bearer c cs) 1 0 + distinct_in (borne_in cs)
unfolding borne_in once_each both pick
count_first c cs = go (is_ds28ec20 c.kind) (is_in c.code (borne_in cs)) refl
  where
    go : (t u : Bool) → is_in c.code (borne_in cs) ≡ u → length (once_each (pick t (c.code ∷ borne_in cs) (borne_in cs))) ≡ pick (both t (not u)) 1 0 + length (once_each (borne_in cs))
    go true true e = rw e (omega arith)
    go true false e = rw e (omega arith)
    go false u e = omega arith

-- a code that chips bear, as a search through them finds it
pub borne_any : (code : ℕ) (cs : List Chip) → list_any (λ c. bears_code code c.kind c.code) cs ≡ is_in code (borne_in cs)
unfolding borne_in pick
borne_any code [] = refl
borne_any code (c ∷ cs) = go (bears_code code c.kind c.code) (borne_any code cs) ∙ sym (borne_first code c cs)
  where
    go : (t : Bool) → list_any (λ (d : Chip). bears_code code d.kind d.code) cs ≡ is_in code (borne_in cs)
        → (t || list_any (λ (d : Chip). bears_code code d.kind d.code) cs) ≡ pick t true (is_in code (borne_in cs))
    go true e = refl
    go false e = e

-- ---- the loop that counts the codes
module _ (cs : List Chip) (i m : ℕ) (h : i < length cs) (so : m + distinct_in (borne_in (drop i cs)) ≡ distinct_in (borne_in cs)) where
  -- the chip at the place that the loop has come to, and those after it
  abbrev here : Chip
  here = get_or cs i no_chip

  abbrev after : List Chip
  after = drop (i + 1) cs

  counted-by : (t : Bool) → last_bearer here after ≡ t → m + (pick t 1 0 + distinct_in (borne_in after)) ≡ distinct_in (borne_in cs)
  counted-by t f =
      ap (λ (x : Bool). m + (pick x 1 0 + distinct_in (borne_in after))) (sym f)
      ∙ ap (λ (x : ℕ). m + x) (sym (count_first here after))
      ∙ ap (λ (es : List Chip). m + distinct_in (borne_in es)) (sym (drop-cons cs i no_chip h ∙ ap (λ (j : ℕ). here ∷ drop j cs) (sym (add-one i))))
      ∙ so

  -- whether a later chip bears the code too, as it is asked of the chips after the place
  module _ (b : Bool) (eb : b ≡ is_in here.code (borne_in (take (length cs - (i + 1)) after))) where
    later-is : (t : Bool) → b ≡ t → is_in here.code (borne_in after) ≡ t
    later-is t g = sym (eb ∙ ap (λ (ds : List Chip). is_in here.code (borne_in ds)) (take_rest cs (i + 1))) ∙ g

    -- the last that bears its code
    pub counts_last : is_ds28ec20 here.kind ≡ true → b ≡ false → m + 1 + distinct_in (borne_in after) ≡ distinct_in (borne_in cs)
    unfolding pick both
    counts_last f g = let k = counted-by true (λ j. both (f j) (not (later-is false g j))) in omega arith

    -- one whose code a later chip bears too
    pub counts_shared : is_ds28ec20 here.kind ≡ true → b ≡ true → m + distinct_in (borne_in after) ≡ distinct_in (borne_in cs)
    unfolding pick both
    counts_shared f g = let k = counted-by false (λ j. both (f j) (not (later-is true g j))) in omega arith

  -- a chip of another kind
  pub counts_other : is_ds28ec20 here.kind ≡ false → m + distinct_in (borne_in after) ≡ distinct_in (borne_in cs)
  unfolding pick both
  counts_other f = let k = counted-by false (λ j. both (f j) (not (is_in here.code (borne_in after)))) in omega arith

pub counts_all : (cs : List Chip) (i m : ℕ) → length cs ≤ i → m + distinct_in (borne_in (drop i cs)) ≡ distinct_in (borne_in cs) → m ≡ distinct_in (borne_in cs)
unfolding borne_in once_each
counts_all cs i m h so =
    let z : distinct_in (borne_in (drop i cs)) ≡ 0 = ap (λ (ds : List Chip). distinct_in (borne_in ds)) (drop_of_length-le cs {i = i} h) in
    omega arith

-- what a table asks
pub asked_some : (n m : ℕ) (cs : List Chip) → n ≤ 16 → m ≡ distinct_in (borne_in (take n cs)) → page_size * m ≡ pages_asked n cs
unfolding pages_asked
asked_some n m cs h e = ap (λ (x : ℕ). page_size * x) e ∙ sym (pick_true (leb n 16) _ 0 (le-leb n 16 h))

pub asked_none : (n : ℕ) (cs : List Chip) → 16 < n → 0 ≡ pages_asked n cs
unfolding pages_asked
asked_none n cs h = sym (pick_false (leb n 16) _ 0 (lt-leb n 16 h))
