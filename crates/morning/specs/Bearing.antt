-- Laws: which codes the DS28EC20s of a table bear, and that the codes listed which are borne are as many as the distinct ones among those.
use Rattle.std.specs.Prelude.{ℕ, ◌≤◌, true, false, ◌⊎◌, ◌≡◌, refl, length, take}
use Rattle.std.proofs.Common.{arith, true≢false, inl, inr, sym, ◌∙◌, ap, eqb-true, eq-eqb}
use mathlib.Core.List.Memᴰ
use mathlib.Core.List.{List, [], ◌∷◌, map, Memᴰ}
use Rattle.std.proofs.lemmas.List.{length-map}
use Rattle.base.specs.Pick.{pick_if}
use Rattle.base.specs.Exactly.{Iff}
use Rattle.base.specs.Once.{is_in, once_each, distinct_in, is-in, in_is, once_in, in_once}
use Rattle.chip.specs.Kinds.{is_ds28ec20}
use Rattle.chip.specs.Chip.{Whole}
use Rattle.chip.specs.declared.Chip.{Chip}
use Rattle.line.specs.Attached.{Attached, Stands, line_from}
use Rattle.line.specs.Refusals.{chips_split, in_range_few}
use Rattle.line.proofs.Standing.{line_length}
use Rattle.rounds.specs.Borne.{borne_in, only_borne}
use Rattle.rounds.specs.Round.{borne_on}
use Rattle.histories.specs.Below.{Codes}
use Rattle.histories.specs.Histories.{codes_of}
use Rattle.histories.specs.Standing.{codes_chips}
use Rattle.listing.specs.Order.{Distinct}
use Rattle.listing.proofs.Listing.{branch-order}
use Rattle.listing.proofs.Count.{once_distinct, no_more}
use Rattle.listing.proofs.Public.{order_of}

-- "some chip of the table with that code is of kind 1"
pub record Bears (code : ℕ) (cs : List Chip) : Type 0 where
  pub bearer : Chip
  pub there : Memᴰ bearer cs
  pub kind : bearer.kind ≡ 1
  pub has : bearer.code ≡ code

-- by a chip further on
bears_later : {code : ℕ} {c : Chip} {cs : List Chip} → Bears code cs → Bears code (c ∷ cs)
bears_later b = record { bearer = b.bearer; there = Memᴰ.tail b.there; kind = b.kind; has = b.has }

-- a code among those borne has a bearer among the chips
borne_by : (code : ℕ) (cs : List Chip) → Memᴰ code (borne_in cs) → Bears code cs
unfolding borne_in is_ds28ec20
borne_by code [] = λ m. absurd (Memᴰ.not-nil m)
borne_by code (c ∷ cs) =
    pick_if (λ (xs : List ℕ). Memᴰ code xs → Bears code (c ∷ cs)) (is_ds28ec20 c.kind) _ _
    (λ e m. here e (borne_by code cs) (Memᴰ.cases_cons m)) (λ e m. bears_later (borne_by code cs m))
  where
    here : is_ds28ec20 c.kind ≡ true → (Memᴰ code (borne_in cs) → Bears code cs) → (code ≡ c.code) ⊎ Memᴰ code (borne_in cs) → Bears code (c ∷ cs)
    here e g (inl f) = record { bearer = c; there = Memᴰ.head refl; kind = eqb-true c.kind 1 e; has = sym f }
    here e g (inr n) = bears_later (g n)

-- and the code of a bearer is among those borne
by_borne : (b : Chip) (cs : List Chip) → b.kind ≡ 1 → Memᴰ b cs → Memᴰ b.code (borne_in cs)
unfolding borne_in is_ds28ec20
by_borne b [] k m = absurd (Memᴰ.not-nil m)
by_borne b (c ∷ cs) k m =
    pick_if (λ (xs : List ℕ). Memᴰ b.code xs) (is_ds28ec20 c.kind) _ _
    (λ e. here (by_borne b cs k) (Memᴰ.cases_cons m)) (λ e. later e (by_borne b cs k) (Memᴰ.cases_cons m))
  where
    here : (Memᴰ b cs → Memᴰ b.code (borne_in cs)) → (b ≡ c) ⊎ Memᴰ b cs → Memᴰ b.code (c.code ∷ borne_in cs)
    here g (inl f) = Memᴰ.head (ap (λ (x : Chip). x.code) f)
    here g (inr n) = Memᴰ.tail (g n)

    later : is_ds28ec20 c.kind ≡ false → (Memᴰ b cs → Memᴰ b.code (borne_in cs)) → (b ≡ c) ⊎ Memᴰ b cs → Memᴰ b.code (borne_in cs)
    later e g (inl f) = absurd (true≢false (sym (eq-eqb c.kind 1 (ap (λ (x : Chip). x.kind) (sym f) ∙ k)) ∙ e))
    later e g (inr n) = g n

-- THEOREM: "m of them are borne by a DS28EC20: some chip of the table with that code is of kind 1": exactly then a code is among those borne
pub borne_exactly : (code : ℕ) (cs : List Chip) → Iff (Memᴰ code (borne_in cs)) (Bears code cs)
borne_exactly code cs = (borne_by code cs, (λ b. rw (← b.has) (by_borne b.bearer cs b.kind b.there)))

-- a code that is borne is a code of the chips
borne_coded : (code : ℕ) (cs : List Chip) → Memᴰ code (borne_in cs) → Memᴰ code (map (λ (c : Chip). c.code) cs)
unfolding borne_in
borne_coded code [] = λ m. m
borne_coded code (c ∷ cs) =
    pick_if (λ (xs : List ℕ). Memᴰ code xs → Memᴰ code (c.code ∷ map (λ (d : Chip). d.code) cs)) (is_ds28ec20 c.kind) _ _
    (λ e m. here (borne_coded code cs) (Memᴰ.cases_cons m)) (λ e m. Memᴰ.tail (borne_coded code cs m))
  where
    here : (Memᴰ code (borne_in cs) → Memᴰ code (map (λ (d : Chip). d.code) cs)) → (code ≡ c.code) ⊎ Memᴰ code (borne_in cs)
        → Memᴰ code (c.code ∷ map (λ (d : Chip). d.code) cs)
    here g (inl f) = Memᴰ.head f
    here g (inr n) = Memᴰ.tail (g n)

-- ---- those of a list that are borne
module _ (borne : List ℕ) where
  -- they are of the list, and borne
  only_in : (x : ℕ) (cs : List ℕ) → Memᴰ x (only_borne borne cs) → Memᴰ x cs × Memᴰ x borne
  unfolding only_borne
  only_in x [] = λ m. absurd (Memᴰ.not-nil m)
  only_in x (c ∷ cs) =
      pick_if (λ (xs : List ℕ). Memᴰ x xs → Memᴰ x (c ∷ cs) × Memᴰ x borne) (is_in c borne) _ _
      (λ e m. here (is-in c borne e) (only_in x cs) (Memᴰ.cases_cons m)) (λ e m. later (only_in x cs m))
    where
      later : Memᴰ x cs × Memᴰ x borne → Memᴰ x (c ∷ cs) × Memᴰ x borne
      later p = (Memᴰ.tail p.0, p.1)

      here : Memᴰ c borne → (Memᴰ x (only_borne borne cs) → Memᴰ x cs × Memᴰ x borne) → (x ≡ c) ⊎ Memᴰ x (only_borne borne cs)
          → Memᴰ x (c ∷ cs) × Memᴰ x borne
      here b g (inl f) = (Memᴰ.head f, rw f b)
      here b g (inr n) = later (g n)

  -- what is of the list and borne is among them
  in_only : (x : ℕ) (cs : List ℕ) → Memᴰ x borne → Memᴰ x cs → Memᴰ x (only_borne borne cs)
  unfolding only_borne
  in_only x [] b m = m
  in_only x (c ∷ cs) b m =
      pick_if (λ (xs : List ℕ). Memᴰ x xs) (is_in c borne) _ _
      (λ e. here (in_only x cs b) (Memᴰ.cases_cons m)) (λ e. later e (in_only x cs b) (Memᴰ.cases_cons m))
    where
      here : (Memᴰ x cs → Memᴰ x (only_borne borne cs)) → (x ≡ c) ⊎ Memᴰ x cs → Memᴰ x (c ∷ only_borne borne cs)
      here g (inl f) = Memᴰ.head f
      here g (inr n) = Memᴰ.tail (g n)

      later : is_in c borne ≡ false → (Memᴰ x cs → Memᴰ x (only_borne borne cs)) → (x ≡ c) ⊎ Memᴰ x cs → Memᴰ x (only_borne borne cs)
      later e g (inl f) = absurd (true≢false (sym (ap (λ (y : ℕ). is_in y borne) (sym f) ∙ in_is x borne b) ∙ e))
      later e g (inr n) = g n

  -- none stands twice where none does in the list
  only_distinct : (cs : List ℕ) → Distinct cs → Distinct (only_borne borne cs)
  unfolding only_borne
  only_distinct [] d = tt
  only_distinct (c ∷ cs) (a, d) =
      pick_if Distinct (is_in c borne) _ _ (λ e. ((λ y m. a y (only_in y cs m).0), only_distinct cs d)) (λ e. only_distinct cs d)

-- ---- of a table

-- the codes of its line are those of its chips
codes_table : (l : Attached) → codes_of (line_from l) ≡ map (λ (c : Chip). c.code) (take l.count l.lent.chips)
codes_table l =
    codes_chips (line_from l) ∙ ap (λ (cs : List Chip). map (λ (c : Chip). c.code) cs) (chips_split (take l.count l.lent.chips) l.lent.images l.lent.pads)

-- the codes that are borne are codes of its line
borne_on_line : (l : Attached) (x : ℕ) → Memᴰ x (borne_on l) → Memᴰ x (codes_of (line_from l))
borne_on_line l x m = rw (codes_table l) (borne_coded x (take l.count l.lent.chips) m)

-- THEOREM: "A code that chips share counts once and is read once": the codes listed that are borne are as many as the distinct ones that are borne
pub borne_listed : (l : Attached) → Codes (codes_of (line_from l)) → length (only_borne (borne_on l) (order_of l)) ≡ distinct_in (borne_on l)
borne_listed l fits =
    let b = branch-order (codes_of (line_from l)) fits in
    let h = no_more (only_borne (borne_on l) (order_of l)) (once_each (borne_on l)) (only_distinct (borne_on l) (order_of l) b.distinct)
    (λ x m. in_once x (borne_on l) (only_in (borne_on l) x (order_of l) m).1) in
    let k = no_more (once_each (borne_on l)) (only_borne (borne_on l) (order_of l)) (once_distinct (borne_on l))
    (λ x m. let i = once_in x (borne_on l) m in in_only (borne_on l) x (order_of l) i ((b.members x).1 (borne_on_line l x i))) in
    omega arith

-- no more codes are borne than there are
pub borne_few : (l : Attached) → distinct_in (borne_on l) ≤ distinct_in (codes_of (line_from l))
borne_few l =
    no_more (once_each (borne_on l)) (once_each (codes_of (line_from l))) (once_distinct (borne_on l))
    (λ x m. in_once x (codes_of (line_from l)) (borne_on_line l x (once_in x (borne_on l) m)))

-- and of these at most 16
pub codes_few : (l : Attached) → Stands l → distinct_in (codes_of (line_from l)) ≤ 16
codes_few l s =
    let xs = codes_of (line_from l) in
    let h = no_more (once_each xs) xs (once_distinct xs) (λ x m. once_in x xs m) in
    let k = in_range_few l.count l.lent.chips s.range in
    let n = line_length l s in
    omega (arith, length-map (line_from l) (λ (w : Whole). w.chip.code))
