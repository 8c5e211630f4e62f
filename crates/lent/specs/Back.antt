-- Laws: what gathering and putting back come to: set-up and search of the slice.
use Rattle.std.specs.Prelude.{ℕ, zero, suc, ◌+◌, ◌<◌, ◌≤◌, Bool, true, false, List, [], ◌∷◌, ◌++◌, ◌≡◌, refl, leb, ltb, length, take, drop, get_or, set}
use Rattle.std.proofs.Common.{arith, append_assoc, append-nil, ◌∙◌, sym, length-append, take-append-drop, drop_of_length-le, length-take-le, lt-ltb, le-ltb, le-leb, leb-true, leb-false, ltb-true}
use Rattle.std.proofs.Math.Path.{ap}
use Rattle.std.proofs.lemmas.List.{get_or_at, set_at, set-get_or}
use Rattle.std.proofs.Math.Seq.{take-length}
use Rattle.std.proofs.lemmas.Bool.{lt-leb}
use Rattle.base.specs.Pick.{pick_true, pick_false, pick_if, pick_both}
use Rattle.chip.specs.With.{no_chip}
use Rattle.chip.specs.declared.Chip.{Chip}
use Rattle.line.specs.Carrier.{over}
use Rattle.line.specs.Carried.{folded, over_line}
use Rattle.line.specs.Layout.{capped}
use Rattle.line.specs.Prefix.{capped_few}
use Rattle.line.specs.Tables.{blank_table, joined, chip_for}
use Rattle.line.specs.declared.Table.{Table}
use Rattle.card.specs.Card.{carded, Read, all, none, read_from, SetUp, set_up, from_read, set_up_of}
use Rattle.card.specs.Fits.{AtMost, read_few}
use Rattle.card.specs.declared.Carded.{Carded as CardLeft}
use Rattle.line.specs.Attached.{attached}
use Rattle.search.specs.Search.{searched, refused, Search, outcome as found, search_of}
use Rattle.search.specs.Prefix.{Has, many_search, search-rest, search_has}
use Rattle.search.specs.declared.Found.{Found}
use Rattle.lent.specs.declared.Told.{Told}
use Rattle.lent.specs.Gathered.{gathered, puts, Tells}

abbrev table : ℕ → List Chip → Table
table n cs = record { n = n; chips = cs }

-- the loops of the code: before the first turn, a turn, and the end
pub gather_first : (cs : List Chip) (t : Table) → t ≡ blank_table 0 → over joined (length cs) 0 cs t ≡ gathered cs
unfolding gathered
gather_first cs t e = ap (λ (u : Table). over joined (length cs) 0 cs u) e

pub puts_turn : (t : Table) (k i : ℕ) (cs : List Chip) (c : Chip) → c ≡ chip_for t i (get_or cs i no_chip) → puts t k (suc i) (set cs i c) ≡ puts t (suc k) i cs
unfolding puts
puts_turn t k i cs c e = ap (λ (d : Chip). puts t k (suc i) (set cs i d)) e

pub puts_none : (t : Table) (i : ℕ) (cs : List Chip) → cs ≡ puts t zero i cs
unfolding puts
puts_none t i cs = refl

-- up to 16 chips stand in the first places
joins : (P Z : List Chip) (q z : Chip) (i : ℕ) → length P ≡ i → i < 16 → joined q (table i (P ++ (z ∷ Z))) ≡ table (i + 1) (P ++ (q ∷ Z))
unfolding joined
joins P Z q z i p l = pick_true (ltb i 16) _ _ (lt-ltb i 16 l) ∙ ap (λ (k : List Chip). table (i + 1) k) (set_at P z Z q i p)

gathers : (Q P Z : List Chip) (i : ℕ) → length P ≡ i → length Q ≤ length Z → i + length Z ≤ 16
    → folded joined Q (table i (P ++ Z)) ≡ table (i + length Q) (P ++ (Q ++ drop (length Q) Z))
gathers [] P Z i p l m = ap (λ (k : ℕ). table k (P ++ Z)) (omega arith)
gathers (q ∷ Q) P [] i p l m = absurd (omega arith)
gathers (q ∷ Q) P (z ∷ Z) i p l m =
    let e : (i + 1) + length Q ≡ i + suc (length Q) = omega arith in
    ap (λ (t : Table). folded joined Q t) (joins P Z q z i p (omega arith) ∙ ap (λ (k : List Chip). table (i + 1) k) (sym (append_assoc P (q ∷ []) Z)))
    ∙ gathers Q (P ++ (q ∷ [])) Z (i + 1) (simp length-append (omega arith)) (omega arith) (omega arith)
    ∙ (λ j. table (e j) (append_assoc P (q ∷ []) (Q ++ drop (length Q) Z) j))

gathered_all : (cs : List Chip) → gathered cs ≡ folded joined cs (blank_table 0)
unfolding gathered
gathered_all cs = over_line joined (length cs) cs (blank_table 0) (omega arith) ∙ ap (λ (k : List Chip). folded joined k (blank_table 0)) (take-length cs)

gathered_few : (cs : List Chip) → length cs ≤ 16 → gathered cs ≡ table (length cs) (cs ++ drop (length cs) (blank_table 0).chips)
gathered_few cs l =
    gathered_all cs
    ∙ gathers cs [] (blank_table 0).chips 0 refl l (omega arith)
    ∙ ap (λ (k : ℕ). table k (cs ++ drop (length cs) (blank_table 0).chips)) (omega arith)

-- of more, the table counts 17
counts : (q : Chip) (t : Table) (m : ℕ) → t.n ≤ 17 → 16 < t.n + suc m → ((joined q t).n ≤ 17) × (16 < (joined q t).n + m)
unfolding joined
counts q t m l h =
    pick_if (λ (u : Table). (u.n ≤ 17) × (16 < u.n + m)) (ltb t.n 16) _ _
    (λ e. let k = ltb-true t.n 16 e in (omega arith, omega arith))
    (λ e. (omega arith, omega arith))

over_16 : (Q : List Chip) (t : Table) → t.n ≤ 17 → 16 < t.n + length Q → (folded joined Q t).n ≡ 17
over_16 [] t l h = omega arith
over_16 (q ∷ Q) t l h = let k = counts q t (length Q) l h in over_16 Q (joined q t) k.0 k.1

gathered_many : (cs : List Chip) → 16 < length cs → 16 < (gathered cs).n
gathered_many cs h = let e : (gathered cs).n ≡ 17 = ap (λ (t : Table). t.n) (gathered_all cs) ∙ over_16 cs (blank_table 0) (omega arith) (omega arith) in omega arith

-- a table put back leaves the places that it has no chip for
stays : (t : Table) (k i : ℕ) (cs : List Chip) → ((j : ℕ) (c : Chip) → i ≤ j → chip_for t j c ≡ c) → puts t k i cs ≡ cs
unfolding puts
stays t zero i cs h = refl
stays t (suc k) i cs h =
    ap (λ (c : Chip). puts t k (suc i) (set cs i c)) (h i (get_or cs i no_chip) (omega arith))
    ∙ ap (λ (l : List Chip). puts t k (suc i) l) (set-get_or cs i no_chip)
    ∙ stays t k (suc i) cs (λ (j : ℕ) (c : Chip) (l : suc i ≤ j). h j c (omega arith))

pub many_stay : (t : Table) (cs : List Chip) → 16 < t.n → puts t (length cs) 0 cs ≡ cs
unfolding chip_for
many_stay t cs h = stays t (length cs) 0 cs (λ (j : ℕ) (c : Chip) (l : 0 ≤ j). pick_false (leb t.n 16) _ _ (lt-leb t.n 16 h))

past : (t : Table) (j : ℕ) (c : Chip) → t.n ≤ j → chip_for t j c ≡ c
unfolding chip_for
past t j c h = pick_both (λ (x : Chip). x ≡ c) (leb t.n 16) _ _ (pick_false (ltb j t.n) _ _ (le-ltb j t.n h)) refl

-- and puts its own chips into the others
own : (P X : List Chip) (x : Chip) (n i : ℕ) (c : Chip) → length P ≡ i → i < n → n ≤ 16 → chip_for (table n (P ++ (x ∷ X))) i c ≡ x
unfolding chip_for
own P X x n i c p l m = pick_true (leb n 16) _ _ (le-leb n 16 m) ∙ pick_true (ltb i n) _ _ (lt-ltb i n l) ∙ get_or_at P x X no_chip i p

puts-at : (X O P R Z : List Chip) (n i : ℕ) → length P ≡ i → length X ≡ length O → i + length X ≡ n → n ≤ 16
    → puts (table n (P ++ (X ++ Z))) (length (O ++ R)) i (P ++ (O ++ R)) ≡ P ++ (X ++ R)
unfolding puts
puts-at [] [] P R Z n i p e f m = stays (table n (P ++ Z)) (length R) i (P ++ R) (λ (j : ℕ) (c : Chip) (l : i ≤ j). past (table n (P ++ Z)) j c (omega arith))
puts-at [] (o ∷ O) P R Z n i p e f m = absurd (omega arith)
puts-at (x ∷ X) [] P R Z n i p e f m = absurd (omega arith)
puts-at (x ∷ X) (o ∷ O) P R Z n i p e f m =
    let k = length (O ++ R) in
    let t = table n (P ++ (x ∷ (X ++ Z))) in
    ap (λ (c : Chip). puts t k (suc i) (set (P ++ (o ∷ (O ++ R))) i c)) (own P (X ++ Z) x n i (get_or (P ++ (o ∷ (O ++ R))) i no_chip) p (omega arith) m)
    ∙ ap (λ (l : List Chip). puts t k (suc i) l) (set_at P o (O ++ R) x i p)
    ∙ (λ j. puts (table n (sym (append_assoc P (x ∷ []) (X ++ Z)) j)) k (suc i) (sym (append_assoc P (x ∷ []) (O ++ R)) j))
    ∙ puts-at X O (P ++ (x ∷ [])) R Z n (suc i) (simp length-append (omega arith)) (omega arith) (omega arith) m
    ∙ append_assoc P (x ∷ []) (X ++ R)

pub puts_first : (n : ℕ) (X Z cs : List Chip) → length X ≡ n → n ≤ 16 → n ≤ length cs → puts (table n (X ++ Z)) (length cs) 0 cs ≡ X ++ drop n cs
puts_first n X Z cs e m l =
    let a = length-take-le n cs l in
    (λ j. puts (table n (X ++ Z)) (length (sym (take-append-drop n cs) j)) 0 (sym (take-append-drop n cs) j))
    ∙ puts-at X (take n cs) [] (drop n cs) Z n 0 refl (omega arith) (omega arith) m

-- what a search leaves of a table, put back into the places of cs
abbrev back : List Chip → Search → Search
back cs o =
    let ds = puts (table o.line.count o.line.lent.chips) (length cs) 0 cs in
    found o.answer o.number o.list o.resets o.slots (attached (length ds) ds o.line.lent.images o.line.lent.pads)

module _ (cs : List Chip) (list ms ss : List ℕ) where
  back_few : length cs ≤ 16 → back cs (search_of list (attached (gathered cs).n (gathered cs).chips ms ss)) ≡ search_of list (attached (length cs) cs ms ss)
  back_few m =
      let n = length cs in
      let Z = drop n (blank_table 0).chips in
      let k = attached n cs ms ss in
      let s = search_of list k in
      let has : Has n n k = record { chips = refl; places = refl } in
      let h = search_has n n (omega arith) list k has in
      let d : puts (table s.line.count (s.line.lent.chips ++ Z)) n 0 cs ≡ s.line.lent.chips
      = ap (λ (x : ℕ). puts (table x (s.line.lent.chips ++ Z)) n 0 cs) h.chips
      ∙ puts_first n s.line.lent.chips Z cs h.places m (omega arith)
      ∙ ap (λ (l : List Chip). s.line.lent.chips ++ l) (drop_of_length-le cs {i = n} (omega arith))
      ∙ append-nil s.line.lent.chips in
      ap (λ (t : Table). back cs (search_of list (attached t.n t.chips ms ss))) (gathered_few cs m)
      ∙ ap (back cs) (search-rest n n (omega arith) Z list k has)
      ∙ ap (λ (l : List Chip). found s.answer s.number s.list s.resets s.slots (attached (length l) l s.line.lent.images s.line.lent.pads)) d
      ∙ ap (λ (x : ℕ). found s.answer s.number s.list s.resets s.slots (attached x s.line.lent.chips s.line.lent.images s.line.lent.pads)) (h.places ∙ sym h.chips)

  back_many : 16 < length cs → back cs (search_of list (attached (gathered cs).n (gathered cs).chips ms ss)) ≡ search_of list (attached (length cs) cs ms ss)
  back_many m =
      let t = gathered cs in
      ap (back cs) (many_search list t.n t.chips ms ss (gathered_many cs m))
      ∙ ap (λ (l : List Chip). found (refused 8) 0 list 0 0 (attached (length l) l ms ss)) (many_stay t cs (gathered_many cs m))
      ∙ sym (many_search list (length cs) cs ms ss m)

  back_is : (b : Bool) → leb (length cs) 16 ≡ b → back cs (search_of list (attached (gathered cs).n (gathered cs).chips ms ss)) ≡ search_of list (attached (length cs) cs ms ss)
  back_is true e = back_few (leb-true (length cs) 16 e)
  back_is false e = back_many (leb-false (length cs) 16 e)

  -- the search of the chips that were gathered, put back, is the search of the slice
  pub searches : (u : Table) (f : Found) (t : Table) (list' ms' ss' : List ℕ) (ds : List Chip) (q : Told) → u ≡ gathered cs
      → found (searched f.answer) f.listed list' f.resets.0 f.slots.0 (attached f.table.n f.table.chips ms' ss') ≡ search_of list (attached u.n u.chips ms ss)
      → t ≡ f.table → ds ≡ puts t (length cs) 0 cs → Tells q f
      → found (searched q.answer) q.listed list' q.resets.0 q.slots.0 (attached (length ds) ds ms' ss') ≡ search_of list (attached (length cs) cs ms ss)
  searches u f t list' ms' ss' ds q g h e d (a, l, r, s) =
      let k : ds ≡ puts f.table (length cs) 0 cs = d ∙ ap (λ (x : Table). puts x (length cs) 0 cs) e in
      (λ j. found (searched (a j)) (l j) list' (r j).0 (s j).0 (attached (length (k j)) (k j) ms' ss')) ∙ ap (back cs) (h ∙ ap (λ (x : Table). search_of list (attached x.n x.chips ms ss)) g) ∙ back_is (leb (length cs) 16) refl

-- set-up from a card in a table without chips, put back into the places of cs
module _ (s : List ℕ) (cs : List Chip) where
  abbrev back_up : SetUp → List Chip
  back_up u = puts (table u.count u.table) (length cs) 0 cs

  up_read : (r : Read) → AtMost (capped (length cs)) r → ((from_read 0 (blank_table 0).chips r).answer ≡ (from_read 0 cs r).answer) × (back_up (from_read 0 (blank_table 0).chips r) ≡ (from_read 0 cs r).table)
  up_read (all ds) few =
      let k = capped_few (length cs) in
      (refl, puts_first (length ds) ds (drop (length ds) (blank_table 0).chips) cs refl (omega arith) (omega arith))
  up_read (none r at) few = (refl, puts_first 0 [] (blank_table 0).chips cs refl (omega arith) (omega arith))

  pub sets_up : (t : Table) (u : CardLeft) (ds : List Chip) → t ≡ blank_table 0 → set_up (carded u.answer) u.table.n u.table.chips ≡ set_up_of (length cs) s t.n t.chips
      → ds ≡ puts u.table (length cs) 0 cs → (carded u.answer ≡ (set_up_of (length cs) s 0 cs).answer) × (ds ≡ (set_up_of (length cs) s 0 cs).table)
  unfolding set_up_of
  sets_up t u ds e h d =
      let r = read_from (capped (length cs)) s 0 in
      let k = h ∙ ap (λ (x : Table). from_read x.n x.chips r) e in
      let w = up_read r (read_few (capped (length cs)) s 0) in
      (ap (λ (x : SetUp). x.answer) k ∙ w.0, d ∙ ap back_up k ∙ w.1)
