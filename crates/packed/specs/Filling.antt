-- Laws: the loops over the records of a table, a turn and the end of each.
use Rattle.std.specs.Prelude.{ℕ, suc, ◌+◌, ◌-◌, ◌*◌, ◌/◌, ◌<◌, ◌≤◌, Bool, true, false, Option, Some, None, unwrap_or, ◌≡◌, refl, eqb, leb, get_or, set}
use native.Mathlib.Omega.{arith}
use Rattle.std.proofs.Common.{add-one, true≢false, ◌∙◌, take-append-drop, length-set, drop_of_length-le, take-suc-set, take-suc, drop-set-lt, drop-drop, eq-eqb, ne_eqb, le-leb}
use mathlib.Core.List.{List, [], ◌∷◌, ◌++◌, append_assoc, append-nil}
use Rattle.std.proofs.Math.Path.{ap, sym}
use Rattle.std.proofs.Math.ListN.{length, take, drop, length-drop}
use Rattle.std.proofs.Math.Seq.{take_at, drop_at, length-take-le}
use Rattle.std.proofs.lemmas.Bool.{lt-leb}
use Rattle.base.specs.Pick.{pick, pick_true, pick_false, pick_of}
use Rattle.base.specs.Bits.{both}
use Rattle.base.specs.Both.{both_assoc, true_both}
use Rattle.base.specs.Bytes.{same_bytes}
use Rattle.chip.specs.declared.Chip.{Chip}
use Rattle.chip.specs.With.{no_chip}
use Rattle.line.specs.declared.Table.{Table}
use Rattle.packed.specs.Packed.{record_size, packed, unpacked, packed_table, unpacked_from, unpacked_table, is_table, put_record, table_from, put_table}
use Rattle.packed.specs.Laws.{packed_length, table_length, from_length}

-- two runs, each of two parts of the same lengths
same_append : (xs xs' ys ys' : List ℕ) → length xs ≡ length ys → same_bytes (xs ++ xs') (ys ++ ys') ≡ both (same_bytes xs ys) (same_bytes xs' ys')
unfolding same_bytes
same_append [] xs' [] ys' l = sym (true_both (same_bytes xs' ys'))
same_append [] xs' (y ∷ ys) ys' l = absurd (omega arith)
same_append (x ∷ xs) xs' [] ys' l = absurd (omega arith)
same_append (x ∷ xs) xs' (y ∷ ys) ys' l =
    ap (both (eqb x y)) (same_append xs xs' ys ys' (omega arith))
    ∙ sym (both_assoc (eqb x y) (same_bytes xs ys) (same_bytes xs' ys'))

-- one record of n, at place i: the chip that it stands for, and whether it is that chip's record
module _ (n : ℕ) (bs : List ℕ) (i : ℕ) (c : Chip) (good : Bool) (h : i < n) (room : n * record_size ≤ length bs) (e : c ≡ unpacked (take (i * record_size + record_size - i * record_size) (drop (i * record_size) bs)))
    (f : good ≡ same_bytes (packed c) (take (i * record_size + record_size - i * record_size) (drop (i * record_size) bs))) where
  rest : drop record_size (drop (i * record_size) bs) ≡ drop ((i + 1) * record_size) bs
  rest = let a : i * record_size + record_size ≡ (i + 1) * record_size = omega arith in drop-drop record_size (i * record_size) bs ∙ ap (λ (x : ℕ). drop x bs) a

  width : i * record_size + record_size - i * record_size ≡ record_size
  width = omega arith

  pub one-chip : unpacked_from (n - i) (drop (i * record_size) bs) ≡ c ∷ unpacked_from (n - (i + 1)) (drop ((i + 1) * record_size) bs)
  one-chip =
      let m : n - i ≡ suc (n - (i + 1)) = omega arith in
      let c_is : unpacked (take record_size (drop (i * record_size) bs)) ≡ c = sym (rw width at e) in
      ap (λ (x : ℕ). unpacked_from x (drop (i * record_size) bs)) m ∙ (λ j. c_is j ∷ unpacked_from (n - (i + 1)) (rest j))

  pub one_judged : same_bytes (packed_table (unpacked_from (n - i) (drop (i * record_size) bs))) (drop (i * record_size) bs)
      ≡ both good (same_bytes (packed_table (unpacked_from (n - (i + 1)) (drop ((i + 1) * record_size) bs))) (drop ((i + 1) * record_size) bs))
  one_judged =
      let D = drop (i * record_size) bs in
      let U = unpacked_from (n - (i + 1)) (drop ((i + 1) * record_size) bs) in
      let l : length (take record_size D) ≡ record_size = length-take-le record_size D (simp length-drop (omega arith)) in
      let good_is : same_bytes (packed c) (take record_size D) ≡ good = sym (rw width at f) in
      (λ j. same_bytes (packed_table (one-chip j)) (sym (take-append-drop record_size D) j))
      ∙ same_append (packed c) (packed_table U) (take record_size D) (drop record_size D) (packed_length c ∙ sym l)
      ∙ (λ j. both (good_is j) (same_bytes (packed_table U) (rest j)))

-- where the loop that unpacks a table stands after i records
pub record Filling (n : ℕ) (bs : List ℕ) (cs₀ cs : List Chip) (i : ℕ) (ok : Bool) : Type 0 where
  pub left : take i cs ++ unpacked_from (n - i) (drop (i * record_size) bs) ≡ unpacked_from n bs
  pub judged : both ok (same_bytes (packed_table (unpacked_from (n - i) (drop (i * record_size) bs))) (drop (i * record_size) bs)) ≡ same_bytes (packed_table (unpacked_from n bs)) bs
  pub within : i ≤ n
  pub few : n ≤ 16
  pub room : n * record_size ≤ length bs
  pub long : length cs ≡ 16
  pub stays : drop i cs ≡ drop i cs₀

pub filling_start : (n : ℕ) (bs : List ℕ) (cs : List Chip) → n ≤ 16 → n * record_size ≤ length bs → length cs ≡ 16 → Filling n bs cs cs 0 true
filling_start n bs cs f r l =
    let z : n - 0 ≡ n = omega arith in
    record { left = rw z refl; judged = rw z (true_both (same_bytes (packed_table (unpacked_from n bs)) bs)); within = omega arith; few = f; room = r; long = l; stays = refl }

module _ (n : ℕ) (bs : List ℕ) (cs₀ cs : List Chip) (i : ℕ) (ok : Bool) (g : Filling n bs cs₀ cs i ok) where
  pub filling_next : (c : Chip) (good w : Bool) → i < n → c ≡ unpacked (take (i * record_size + record_size - i * record_size) (drop (i * record_size) bs))
      → good ≡ same_bytes (packed c) (take (i * record_size + record_size - i * record_size) (drop (i * record_size) bs)) → w ≡ both ok good → Filling n bs cs₀ (set cs i c) (i + 1) w
  filling_next c good w h e f k =
      let D' = drop ((i + 1) * record_size) bs in
      let U' = unpacked_from (n - (i + 1)) D' in
      let one = one-chip n bs i c good h g.room e f in
      let same = one_judged n bs i c good h g.room e f in
      let long = g.long in
      let few = g.few in
      record {
        left = ap (λ (x : List Chip). x ++ U') (ap (λ (x : ℕ). take x (set cs i c)) (add-one i) ∙ take-suc-set cs i c (omega arith))
            ∙ append_assoc (take i cs) (c ∷ []) U' ∙ ap (λ (x : List Chip). take i cs ++ x) (sym one) ∙ g.left;
        judged = ap (λ (x : Bool). both x (same_bytes (packed_table U') D')) k ∙ both_assoc ok good (same_bytes (packed_table U') D')
            ∙ ap (both ok) (sym same) ∙ g.judged;
        within = omega arith;
        few = few;
        room = g.room;
        long = simp length-set long;
        stays = drop-set-lt (i + 1) cs i c (omega arith) ∙ sym (drop-drop 1 i cs) ∙ ap (drop 1) g.stays ∙ drop-drop 1 i cs₀;
      }

  -- what the loop leaves: the chips, and whether the records are what they pack to
  pub filling_end : n ≤ i → (cs ≡ unpacked_from n bs ++ drop n cs₀) × (both ok (same_bytes [] (drop (n * record_size) bs)) ≡ same_bytes (packed_table (unpacked_from n bs)) bs)
  filling_end h =
      let w = g.within in
      let e : i ≡ n = omega arith in
      let z : n - n ≡ 0 = omega arith in
      let left : take n cs ++ unpacked_from (n - n) (drop (n * record_size) bs) ≡ unpacked_from n bs = rw e at g.left in
      let firsts : take n cs ≡ unpacked_from n bs = sym (append-nil (take n cs)) ∙ (rw z at left) in
      let stays : drop n cs ≡ drop n cs₀ = rw e at g.stays in
      let judged : both ok (same_bytes (packed_table (unpacked_from (n - n) (drop (n * record_size) bs))) (drop (n * record_size) bs)) ≡ same_bytes (packed_table (unpacked_from n bs)) bs = rw e at g.judged in
      (sym (take-append-drop n cs) ∙ (λ j. firsts j ++ stays j), rw z at judged)

-- n records are all the bytes there are, or not
pub rest_none : (k : ℕ) (bs : List ℕ) → k ≤ length bs → same_bytes [] (drop k bs) ≡ eqb (length bs) k
unfolding same_bytes
rest_none k bs h = go (drop k bs) (length-drop k bs)
  where
    go : (l : List ℕ) → length l ≡ length bs - k → same_bytes [] l ≡ eqb (length bs) k
    go [] e = sym (eq-eqb (length bs) k (omega arith))
    go (y ∷ ys) e = sym (ne_eqb (length bs) k (λ (q : length bs ≡ k). omega arith))

-- the bytes are a table, as a loop over its records found
pub table_judged : (bs : List ℕ) (n : ℕ) (ok w : Bool) → n ≡ length bs / record_size
    → both ok (same_bytes [] (drop (n * record_size) bs)) ≡ same_bytes (packed_table (unpacked_from n bs)) bs → w ≡ both ok (eqb (length bs) (n * record_size)) → w ≡ is_table bs
unfolding is_table unpacked_table
table_judged bs n ok w q j e =
    e ∙ ap (both ok) (sym (rest_none (n * record_size) bs (omega arith))) ∙ j ∙ ap (λ (k : ℕ). same_bytes (packed_table (unpacked_from k bs)) bs) q

-- the table whose n chips the bytes are, in the first places of a table, where they are a table
abbrev pub filled : ℕ → List ℕ → Table → Option Table
filled n bs t = pick (is_table bs) (Some (record { n = n; chips = unpacked_from n bs ++ drop n t.chips })) None

-- a record that is what it packs to
pub holds : (good : Bool) → good ≡ true → true ≡ both true good
holds good e = sym (true_both good ∙ e)

-- one that is not
pub filling_none : (n : ℕ) (bs : List ℕ) (t : Table) (cs : List Chip) (i : ℕ) → Filling n bs t.chips cs i true → n ≡ length bs / record_size → (c : Chip) (good : Bool) → i < n
    → c ≡ unpacked (take (i * record_size + record_size - i * record_size) (drop (i * record_size) bs)) → good ≡ same_bytes (packed c) (take (i * record_size + record_size - i * record_size) (drop (i * record_size) bs))
    → good ≡ false → None ≡ filled n bs t
unfolding is_table unpacked_table both pick
filling_none n bs t cs i g q c good h e f k =
    let D = drop ((i + 1) * record_size) bs in
    let rest = same_bytes (packed_table (unpacked_from (n - (i + 1)) D)) D in
    let none : is_table bs ≡ false
    = ap (λ (m : ℕ). same_bytes (packed_table (unpacked_from m bs)) bs) (sym q) ∙ sym g.judged ∙ one_judged n bs i c good h g.room e f ∙ ap (λ (x : Bool). both x rest) k in
    sym (pick_false (is_table bs) _ _ none)

-- what the loop found
pub filling_all : (n : ℕ) (bs : List ℕ) (t : Table) (cs : List Chip) (i : ℕ) → Filling n bs t.chips cs i true → n ≤ i → n ≡ length bs / record_size → length bs ≡ n * record_size
    → Some (record { n = n; chips = cs }) ≡ filled n bs t
filling_all n bs t cs i g h q l =
    let e = filling_end n bs t.chips cs i true g h in
    let yes : is_table bs ≡ true = sym (table_judged bs n true true q e.1 (sym (true_both _ ∙ eq-eqb (length bs) (n * record_size) l))) in
    ap (λ (x : List Chip). Some (record { n = n; chips = x })) e.0 ∙ sym (pick_true (is_table bs) _ _ yes)

pub filling_short : (n : ℕ) (bs : List ℕ) (t : Table) (cs : List Chip) (i : ℕ) → Filling n bs t.chips cs i true → n ≤ i → n ≡ length bs / record_size → (length bs ≡ n * record_size → ⊥)
    → None ≡ filled n bs t
filling_short n bs t cs i g h q l =
    let e = filling_end n bs t.chips cs i true g h in
    let no : is_table bs ≡ false = sym (table_judged bs n true false q e.1 (sym (true_both _ ∙ ne_eqb (length bs) (n * record_size) l))) in
    sym (pick_false (is_table bs) _ _ no)

pub table_found : (bs : List ℕ) (t : Table) (n : ℕ) → n ≡ length bs / record_size → n ≤ 16 → unwrap_or (filled n bs t) t ≡ table_from bs t
unfolding table_from unpacked_table
table_found bs t n q few =
    let cs = unpacked_from (length bs / record_size) bs in
    let long : length cs ≡ length bs / record_size = from_length (length bs / record_size) bs in
    let chips : unpacked_from n bs ++ drop n t.chips ≡ cs ++ drop (length cs) t.chips
    = (λ i. unpacked_from (q i) bs ++ drop (q i) t.chips) ∙ ap (λ (k : ℕ). cs ++ drop k t.chips) (sym long) in
    pick_of (λ (o : Option Table). unwrap_or o t) (is_table bs) _ None
    ∙ (λ i. pick (is_table bs) (record { n = (q ∙ sym long) i; chips = chips i }) t)
    ∙ sym (pick_true (leb (length bs / record_size) 16) _ _ (le-leb (length bs / record_size) 16 (omega arith)))

pub table_long : (bs : List ℕ) (t : Table) → 16 < length bs / record_size → t ≡ table_from bs t
unfolding table_from
table_long bs t h = sym (pick_false (leb (length bs / record_size) 16) _ _ (lt-leb (length bs / record_size) 16 h))

-- records after records
pub table_append : (cs ds : List Chip) → packed_table (cs ++ ds) ≡ packed_table cs ++ packed_table ds
table_append [] ds = refl
table_append (c ∷ cs) ds = ap (λ (k : List ℕ). packed c ++ k) (table_append cs ds) ∙ sym (append_assoc (packed c) (packed_table cs) (packed_table ds))

-- the loop that packs a table, after i records
module _ (n i : ℕ) (cs : List Chip) (bs₀ bs : List ℕ) (few : n ≤ length cs) (room : n * record_size ≤ length bs₀) (inv : packed_table (take i cs) ++ drop (i * record_size) bs₀ ≡ bs) where
  pub putting_next : (c : Chip) (x : List ℕ) → i < n → c ≡ get_or cs i no_chip → x ≡ put_record c (take (i * record_size + record_size - i * record_size) (drop (i * record_size) bs))
      → packed_table (take (i + 1) cs) ++ drop ((i + 1) * record_size) bs₀ ≡ take (i * record_size) bs ++ (x ++ drop (i * record_size + record_size - i * record_size) (drop (i * record_size) bs))
  unfolding put_record
  putting_next c x h e f =
      let P = packed_table (take i cs) in
      let D = drop (i * record_size) bs₀ in
      let lp : length P ≡ i * record_size = let k = table_length (take i cs) in let m = length-take-le i cs (omega arith) in omega arith in
      let z : i * record_size + record_size - i * record_size ≡ record_size = omega arith in
      let front : take (i * record_size) bs ≡ P = ap (λ (k : List ℕ). take (i * record_size) k) (sym inv) ∙ take_at P D (i * record_size) lp in
      let back : drop (i * record_size) bs ≡ D = ap (λ (k : List ℕ). drop (i * record_size) k) (sym inv) ∙ drop_at P D (i * record_size) lp in
      let l : length (take record_size D) ≡ record_size = length-take-le record_size D (simp length-drop (omega arith)) in
      let x_is : x ≡ packed c
      = f ∙ (λ j. pick (leb record_size (length (take (z j) (back j)))) (packed c ++ drop record_size (take (z j) (back j))) (take (z j) (back j)))
      ∙ pick_true (leb record_size (length (take record_size D))) _ _ (le-leb record_size (length (take record_size D)) (omega arith))
      ∙ ap (λ (k : List ℕ). packed c ++ k) (drop_of_length-le (take record_size D) {i = record_size} (omega arith)) ∙ append-nil (packed c) in
      let first : packed_table (take (i + 1) cs) ≡ P ++ packed c
      = ap (λ (k : ℕ). packed_table (take k cs)) (add-one i)
      ∙ ap (λ (k : List Chip). packed_table k) (take-suc cs i no_chip (omega arith))
      ∙ table_append (take i cs) (get_or cs i no_chip ∷ [])
      ∙ ap (λ (k : List ℕ). P ++ k) (append-nil (packed (get_or cs i no_chip)) ∙ ap (λ (d : Chip). packed d) (sym e)) in
      let a : (i + 1) * record_size ≡ i * record_size + record_size = omega arith in
      let rest : drop ((i + 1) * record_size) bs₀ ≡ drop record_size D = ap (λ (k : ℕ). drop k bs₀) a ∙ sym (drop-drop record_size (i * record_size) bs₀) in
      (λ j. first j ++ rest j)
      ∙ append_assoc P (packed c) (drop record_size D)
      ∙ (λ j. sym front j ++ (sym x_is j ++ drop (sym z j) (sym back j)))

  pub putting_end : n ≤ i → i ≤ n → n ≤ 16 → bs ≡ put_table n cs bs₀
  unfolding put_table
  putting_end h k m =
      let e : i ≡ n = omega arith in
      sym (rw e at inv)
      ∙ sym (pick_true (leb (n * record_size) (length bs₀)) (packed_table (take n cs) ++ drop (n * record_size) bs₀) bs₀ (le-leb (n * record_size) (length bs₀) room))
      ∙ sym (pick_true (leb n 16) _ _ (le-leb n 16 m))

-- nothing is put
pub putting_none : (n : ℕ) (cs : List Chip) (bs : List ℕ) → length bs < n * record_size → bs ≡ put_table n cs bs
unfolding put_table pick
putting_none n cs bs h = go (leb n 16) (leb (n * record_size) (length bs)) (lt-leb (n * record_size) (length bs) h)
  where
    go : (s t : Bool) → t ≡ false → bs ≡ pick s (pick t (packed_table (take n cs) ++ drop (n * record_size) bs) bs) bs
    go true true e = absurd (true≢false e)
    go true false e = refl
    go false t e = refl

pub putting_many : (n : ℕ) (cs : List Chip) (bs : List ℕ) → 16 < n → bs ≡ put_table n cs bs
unfolding put_table
putting_many n cs bs h = sym (pick_false (leb n 16) _ _ (lt-leb n 16 h))
