-- Laws: one record of a table, read and written in its place.
use Rattle.std.specs.Prelude.{ℕ, suc, ◌+◌, ◌-◌, ◌*◌, ◌<◌, ◌≤◌, List, ◌∷◌, ◌++◌, ◌≡◌, leb, length, take, get_or, set}
use native.Mathlib.Omega.{arith}
use Rattle.std.proofs.Common.{append-nil, ◌∙◌, ap, sym, length-set, drop_of_length-le, take_at, drop_at, le-leb}
use Rattle.std.proofs.Math.ListN.{drop}
use Rattle.std.proofs.Math.Seq.{split_at, length-take-le}
use Rattle.std.proofs.lemmas.List.{set_split}
use Rattle.base.specs.Pick.{pick_true}
use Rattle.chip.specs.declared.Chip.{Chip}
use Rattle.chip.specs.With.{no_chip}
use Rattle.packed.specs.Packed.{record_size, packed, unpacked, packed_table, unpacked_table, put_record}
use Rattle.packed.specs.Laws.{packed_length, table_length, unpacked_packed, unpacked-table}
use Rattle.packed.specs.Filling.{table_append}

-- bytes are a table of at most 16 chips
pub record Table16 (bs : List ℕ) : Type 0 where
  pub few : length (unpacked_table bs) ≤ 16
  pub packs : packed_table (unpacked_table bs) ≡ bs

pub bytes_length : (bs : List ℕ) → Table16 bs → length bs ≡ length (unpacked_table bs) * record_size
bytes_length bs h =
    let k = table_length (unpacked_table bs) in
    let e = ap (λ (l : List ℕ). length l) h.packs in
    omega arith

-- a table's bytes at place i: what is before, the record, what is after
module _ (cs : List Chip) (i : ℕ) (h : i < length cs) where
  front : List ℕ
  front = packed_table (take i cs)

  front_length : length front ≡ i * record_size
  unfolding front
  front_length = let k = table_length (take i cs) in let m = length-take-le i cs (omega arith) in omega arith

  with : (c : Chip) → packed_table (take i cs ++ c ∷ drop (suc i) cs) ≡ front ++ (packed c ++ packed_table (drop (suc i) cs))
  unfolding front
  with c = table_append (take i cs) (c ∷ drop (suc i) cs)

  parted : packed_table cs ≡ front ++ (packed (get_or cs i no_chip) ++ packed_table (drop (suc i) cs))
  parted = ap (λ (l : List Chip). packed_table l) (split_at cs i no_chip h) ∙ with (get_or cs i no_chip)

  from_place : drop (i * record_size) (packed_table cs) ≡ packed (get_or cs i no_chip) ++ packed_table (drop (suc i) cs)
  from_place = ap (λ (l : List ℕ). drop (i * record_size) l) parted ∙ drop_at front _ (i * record_size) front_length

  -- the record there
  pub place_at : take record_size (drop (i * record_size) (packed_table cs)) ≡ packed (get_or cs i no_chip)
  place_at = ap (λ (l : List ℕ). take record_size l) from_place ∙ take_at (packed (get_or cs i no_chip)) _ record_size (packed_length (get_or cs i no_chip))

  -- another record put there
  pub place_put : (c : Chip) → take (i * record_size) (packed_table cs) ++ (packed c ++ drop record_size (drop (i * record_size) (packed_table cs))) ≡ packed_table (set cs i c)
  place_put c =
      (λ j. (ap (λ (l : List ℕ). take (i * record_size) l) parted ∙ take_at front _ (i * record_size) front_length) j
      ++ (packed c ++ (ap (λ (l : List ℕ). drop record_size l) from_place ∙ drop_at (packed (get_or cs i no_chip)) _ record_size (packed_length (get_or cs i no_chip))) j))
      ∙ sym (with c)
      ∙ ap (λ (l : List Chip). packed_table l) (sym (set_split cs i c h))

-- a record put over another
pub put_packed : (c d : Chip) → put_record c (packed d) ≡ packed c
unfolding put_record
put_packed c d =
    let l = packed_length d in
    pick_true (leb record_size (length (packed d))) _ _ (le-leb record_size (length (packed d)) (omega arith))
    ∙ ap (λ (k : List ℕ). packed c ++ k) (drop_of_length-le (packed d) {i = record_size} (omega arith)) ∙ append-nil (packed c)

-- the same of bytes that are a table, as the code lends a part of them
module _ (bs : List ℕ) (t : Table16 bs) (i : ℕ) (h : i < length (unpacked_table bs)) where
  part : take (i * record_size + record_size - i * record_size) (drop (i * record_size) bs) ≡ packed (get_or (unpacked_table bs) i no_chip)
  part =
      let z : i * record_size + record_size - i * record_size ≡ record_size = omega arith in
      (λ j. take (z j) (drop (i * record_size) (sym t.packs j))) ∙ place_at (unpacked_table bs) i h

  pub chip-at : (c : Chip) → c ≡ unpacked (take (i * record_size + record_size - i * record_size) (drop (i * record_size) bs)) → c ≡ get_or (unpacked_table bs) i no_chip
  chip-at c e = e ∙ ap (λ (l : List ℕ). unpacked l) part ∙ unpacked_packed (get_or (unpacked_table bs) i no_chip)

  -- the bytes with another record at a place are the table with another chip there
  module _ (c : Chip) (x : List ℕ) (e : x ≡ put_record c (take (i * record_size + record_size - i * record_size) (drop (i * record_size) bs))) where
    put_is : x ≡ packed c
    put_is = e ∙ ap (λ (k : List ℕ). put_record c k) part ∙ put_packed c (get_or (unpacked_table bs) i no_chip)

    pub bytes_put : take (i * record_size) bs ++ (x ++ drop (i * record_size + record_size - i * record_size) (drop (i * record_size) bs)) ≡ packed_table (set (unpacked_table bs) i c)
    bytes_put =
        let z : i * record_size + record_size - i * record_size ≡ record_size = omega arith in
        (λ j. take (i * record_size) (sym t.packs j) ++ (put_is j ++ drop (z j) (drop (i * record_size) (sym t.packs j))))
        ∙ place_put (unpacked_table bs) i h c

    pub chips_put : unpacked_table (take (i * record_size) bs ++ (x ++ drop (i * record_size + record_size - i * record_size) (drop (i * record_size) bs))) ≡ set (unpacked_table bs) i c
    chips_put = ap (λ (l : List ℕ). unpacked_table l) bytes_put ∙ unpacked-table (set (unpacked_table bs) i c)

    pub table_put : Table16 (take (i * record_size) bs ++ (x ++ drop (i * record_size + record_size - i * record_size) (drop (i * record_size) bs)))
    table_put = record {
      few = let f = t.few in let k = ap (λ (l : List Chip). length l) chips_put ∙ length-set (unpacked_table bs) i c in omega arith;
      packs = ap (λ (l : List Chip). packed_table l) chips_put ∙ sym bytes_put;
    }
