-- Laws: a plain form on the table that bytes were unpacked to, packed again, is the call on the bytes.
use Rattle.std.specs.Prelude.{ℕ, ◌*◌, ◌/◌, ◌<◌, ◌≤◌, Bool, false, ◌≡◌, leb, ℤ, pos}
use native.Mathlib.Omega.{arith}
use Rattle.std.proofs.Math.Bool.{true}
use mathlib.Core.List.{List, ◌++◌, append-nil}
use Rattle.std.proofs.Math.Path.{refl, ap, sym}
use Rattle.std.proofs.Common.{◌∙◌, drop_of_length-le, take_at}
use Rattle.std.proofs.Math.ListN.{length, drop}
use borrow.Author.Tests.{leb-true, leb-false, le-leb}
use Rattle.base.specs.Pick.{pick, pick_true}
use Rattle.chip.specs.declared.Chip.{Chip}
use Rattle.line.specs.Layout.{capped, images_asked, pads_asked}
use Rattle.line.specs.Prefix.{capped_few, images_rest, pads_rest}
use Rattle.line.specs.Carried.{images_none, pads_none}
use Rattle.line.specs.Tables.{blank_table}
use Rattle.line.specs.declared.Table.{Table}
use Rattle.card.specs.Card.{Carded, Read, all, none, read_from, SetUp, set_up, from_read, set_up_of}
use Rattle.line.specs.Attached.{Attached, attached}
use Rattle.search.specs.Search.{Searched, Search, outcome as found, search_of}
use Rattle.search.specs.Prefix.{Has, many_search, search-rest, search_has}
use Rattle.packed.specs.Packed.{record_size, packed_table, unpacked_table, is_table, table_from, put_table}
use Rattle.packed.specs.Laws.{table_is, table_length, from_length}
use Rattle.packed.specs.Filling.{putting_many}
use Rattle.toemsakun.specs.Library.{minus, images_bytes, pads_bytes, card_left, card_from, card_bytes, SearchLeft, search_left, search_number, packed_search, search_bytes}
use Rattle.toemsakun.specs.Answers.{card_number, card_offset}
use Rattle.card.specs.Fits.{AtMost, read_few}
use Rattle.toemsakun.specs.Few.{search_few}

-- a table whose records are all the bytes, put back
put_all : (n : ℕ) (cs Z : List Chip) (bs : List ℕ) → length cs ≡ n → n ≤ 16 → length bs ≡ n * record_size → put_table n (cs ++ Z) bs ≡ packed_table cs
unfolding put_table
put_all n cs Z bs l few k =
    pick_true (leb n 16) _ _ (le-leb n 16 few)
    ∙ pick_true (leb (n * record_size) (length bs)) _ _ (le-leb (n * record_size) (length bs) (omega arith))
    ∙ (λ j. packed_table (take_at cs Z n l j) ++ drop_of_length-le bs {i = n * record_size} (omega arith) j)
    ∙ append-nil (packed_table cs)

-- a table that was filled by chips or stayed: what F gives of it
by_cases : {A : Type 0} (F : ℕ → List Chip → A) (G : List Chip → A) (x : A) (a b : Bool) (cs : List Chip) (t : Table)
    → (a ≡ true → b ≡ true → F (length cs) (cs ++ drop (length cs) t.chips) ≡ G cs) → F t.n t.chips ≡ x → (a ≡ false → b ≡ true → G cs ≡ x)
    → (let v = pick a (pick b (record { n = length cs; chips = cs ++ drop (length cs) t.chips }) t) t in F v.n v.chips) ≡ pick b (G cs) x
unfolding pick
by_cases F G x true true cs t f g h = f refl refl
by_cases F G x true false cs t f g h = g
by_cases F G x false true cs t f g h = g ∙ sym (h refl refl)
by_cases F G x false false cs t f g h = g

-- a table that every call refuses by 8, or asks nothing for: it has 17 chips
abbrev pub no_table : Table
no_table = blank_table 17

-- bytes that were unpacked, into a table that is refused where they are none
module _ (bs : List ℕ) (u : Table) (u_is : u ≡ table_from bs no_table) where
  table_chips : length (unpacked_table bs) ≡ length bs / record_size
  unfolding unpacked_table
  table_chips = from_length (length bs / record_size) bs

  -- what F gives of the table is what G gives of the chips that the bytes stand for, or x where they are no table
  by_table : {A : Type 0} (F : ℕ → List Chip → A) (G : List Chip → A) (x : A)
      → ((Z : List Chip) → is_table bs ≡ true → length (unpacked_table bs) ≤ 16 → F (length (unpacked_table bs)) (unpacked_table bs ++ Z) ≡ G (unpacked_table bs))
      → ((n : ℕ) (cs : List Chip) → 16 < n → F n cs ≡ x)
      → (is_table bs ≡ true → 16 < length (unpacked_table bs) → G (unpacked_table bs) ≡ x)
      → F u.n u.chips ≡ pick (is_table bs) (G (unpacked_table bs)) x
  unfolding table_from
  by_table F G x f g h =
      let k = table_chips in
      ap (λ (v : Table). F v.n v.chips) u_is
      ∙ by_cases F G x (leb (length bs / record_size) 16) (is_table bs) (unpacked_table bs) no_table
      (λ p q. f (drop (length (unpacked_table bs)) no_table.chips) q (let m = leb-true (length bs / record_size) 16 p in omega arith))
      (g no_table.n no_table.chips (omega arith))
      (λ p q. h q (let m = leb-false (length bs / record_size) 16 p in omega arith))

  pub images_found : images_asked u.n u.chips ≡ images_bytes bs
  unfolding images_bytes
  images_found =
      by_table images_asked (λ cs. images_asked (length cs) cs) 0
      (λ Z q l. images_rest (length (unpacked_table bs)) (unpacked_table bs) Z (omega arith))
      (λ n cs l. sym (images_none n cs l))
      (λ q l. sym (images_none (length (unpacked_table bs)) (unpacked_table bs) l))

  pub pads_found : pads_asked u.n u.chips ≡ pads_bytes bs
  unfolding pads_bytes
  pads_found =
      by_table pads_asked (λ cs. pads_asked (length cs) cs) 0
      (λ Z q l. pads_rest (length (unpacked_table bs)) (unpacked_table bs) Z (omega arith))
      (λ n cs l. sym (pads_none n cs l))
      (λ q l. sym (pads_none (length (unpacked_table bs)) (unpacked_table bs) l))

  -- all the bytes of a table
  all_bytes : is_table bs ≡ true → length bs ≡ length (unpacked_table bs) * record_size
  all_bytes q = let k = table_length (unpacked_table bs) in let e = ap (λ (l : List ℕ). length l) (table_is bs q) in omega arith

  -- what a search leaves, put back over the bytes
  abbrev put_search : Search → SearchLeft
  put_search s =
      search_left (search_number s.number s.answer) s.list (put_table s.line.count s.line.lent.chips bs)
      s.line.lent.images s.line.lent.pads s.resets s.slots

  search_found : (list ms ss : List ℕ) → put_search (search_of list (attached u.n u.chips ms ss)) ≡ search_bytes bs list ms ss
  unfolding search_bytes
  search_found list ms ss =
      by_table (λ n cs. put_search (search_of list (attached n cs ms ss))) (λ cs. packed_search (search_of list (attached (length cs) cs ms ss))) (search_left (minus 8) list bs ms ss 0 0)
      (λ Z q l. rest Z q l)
      (λ n cs l. ap (λ (o : Search). put_search o) (many_search list n cs ms ss l) ∙ ap (λ (k : List ℕ). search_left (minus 8) list k ms ss 0 0) (sym (putting_many n cs bs l)))
      (λ q l. ap (λ (o : Search). packed_search o) (many_search list (length (unpacked_table bs)) (unpacked_table bs) ms ss l) ∙ ap (λ (k : List ℕ). search_left (minus 8) list k ms ss 0 0) (table_is bs q))
    where
      rest : (Z : List Chip) → is_table bs ≡ true → length (unpacked_table bs) ≤ 16
          → put_search (search_of list (attached (length (unpacked_table bs)) (unpacked_table bs ++ Z) ms ss)) ≡ packed_search (search_of list (attached (length (unpacked_table bs)) (unpacked_table bs) ms ss))
      rest Z q l =
          let n = length (unpacked_table bs) in
          let k = attached n (unpacked_table bs) ms ss in
          let s = search_of list k in
          let has : Has n n k = record { chips = refl; places = refl } in
          let h = search_has n n (omega arith) list k has in
          ap (λ (o : Search). put_search o) (search-rest n n (omega arith) Z list k has)
          ∙ ap (λ (b : List ℕ). search_left (search_number s.number s.answer) s.list b s.line.lent.images s.line.lent.pads s.resets s.slots)
          (ap (λ (m : ℕ). put_table m (s.line.lent.chips ++ Z) bs) h.chips ∙ put_all n s.line.lent.chips Z bs h.places l (all_bytes q))

  pub search_done : (list ms ss : List ℕ) (a : Searched) (m : ℕ) (out : List ℕ) (r s n : ℕ) (cs : List Chip) (is ps x : List ℕ) (z : ℤ)
      → found a m out r s (attached n cs is ps) ≡ search_of list (attached u.n u.chips ms ss) → x ≡ put_table n cs bs → z ≡ search_number m a
      → search_left z out x is ps r s ≡ search_bytes bs list ms ss
  search_done list ms ss a m out r s n cs is ps x z h p q =
      (λ j. search_left (q j) out (p j) is ps r s) ∙ ap (λ (o : Search). put_search o) h ∙ search_found list ms ss

-- what a search lists is at most 16
pub listed_few : (s : Search) (list : List ℕ) (l : Attached) → s ≡ search_of list l → s.number ≤ 16
listed_few s list l h = let e : s.number ≡ (search_of list l).number = ap (λ (k : Search). k.number) h in let k = search_few list l in omega arith

-- set-up over bytes, in a table without chips
module _ (bs card : List ℕ) (t : Table) (no_chips : t.n ≡ 0) where
  put_read : (r : Read) → AtMost (capped (length bs / record_size)) r
      → (let s = from_read t.n t.chips r in card_left (card_number s.count s.answer) (put_table s.count s.table bs) (card_offset s.answer)) ≡ card_from bs r
  unfolding put_table
  put_read (all cs) few =
      let k = capped_few (length bs / record_size) in
      ap (λ (b : List ℕ). card_left (pos (length cs)) b 0)
      (pick_true (leb (length cs) 16) _ _ (le-leb (length cs) 16 (omega arith))
      ∙ pick_true (leb (length cs * record_size) (length bs)) _ _ (le-leb (length cs * record_size) (length bs) (omega arith))
      ∙ ap (λ (l : List Chip). packed_table l ++ drop (length cs * record_size) bs) (take_at cs (drop (length cs) t.chips) (length cs) refl))
  put_read (none r at) few =
      ap (λ (b : List ℕ). card_left (minus r) b at)
      (ap (λ (n : ℕ). put_table n t.chips bs) no_chips
      ∙ pick_true (leb 0 16) _ _ (le-leb 0 16 (omega arith))
      ∙ pick_true (leb (0 * record_size) (length bs)) _ _ (le-leb (0 * record_size) (length bs) (omega arith)))

  read_count : (r : Read) → AtMost (capped (length bs / record_size)) r → (from_read t.n t.chips r).count ≤ 16
  read_count (all cs) few = let k = capped_few (length bs / record_size) in omega arith
  read_count (none r at) few = omega arith

  -- the count that set-up leaves is at most 16
  pub card_few : (a : Carded) (n : ℕ) (cs : List Chip) → set_up a n cs ≡ set_up_of (length bs / record_size) card t.n t.chips → n ≤ 16
  unfolding set_up_of
  card_few a n cs h =
      let k = read_count (read_from (capped (length bs / record_size)) card 0) (read_few (capped (length bs / record_size)) card 0) in
      let e : n ≡ (set_up_of (length bs / record_size) card t.n t.chips).count = ap (λ (s : SetUp). s.count) h in
      omega arith

  -- set-up in the table, its answer as a number, and its table put over the bytes
  pub card_done : (a : Carded) (n : ℕ) (cs : List Chip) (x : List ℕ) (o : ℕ) (z : ℤ) → set_up a n cs ≡ set_up_of (length bs / record_size) card t.n t.chips
      → x ≡ put_table n cs bs → o ≡ card_offset a → z ≡ card_number n a → card_left z x o ≡ card_bytes card bs
  unfolding set_up_of card_bytes
  card_done a n cs x o z h p q w =
      (λ j. card_left (w j) (p j) (q j))
      ∙ ap (λ (s : SetUp). card_left (card_number s.count s.answer) (put_table s.count s.table bs) (card_offset s.answer)) h
      ∙ put_read (read_from (capped (length bs / record_size)) card 0) (read_few (capped (length bs / record_size)) card 0)
