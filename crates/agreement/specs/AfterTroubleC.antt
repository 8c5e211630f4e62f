-- M-111, "The list after trouble", of the library for C. It is the lent form's theorem: a call on bytes is the lent call on the chips that
-- they stand for, packed again.
use Rattle.std.specs.Prelude.{ℕ, zero, suc, ◌*◌, ◌/◌, ◌^◌, ◌<◌, ◌≤◌, Bool, List, [], ◌∷◌, ◌++◌, ◌≡◌, refl, leb, ℤ, pos, negsuc, length, drop}
use Rattle.std.proofs.Common.{arith, ◌∙◌, sym}
use Rattle.std.proofs.Math.Bool.{true, false}
use mathlib.Core.List.Memᴰ
use Rattle.std.proofs.Math.Path.{ap}
use Rattle.base.specs.Bits.{both}
use Rattle.base.specs.Exactly.{Iff}
use Rattle.base.specs.Pick.{pick, pick_false}
use Rattle.chip.specs.declared.Chip.{Chip}
use Rattle.chip.specs.Chip.{set_up_chip}
use Rattle.line.specs.Layout.{Lent, lent}
use Rattle.search.specs.Search.{refused, complete_or4, Search, search_of}
use Rattle.packed.specs.Packed.{packed, packed_table, is_table}
use Rattle.packed.specs.Laws.{unpacked-table, table_is, of_table}
use Rattle.toemsakun.specs.Library.{minus, SearchLeft, search_number, packed_search, search_bytes}
use Rattle.histories.specs.Below.{Codes, Bytes, none_below, one_below, all-below}
use Rattle.line.specs.Attached.{Stands}
use Rattle.histories.specs.Calls.{Call, search_call}
use Rattle.refusals.specs.Search.{given_neither}
use Rattle.listing.specs.Order.{SameMembers}
use Rattle.listing.proofs.Public.{order_of, search_finds}
use Rattle.listing.proofs.AfterTrouble.{ListedAlike}
use Rattle.listing.proofs.Case.{one_stands}
use Rattle.agreement.specs.Slice.{of_lent, codes_in, run_lent, codes_lent}
use Rattle.agreement.specs.InC.{LentBytes, unpacked_lent, packed_lent, search_in, run_bytes, searched_after}
use Rattle.agreement.specs.AfterTroubleLent.{list_after_trouble_lent, same_codes_same_list_lent, second_list_lent}

-- numbers below 256, as every `uint8_t` is, that neither 8 nor 5 refuses
pub record StandsAsBytes (b : LentBytes) : Type 0 where
  pub bytes : Bytes b.table
  pub table : is_table b.table ≡ true
  pub stands : Stands (of_lent (unpacked_lent b))

-- what two calls of `tk_search` with one list come to, but for the line that they leave
pub record SameSearchInC (s t : SearchLeft) : Type 0 where
  pub answer : s.answer ≡ t.answer
  pub list : s.list ≡ t.list
  pub resets : s.resets ≡ t.resets
  pub slots : s.slots ≡ t.slots

-- what two calls come to, each with its own list: both answer how many codes they list, or both -4; the same codes stand in the first
-- places of both lists, and past them each list is as it was found; both put as many resets on the line, and 200 slots for each code,
-- so that the count tells how many codes are listed under 4 too
pub record ListedAlikeInC (list list' : List ℕ) (s t : SearchLeft) : Type 0 where
  pub codes : List ℕ
  pub places : length codes ≤ length list
  pub whole : Bool
  pub answer : (s.answer ≡ search_number (length codes) (complete_or4 whole)) × (t.answer ≡ search_number (length codes) (complete_or4 whole))
  pub listed : (s.list ≡ codes ++ drop (length codes) list) × (t.list ≡ codes ++ drop (length codes) list')
  pub resets : s.resets ≡ t.resets
  pub slots : (s.slots ≡ 200 * length codes) × (t.slots ≡ 200 * length codes)

-- eight bits more
eight_more : (x m : ℕ) → x / 256 < m → x < 256 * m
eight_more x m h = omega arith

-- a code whose eighth byte is below 256 has 64 bits
code_fits : (c : Chip) → Bytes (packed c) → c.code < 2 ^ 64
unfolding packed
code_fits c small =
    let code = c.code in
    let last : code / 256 / 256 / 256 / 256 / 256 / 256 / 256 < 256 =
    small _ (Memᴰ.tail (Memᴰ.tail (Memᴰ.tail (Memᴰ.tail (Memᴰ.tail (Memᴰ.tail (Memᴰ.tail (Memᴰ.head refl)))))))) in
    eight_more _ _ (eight_more _ _ (eight_more _ _ (eight_more _ _ (eight_more _ _ (eight_more _ _ (eight_more _ _ last))))))

-- so have the codes of a table of bytes
codes_fit : (cs : List Chip) → Bytes (packed_table cs) → Codes (codes_in cs)
codes_fit [] small = none_below _
codes_fit (c ∷ cs) small =
    one_below _ c.code (codes_in cs) (code_fits c (λ x m. small x (Memᴰ.append_left (packed_table cs) m))) (codes_fit cs (λ x m. small x (Memᴰ.append_right (packed c) m)))

pub bytes_fit : (b : LentBytes) → StandsAsBytes b → Codes (codes_in (unpacked_lent b).chips)
bytes_fit b s = codes_fit (unpacked_lent b).chips (rw (table_is b.table s.table) s.bytes)

-- M-111 of `tk_search`: after any calls of it, of `tk_event` and of `tk_slots`, as before them
pub list_after_trouble_c : (cs : List Call) (list : List ℕ) (b : LentBytes) → StandsAsBytes b → SameSearchInC (search_in list (run_bytes cs b)) (search_in list b)
list_after_trouble_c cs list b s =
    let p = searched_after cs list b s.table in
    let q = searched_after [] list b s.table in
    let c = list_after_trouble_lent cs list (unpacked_lent b) s.stands (bytes_fit b s) in
    record {
      answer = ap (λ (k : SearchLeft). k.answer) p ∙ (λ j. search_number (c.number j) (c.answer j)) ∙ sym (ap (λ (k : SearchLeft). k.answer) q);
      list = ap (λ (k : SearchLeft). k.list) p ∙ c.list ∙ sym (ap (λ (k : SearchLeft). k.list) q);
      resets = ap (λ (k : SearchLeft). k.resets) p ∙ c.resets ∙ sym (ap (λ (k : SearchLeft). k.resets) q);
      slots = ap (λ (k : SearchLeft). k.slots) p ∙ c.slots ∙ sym (ap (λ (k : SearchLeft). k.slots) q);
    }

-- two searches that list alike, as two calls on bytes
alike_packed : (list list' : List ℕ) (x y : Lent) (u v : SearchLeft) → u ≡ packed_search (search_of list (of_lent x)) → v ≡ packed_search (search_of list' (of_lent y))
    → Stands (of_lent x) → Codes (codes_in x.chips) → ListedAlike list list' (search_of list (of_lent x)) (search_of list' (of_lent y))
    → ListedAlikeInC list list' u v
alike_packed list list' x y u v p q s fits c =
    let f = search_finds list (of_lent x) s (rw (codes_lent x) fits) in
    let m = c.number.0 in
    let n = c.number.1 in
    let a = f.answer in
    let k : (search_of list (of_lent x)).slots ≡ 200 * length c.codes = f.slots ∙ ap (λ (i : ℕ). 200 * i) (sym f.number ∙ m) in
    record {
      codes = c.codes;
      places = c.places;
      whole = leb (length (order_of (of_lent x))) (length list);
      answer = (
        ap (λ (o : SearchLeft). o.answer) p ∙ (λ j. search_number (m j) (a j)),
        ap (λ (o : SearchLeft). o.answer) q ∙ (λ j. search_number (n j) ((sym c.answer ∙ a) j)),
      );
      listed = (ap (λ (o : SearchLeft). o.list) p ∙ c.listed.0, ap (λ (o : SearchLeft). o.list) q ∙ c.listed.1);
      resets = ap (λ (o : SearchLeft). o.resets) p ∙ c.resets ∙ sym (ap (λ (o : SearchLeft). o.resets) q);
      slots = (ap (λ (o : SearchLeft). o.slots) p ∙ k, ap (λ (o : SearchLeft). o.slots) q ∙ sym c.slots ∙ k);
    }

-- and on two tables with the same codes
pub same_codes_same_list_c : (list list' : List ℕ) (b d : LentBytes) → StandsAsBytes b → StandsAsBytes d
    → SameMembers (codes_in (unpacked_lent b).chips) (codes_in (unpacked_lent d).chips)
    → length list ≡ length list'
    → ListedAlikeInC list list' (search_in list b) (search_in list' d)
same_codes_same_list_c list list' b d s t same long =
    alike_packed list list' (unpacked_lent b) (unpacked_lent d) _ _ (searched_after [] list b s.table) (searched_after [] list' d t.table) s.stands (bytes_fit b s)
    (same_codes_same_list_lent list list' (unpacked_lent b) (unpacked_lent d) s.stands t.stands (bytes_fit b s) same long)

-- and a search, any calls, and a second search with as many places
pub second_list_c : (first second : List ℕ) (cs : List Call) (b : LentBytes) → StandsAsBytes b → length first ≡ length second
    → ListedAlikeInC first second (search_in first b) (search_in second (run_bytes (search_call first ∷ cs) b))
second_list_c first second cs b s long =
    alike_packed first second (unpacked_lent b) (run_lent (search_call first ∷ cs) (unpacked_lent b)) _ _
    (searched_after [] first b s.table) (searched_after (search_call first ∷ cs) second b s.table) s.stands (bytes_fit b s)
    (second_list_lent first second cs (unpacked_lent b) s.stands (bytes_fit b s) long)

-- how far a number is below 0
abbrev below : ℤ → ℕ
below (pos n) = 0
below (negsuc n) = suc n

below_minus : (r : ℕ) → below (minus r) ≡ r
below_minus zero = refl
below_minus (suc r) = refl

-- a search that is complete, or refused by 4, answers no other refusal
no_refusal : (n : ℕ) (whole : Bool) (r : ℕ) → (0 ≡ r → ⊥) → (4 ≡ r → ⊥) → search_number n (complete_or4 whole) ≡ minus r → ⊥
unfolding pick
no_refusal n true r k h e = k (ap below e ∙ below_minus r)
no_refusal n false r k h e = h (ap below e ∙ below_minus r)

module _ (list : List ℕ) (b : LentBytes) where
  -- the search of the chips
  abbrev on_chips : Search
  on_chips = search_of list (of_lent (unpacked_lent b))

  answer_is : is_table b.table ≡ true → (search_in list b).answer ≡ search_number on_chips.number on_chips.answer
  answer_is q = ap (λ (k : SearchLeft). k.answer) (searched_after [] list b q)

  -- neither 8 nor 5 is given
  abbrev pub GivenNeither : Type 0
  GivenNeither = ((search_in list b).answer ≡ minus 8 → ⊥) × ((search_in list b).answer ≡ minus 5 → ⊥)

  stand_if : Bytes b.table → (t : Bool) → is_table b.table ≡ t → GivenNeither → StandsAsBytes b
  unfolding search_bytes
  stand_if bytes true q n =
      let no : (r : ℕ) → ((search_in list b).answer ≡ minus r → ⊥) → on_chips.answer ≡ refused r → ⊥ = λ r m e. m (answer_is q ∙ ap (search_number on_chips.number) e) in
      record { bytes = bytes; table = q; stands = (given_neither list (of_lent (unpacked_lent b)) (λ h. omega arith)).0 (no 8 n.0, no 5 n.1) }
  stand_if bytes false q n = absurd (n.0 (ap (λ (k : SearchLeft). k.answer) (pick_false (is_table b.table) _ _ q)))

  neither_if : StandsAsBytes b → GivenNeither
  neither_if s =
      let f = search_finds list (of_lent (unpacked_lent b)) s.stands (rw (codes_lent (unpacked_lent b)) (bytes_fit b s)) in
      let q = answer_is s.table ∙ ap (search_number on_chips.number) f.answer in (
        (λ e. no_refusal on_chips.number _ 8 (λ z. omega arith) (λ z. omega arith) (sym q ∙ e)),
        (λ e. no_refusal on_chips.number _ 5 (λ z. omega arith) (λ z. omega arith) (sym q ∙ e)),
      )

  -- `tk_search` answers neither -8 nor -5 exactly where the bytes stand so
  pub given_neither_c : Bytes b.table → Iff GivenNeither (StandsAsBytes b)
  given_neither_c bytes = (stand_if bytes (is_table b.table) refl, neither_if)

-- there are such bytes: a line of one DS2413 ---------------------------------------------------------

abbrev one_chip : Lent
one_chip = lent (set_up_chip 0x3A 2 ∷ []) [] []

one_bytes : Bytes (packed_table one_chip.chips)
unfolding packed set_up_chip both pick
one_bytes = all-below 256 (packed_table one_chip.chips) refl

pub one_chip_stands : StandsAsBytes (packed_lent one_chip)
one_chip_stands = record {
  bytes = one_bytes;
  table = (of_table _ one_chip.chips refl).0;
  stands = rw (unpacked-table one_chip.chips) (one_stands 0x3A);
}
