-- The calls of the library for C on bytes, and that they are the lent calls on the chips that the bytes stand for, packed again.
use Rattle.std.specs.Prelude.{ℕ, Bool, true, false, List, [], ◌∷◌, ◌≡◌, refl, ℤ, pos, negsuc}
use Rattle.std.proofs.Common.{true≢false, ◌∙◌, ap, sym}
use Rattle.base.specs.Pick.{pick_true}
use Rattle.line.specs.Layout.{Lent, lent}
use Rattle.search.specs.Search.{search_of}
use Rattle.packed.specs.Packed.{packed_table, unpacked_table, is_table}
use Rattle.packed.specs.Laws.{unpacked-table, table_is, of_table}
use Rattle.toemsakun.specs.Library.{event_bytes, SlotsLeft, slots_bytes, SearchLeft, packed_search, search_bytes}
use Rattle.histories.specs.Calls.{Call, event_call, search_call, slots_call, leaves_call}
use Rattle.agreement.specs.Slots.{slots_packed}
use Rattle.agreement.specs.Slice.{of_lent, leaves_lent, run_lent, leaves-lent}

-- a table lent as bytes, with its buffers
pub record LentBytes : Type 0 where
  pub table : List ℕ
  pub images : List ℕ
  pub pads : List ℕ

-- the chips that its bytes stand for, and the bytes of chips
abbrev pub unpacked_lent : LentBytes → Lent
unpacked_lent b = lent (unpacked_table b.table) b.images b.pads

abbrev pub packed_lent : Lent → LentBytes
packed_lent x = record { table = packed_table x.chips; images = x.images; pads = x.pads }

-- `tk_search`
abbrev pub search_in : List ℕ → LentBytes → SearchLeft
search_in list b = search_bytes b.table list b.images b.pads

-- `tk_slots`
abbrev pub slots_in : ℕ → List ℕ → List ℕ → LentBytes → SlotsLeft
slots_in n bits out b = slots_bytes b.table bits out n b.images b.pads

-- what `tk_event`, `tk_search` and `tk_slots` leave, and what one call after another leaves
abbrev pub leaves_bytes : Call → LentBytes → LentBytes
leaves_bytes (event_call e) b = let o = event_bytes b.table e b.images b.pads in record { table = o.table; images = o.images; pads = o.pads }
leaves_bytes (search_call list) b = let o = search_in list b in record { table = o.table; images = o.images; pads = o.pads }
leaves_bytes (slots_call n bits out) b = let o = slots_in n bits out b in record { table = o.table; images = o.images; pads = o.pads }

abbrev pub run_bytes : List Call → LentBytes → LentBytes
run_bytes [] b = b
run_bytes (c ∷ cs) b = run_bytes cs (leaves_bytes c b)

-- a number from 0 on is not one below 0
pub not_below : (m n : ℕ) → pos m ≡ negsuc n → ⊥
not_below m n e = true≢false (sym (ap is_below e))
  where
    is_below : ℤ → Bool
    is_below (pos n) = false
    is_below (negsuc n) = true

-- a call on the bytes of chips is the call on the chips, packed
search_packed : (list : List ℕ) (x : Lent) → search_in list (packed_lent x) ≡ packed_search (search_of list (of_lent x))
unfolding search_bytes
search_packed list x = rw (pick_true (is_table (packed_table x.chips)) _ _ (of_table _ x.chips refl).0, unpacked-table x.chips)

call_packed : (c : Call) (x : Lent) → leaves_bytes c (packed_lent x) ≡ packed_lent (leaves_lent c x)
unfolding event_bytes
call_packed (event_call e) x = rw (pick_true (is_table (packed_table x.chips)) _ _ (of_table _ x.chips refl).0, unpacked-table x.chips)
call_packed (search_call list) x = ap (λ (o : SearchLeft). record { table = o.table; images = o.images; pads = o.pads }) (search_packed list x)
call_packed (slots_call n bits out) x = ap (λ (o : SlotsLeft). record { table = o.table; images = o.images; pads = o.pads }) (slots_packed x.chips n bits out x.images x.pads)

run_packed : (cs : List Call) (x : Lent) → run_bytes cs (packed_lent x) ≡ packed_lent (run_lent cs x)
run_packed [] x = refl
run_packed (c ∷ cs) x = ap (run_bytes cs) (call_packed c x) ∙ run_packed cs (leaves_lent c x)

-- bytes that are a table are those of the chips that they stand for
pub packed_again : (b : LentBytes) → is_table b.table ≡ true → packed_lent (unpacked_lent b) ≡ b
packed_again b q = λ j. record { table = table_is b.table q j; images = b.images; pads = b.pads }

-- what a call on them leaves is a table, the one that the call on the chips leaves
pub leaves-bytes : (c : Call) (b : LentBytes) → is_table b.table ≡ true
    → (of_lent (unpacked_lent (leaves_bytes c b)) ≡ leaves_call c (of_lent (unpacked_lent b))) × (is_table (leaves_bytes c b).table ≡ true)
leaves-bytes c b q =
    let x = unpacked_lent b in
    let e : leaves_bytes c b ≡ packed_lent (leaves_lent c x) = ap (leaves_bytes c) (sym (packed_again b q)) ∙ call_packed c x in
    let u : unpacked_lent (packed_lent (leaves_lent c x)) ≡ leaves_lent c x = λ j. lent (unpacked-table (leaves_lent c x).chips j) (leaves_lent c x).images (leaves_lent c x).pads in (
      ap (λ (k : LentBytes). of_lent (unpacked_lent k)) e ∙ ap of_lent u ∙ leaves-lent c x,
      ap (λ (k : LentBytes). is_table k.table) e ∙ (of_table _ (leaves_lent c x).chips refl).0,
    )

-- so a search on bytes that are a table, after some calls, is that of the chips after them, packed
pub searched_after : (cs : List Call) (list : List ℕ) (b : LentBytes) → is_table b.table ≡ true
    → search_in list (run_bytes cs b) ≡ packed_search (search_of list (of_lent (run_lent cs (unpacked_lent b))))
searched_after cs list b q =
    ap (λ (k : LentBytes). search_in list (run_bytes cs k)) (sym (packed_again b q))
    ∙ ap (search_in list) (run_packed cs (unpacked_lent b))
    ∙ search_packed list (run_lent cs (unpacked_lent b))
