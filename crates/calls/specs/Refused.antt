-- Demand 1, "a refused call changes no byte": of an event, of a search refused by 8 or 5 ("both without an event, counts 0"), and of a run of slots,
-- in each form that has it.
-- From C it holds of any bytes, a table or not. What refusal 4 tells and leaves is in Listed; what a refused card leaves, in RefusedCard.
use Rattle.std.specs.Prelude.{ℕ, zero, suc, Bool, true, false, List, ◌≡◌, refl, ℤ, pos, negsuc}
use Rattle.std.proofs.Common.{arith, ◌∙◌, ap, sym}
use Rattle.base.specs.Pick.{pick_false}
use Rattle.line.specs.Event.{Answered, bit, refused}
use Rattle.line.specs.Layout.{Lent}
use Rattle.line.specs.Slots.{Slotted, put, refused as refusedRun, run_outcome}
use Rattle.line.specs.declared.Event.{Event}
use Rattle.line.specs.Attached.{Attached, left_by, says_of, leaves_of}
use Rattle.search.specs.Search.{Searched, complete, refused as refusedBy, Search, outcome, search_of}
use Rattle.packed.specs.Packed.{is_table}
use Rattle.toemsakun.specs.Library.{answer_number, EventLeft, event_bytes, slots_number, slots_bytes, search_number, search_bytes}
use Rattle.refusals.specs.Event.{refused_leaves}
use Rattle.refusals.specs.Search.{refused_eventless}
use Rattle.refusals.specs.Slots.{refused_leaves as refused-run}
use Rattle.histories.specs.Slots.{slots_on, left_by_run}
use Rattle.agreement.specs.Slice.{of_lent}
use Rattle.agreement.specs.InC.{LentBytes, unpacked_lent, packed_lent, not_below, packed_again}
use Rattle.calls.specs.Told.{Told, told, ToldSlots, told_slots}
use Rattle.calls.specs.Plain as plain
use Rattle.calls.specs.Slice as slice
use Rattle.calls.specs.InC as in_c

-- a refused event leaves a table as it was
refused_stays : (e : Event) (l : Attached) (r : ℕ) → says_of e l ≡ refused r → leaves_of e l ≡ l
unfolding says_of leaves_of
refused_stays e l r h = ap left_by (refused_leaves l.count l.lent.chips e l.lent.images l.lent.pads r h)

-- what a search that put no event on the line tells
abbrev pub nothing_told : ℕ → List ℕ → Told
nothing_told r list = record { answer = refusedBy r; number = 0; list = list; resets = 0; slots = 0 }

-- a search that 8 or 5 refuses tells no more, and leaves a table as it was
module _ (list : List ℕ) (l : Attached) (r : ℕ) (n : r ≡ 4 → ⊥) (h : (search_of list l).answer ≡ refusedBy r) where
  eventless_tells : told (search_of list l) ≡ nothing_told r list
  eventless_tells = ap told (refused_eventless list l r n h)

  eventless_stays : (search_of list l).line ≡ l
  eventless_stays = ap (λ (s : Search). s.line) (refused_eventless list l r n h)

-- THEOREM: `line::take_event`, refused, leaves table, images and scratchpads as they were
pub refused_event : (e : Event) (l : Attached) (r : ℕ) (k : Attached) → plain.PermitsEvent e l (refused r) k → k ≡ l
refused_event e l r k p = let m = plain.event_is e l (refused r) k p in m.leaves ∙ refused_stays e l r (sym m.tells)

-- THEOREM: so does `search::search_line`, refused by 8 or 5, and the list; its counts are 0
pub refused_search : (list : List ℕ) (l : Attached) (r : ℕ) (a : Told) (k : Attached) → (r ≡ 4 → ⊥) → a.answer ≡ refusedBy r → plain.PermitsSearch list l a k
    → (a ≡ nothing_told r list) × (k ≡ l)
refused_search list l r a k n h p =
    let m = plain.search_is list l a k p in
    let g = sym (ap (λ (t : Told). t.answer) m.tells) ∙ h in
    (m.tells ∙ eventless_tells list l r n g, m.leaves ∙ eventless_stays list l r n g)

-- THEOREM: so does `line::take_slots`, refused, and the answers
pub refused_slots : (n : ℕ) (bits out : List ℕ) (l : Attached) (r : ℕ) (a : ToldSlots) (k : Attached) → a.answer ≡ refusedRun r → plain.PermitsSlots n bits out l a k
    → (a ≡ record { answer = refusedRun r; answers = out }) × (k ≡ l)
refused_slots n bits out l r a k h p =
    let m = plain.slots_is n bits out l a k p in
    let g = sym (ap (λ (t : ToldSlots). t.answer) m.tells) ∙ h in
    let o = refused-run l.count l.lent.chips n bits out l.lent.images l.lent.pads r g in
    (m.tells ∙ ap told_slots o, m.leaves ∙ ap left_by_run o)

-- THEOREM: so do `lent::take_event` and `lent::search_line`
pub refused_event_lent : (e : Event) (x : Lent) (r : ℕ) (y : Lent) → slice.PermitsEvent e x (refused r) y → y ≡ x
refused_event_lent e x r y p =
    let m = slice.event_is e x (refused r) y p in
    ap (λ (l : Attached). l.lent) (m.leaves ∙ refused_stays e (of_lent x) r (sym m.tells))

pub refused_search_lent : (list : List ℕ) (x : Lent) (r : ℕ) (a : Told) (y : Lent) → (r ≡ 4 → ⊥) → a.answer ≡ refusedBy r → slice.PermitsSearch list x a y
    → (a ≡ nothing_told r list) × (y ≡ x)
refused_search_lent list x r a y n h p =
    let m = slice.search_is list x a y p in
    let g = sym (ap (λ (t : Told). t.answer) m.tells) ∙ h in
    (m.tells ∙ eventless_tells list (of_lent x) r n g, ap (λ (l : Attached). l.lent) (m.leaves ∙ eventless_stays list (of_lent x) r n g))

-- how far a number is below 0
abbrev depth : ℤ → ℕ
depth (pos n) = 0
depth (negsuc n) = suc n

-- bytes that are a table are left as they were where the table is
same-bytes : (x y : LentBytes) → is_table x.table ≡ true → is_table y.table ≡ true → of_lent (unpacked_lent y) ≡ of_lent (unpacked_lent x) → y ≡ x
same-bytes x y p q e = sym (packed_again y q) ∙ ap (λ (l : Attached). packed_lent l.lent) e ∙ packed_again x p

-- THEOREM: `tk_event` that answers a number below 0 leaves every byte as it was
pub refused_event_c : (e : Event) (x : LentBytes) (n : ℕ) (y : LentBytes) → in_c.PermitsEvent e x (negsuc n) y → y ≡ x
unfolding event_bytes
refused_event_c e x n y p = by (is_table x.table) refl
  where
    stays : (s : Answered) → says_of e (of_lent (unpacked_lent x)) ≡ s → negsuc n ≡ answer_number s → leaves_of e (of_lent (unpacked_lent x)) ≡ of_lent (unpacked_lent x)
    stays (bit b) h k = absurd (not_below _ n (sym k))
    stays (refused r) h k = refused_stays e (of_lent (unpacked_lent x)) r h

    by : (t : Bool) → is_table x.table ≡ t → y ≡ x
    by true q =
        let m = in_c.event_is e x (negsuc n) y q p in
        same-bytes x y q m.is-table (m.leaves ∙ stays (says_of e (of_lent (unpacked_lent x))) refl m.tells)
    by false q = ap (λ (z : EventLeft). record { table = z.table; images = z.images; pads = z.pads }) (in_c.event-bytes e x (negsuc n) y p ∙ pick_false (is_table x.table) _ _ q)

-- THEOREM: so does `tk_search` that answers one other than -4, and the list; its counts are 0
pub refused_search_c : (list : List ℕ) (x : LentBytes) (n : ℕ) (a : in_c.ToldInC) (y : LentBytes) → (n ≡ 3 → ⊥) → a.answer ≡ negsuc n → in_c.PermitsSearch list x a y
    → (a ≡ record { answer = negsuc n; list = list; resets = 0; slots = 0 }) × (y ≡ x)
unfolding search_bytes
refused_search_c list x n a y k h p = by (is_table x.table) refl
  where
    found : Search
    found = search_of list (of_lent (unpacked_lent x))

    -- the table refuses it by a number, which is not 4
    by_number : (s : Searched) → found.answer ≡ s → search_number found.number s ≡ negsuc n → found ≡ outcome (refusedBy (suc n)) 0 list 0 0 (of_lent (unpacked_lent x))
    by_number complete g e = absurd (not_below _ n e)
    by_number (refusedBy zero) g e = absurd (not_below _ n e)
    by_number (refusedBy (suc r)) g e =
        let d : suc r ≡ suc n = ap depth e in
        refused_eventless list (of_lent (unpacked_lent x)) (suc n) (λ f. k (omega arith)) (g ∙ ap (λ (m : ℕ). refusedBy m) d)

    by : (t : Bool) → is_table x.table ≡ t → (a ≡ record { answer = negsuc n; list = list; resets = 0; slots = 0 }) × (y ≡ x)
    by true q =
        let m = in_c.search_is list x a y q p in
        let o = by_number found.answer refl (sym (ap (λ (t : in_c.ToldInC). t.answer) m.tells) ∙ h) in
        (m.tells ∙ ap in_c.told o, same-bytes x y q m.is-table (m.leaves ∙ ap (λ (s : Search). s.line) o))
    by false q =
        let o = in_c.search-bytes list x a y p ∙ pick_false (is_table x.table) _ _ q in (
          λ j. record { answer = h j; list = (o j).list; resets = (o j).resets; slots = (o j).slots },
          λ j. record { table = (o j).table; images = (o j).images; pads = (o j).pads },
        )

-- THEOREM: so does `tk_slots` that answers a number below 0, and the answers
pub refused_slots_c : (m : ℕ) (bits out : List ℕ) (x : LentBytes) (n : ℕ) (a : in_c.ToldSlotsInC) (y : LentBytes) → a.answer ≡ negsuc n → in_c.PermitsSlots m bits out x a y
    → (a ≡ record { answer = negsuc n; answers = out }) × (y ≡ x)
unfolding slots_bytes
refused_slots_c m bits out x n a y h p = by (is_table x.table) refl
  where
    l : Attached
    l = of_lent (unpacked_lent x)

    -- the table refuses it by a number
    by_number : (s : Slotted) → (slots_on m bits out l).answer ≡ s → slots_number s ≡ negsuc n → slots_on m bits out l ≡ run_outcome (refusedRun (suc n)) out l.count l.lent
    by_number (put k) g e = absurd (not_below _ n e)
    by_number (refusedRun zero) g e = absurd (not_below _ n e)
    by_number (refusedRun (suc r)) g e =
        let d : suc r ≡ suc n = ap depth e in
        refused-run l.count l.lent.chips m bits out l.lent.images l.lent.pads (suc n) (g ∙ ap (λ (k : ℕ). refusedRun k) d)

    by : (t : Bool) → is_table x.table ≡ t → (a ≡ record { answer = negsuc n; answers = out }) × (y ≡ x)
    by true q =
        let k = in_c.slots_is m bits out x a y q p in
        let o = by_number (slots_on m bits out l).answer refl (sym (ap (λ (t : in_c.ToldSlotsInC). t.answer) k.tells) ∙ h) in
        (k.tells ∙ ap in_c.told_slots o, same-bytes x y q k.is-table (k.leaves ∙ ap left_by_run o))
    by false q =
        let o = in_c.slots-bytes m bits out x a y p ∙ pick_false (is_table x.table) _ _ q in (
          λ j. record { answer = h j; answers = (o j).answers },
          λ j. record { table = (o j).table; images = (o j).images; pads = (o j).pads },
        )
