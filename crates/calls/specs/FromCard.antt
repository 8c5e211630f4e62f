-- From a card on, by contract: a call of `card::set_up`, of `lent::set_up` or of `tk_card` that answers k chips, then images and scratchpads of
-- the sizes asked. What is lent then is refused by neither 8 nor 5, and where the codes differ each of its chips of kind 1 meets the premise of
-- demand 3: so demand 3 begins at "one set-up", in each form. What stood in the table before does not matter.
use Rattle.std.specs.Prelude.{ℕ, zero, suc, ◌*◌, ◌/◌, ◌<◌, List, [], ◌++◌, ◌≡◌, refl, ℤ, pos, length, take, drop, Result}
use Rattle.std.proofs.Common.{arith, append-nil, ◌∙◌, ap, sym, take_at}
use contract.Lifetimes.{Lfts}
use Rattle.std.specs.Borrow.{Bor, MutBor}
use denote.Triple.Clauses.{at_exit}
use base.Logic.{id⊢}
use Rattle.chip.specs.declared.Chip.{Chip}
use Rattle.line.specs.Layout.{lent, capped}
use Rattle.line.specs.declared.Table.{Table}
use Rattle.card.specs.Card.{Carded, chips, carded, Read, all, none, read_from, SetUp, set_up, from_read, set_up_of}
use Rattle.card.specs.declared.Refused.{Refused}
use Rattle.card.specs.contracts.set_up as set-up
use Rattle.card.proofs.set_up.Reads as set-up-reads
use Rattle.lent.specs.contracts.set_up as lent_set_up
use Rattle.line.specs.Attached.{attached}
use Rattle.packed.specs.Packed.{record_size, packed_table, unpacked_table, is_table}
use Rattle.packed.specs.Laws.{table_length, unpacked-table, of_table}
use Rattle.toemsakun.specs.Library.{CardLeft, card_left, card_from, card_bytes}
use Rattle.toemsakun.specs.contracts.tk_card as tk-card
use Rattle.toemsakun.proofs.tk_card.Reads as tk-card-reads
use Rattle.histories.specs.Below.{Bytes}
use Rattle.histories.specs.SetUp.{kind_in, codes_from, chips_from, length_chips_from, sets_up, table_from, SizesAsked, set_up_stands}
use Rattle.refusals.specs.Reading.{card_refused}
use Rattle.recovery.proofs.Installed.{Differ}
use Rattle.recovery.proofs.Public.{TableInstalled}
use Rattle.recovery.proofs.FromCard.{card_installed}
use Rattle.agreement.specs.Slice.{of_lent}
use Rattle.agreement.specs.InC.{LentBytes, unpacked_lent, not_below}
use Rattle.calls.specs.Form.{Form, Well}
use Rattle.calls.specs.Plain.{plain}
use Rattle.calls.specs.Slice.{World, Learnt, slice}
use Rattle.calls.specs.InC.{in_c}

-- what is lent in a form after a card that answered k, with images and scratchpads of the sizes asked: it stands well; and where the card is bytes
-- and its codes differ, chip i, that of record i, meets the premise of demand 3 if it is a DS28EC20
pub record SetUpBy (F : Form) (card : List ℕ) (k : ℕ) (x : F.Loan) : Type 0 where
  pub well : Well F x
  pub installed : Bytes card → Differ (codes_from card 0 k) → (i : ℕ) → i < k → kind_in card i ≡ 1 → TableInstalled i (F.table x)

-- by the table that a set-up leaves
set_up_by : (F : Form) (x : F.Loan) (places : ℕ) (card : List ℕ) (n : ℕ) (cs : List Chip) (ms ss : List ℕ) (k : ℕ)
    → F.IsTable x → F.table x ≡ table_from places card n cs ms ss → (set_up_of places card n cs).answer ≡ chips k → SizesAsked (F.table x)
    → SetUpBy F card k x
set_up_by F x places card n cs ms ss k i e h sizes =
    let z : SizesAsked (table_from places card n cs ms ss) = rw (← e) sizes in
    record {
      well = record { is-table = i; stands = rw e (set_up_stands places card n cs ms ss k h z) };
      installed = λ b d j l q. rw e (card_installed places card n cs ms ss k (record { answered = h; bytes = b; differ = d; sizes = z }) j l q);
    }

-- `card::set_up`: the card lies anywhere, and the contract permits what is handed back
pub record PermitsCard (card : List ℕ) (places : ℕ) (t : Table) (a : Carded) (u : Table) : Type 2 where
  pub κs : Lfts 1
  pub bytes : Bor (List ℕ)
  pub from_bytes : bytes.now ≡ card
  pub answer : Result ℕ Refused
  pub permits : set-up-reads.Learnt κs (bytes, (places, (t, tt))) (record { answer = answer; table = u })
      (at_exit set-up.ended κs (bytes, (places, (t, tt))) (tt, (tt, (tt, tt))))
  pub tells : a ≡ carded answer

pub card_is : (card : List ℕ) (places : ℕ) (t : Table) (a : Carded) (u : Table) → PermitsCard card places t a u → set_up a u.n u.chips ≡ set_up_of places card t.n t.chips
card_is card places t a u p = (λ j. set_up (p.tells j) u.n u.chips) ∙ p.permits ∙ λ j. set_up_of places (p.from_bytes j) t.n t.chips

-- THEOREM: what it leaves, with images and scratchpads of the sizes asked
pub from_card : (card : List ℕ) (places : ℕ) (t u : Table) (k : ℕ) (ms ss : List ℕ) → PermitsCard card places t (chips k) u
    → SizesAsked (attached u.n u.chips ms ss) → SetUpBy plain card k (attached u.n u.chips ms ss)
from_card card places t u k ms ss p z =
    let e = card_is card places t (chips k) u p in
    set_up_by plain (attached u.n u.chips ms ss) places card t.n t.chips ms ss k tt
    (ap (λ (s : SetUp). attached s.count s.table ms ss) e) (sym (ap (λ (s : SetUp). s.answer) e)) z

-- the chips of a card alone: a set-up of a table without places, which answers the same
nothing_dropped : {A : Type 0} (k : ℕ) → drop {A = A} k [] ≡ []
nothing_dropped zero = refl
nothing_dropped (suc k) = refl

answers_alike : (n : ℕ) (cs : List Chip) (r : Read) → (from_read 0 [] r).answer ≡ (from_read n cs r).answer
answers_alike n cs (all ds) = refl
answers_alike n cs (none r at) = refl

module _ (places : ℕ) (card : List ℕ) (ms ss : List ℕ) (k : ℕ) (h : (set_up_of places card 0 []).answer ≡ chips k) where
  alone : attached k (chips_from card 0 k) ms ss ≡ table_from places card 0 [] ms ss
  alone =
      let s = sets_up places card 0 [] k h in
      let t : (set_up_of places card 0 []).table ≡ chips_from card 0 k = s.table ∙ ap (λ (ds : List Chip). chips_from card 0 k ++ ds) (nothing_dropped k) ∙ append-nil (chips_from card 0 k) in
      λ j. attached (sym s.count j) (sym t j) ms ss

-- `lent::set_up`, over a slice of places; the caller then lends those that are filled
pub record PermitsCardLent (card : List ℕ) (cs : List Chip) (a : Carded) (ds : List Chip) : Type 2 where
  pub world : World
  pub κs : Lfts 2
  pub bytes : Bor (List ℕ)
  pub places : MutBor (List Chip)
  pub from_bytes : bytes.now ≡ card
  pub from_places : places.now ≡ cs
  pub ghost : (lent_set_up.clauses world.𝓛 world.memory world.routines κs (bytes, (places, tt))).ghost
  pub answer : Result ℕ Refused
  pub permits : Learnt world
      ((lent_set_up.clauses world.𝓛 world.memory world.routines κs (bytes, (places, tt))).ensures ghost answer
      (at_exit lent_set_up.ended κs (bytes, (places, tt)) (tt, (ds, tt))))
  pub tells : a ≡ carded answer

pub card_is_lent : (card : List ℕ) (cs : List Chip) (a : Carded) (ds : List Chip) → PermitsCardLent card cs a ds
    → (a ≡ (set_up_of (length cs) card 0 cs).answer) × (ds ≡ (set_up_of (length cs) card 0 cs).table)
card_is_lent card cs a ds p =
    let o = p.permits _ (id⊢ p.world.𝓤 _) in
    let here : List ℕ → List Chip → SetUp = λ (s : List ℕ) (x : List Chip). set_up_of (length x) s 0 x in
    (p.tells ∙ o.0 ∙ (λ j. (here (p.from_bytes j) (p.from_places j)).answer), o.1 ∙ λ j. (here (p.from_bytes j) (p.from_places j)).table)

pub from_card_lent : (card : List ℕ) (cs ds : List Chip) (k : ℕ) (ms ss : List ℕ) → PermitsCardLent card cs (chips k) ds
    → SizesAsked (of_lent (lent (take k ds) ms ss)) → SetUpBy slice card k (lent (take k ds) ms ss)
unfolding set_up_of
from_card_lent card cs ds k ms ss p z =
    let o = card_is_lent card cs (chips k) ds p in
    let a : (set_up_of (length cs) card 0 cs).answer ≡ chips k = sym o.0 in
    let b = o.1 in
    let s = sets_up (length cs) card 0 cs k a in
    let c : take k ds ≡ chips_from card 0 k = ap (take k) (b ∙ s.table) ∙ take_at (chips_from card 0 k) (drop k cs) k (length_chips_from card 0 k) in
    let n : length (take k ds) ≡ k = ap length c ∙ length_chips_from card 0 k in
    let h = answers_alike 0 cs (read_from (capped (length cs)) card 0) ∙ a in
    set_up_by slice (lent (take k ds) ms ss) (length cs) card 0 [] ms ss k tt ((λ j. attached (n j) (c j) ms ss) ∙ alone (length cs) card ms ss k h) h z

-- `tk_card`; what stood in the offset does not matter
pub record PermitsCardInC (card bs : List ℕ) (a : ℤ) (ds : List ℕ) (at : ℕ) : Type 2 where
  pub κs : Lfts 3
  pub bytes : Bor (List ℕ)
  pub table : MutBor (List ℕ)
  pub offset : MutBor ℕ
  pub from_bytes : bytes.now ≡ card
  pub from_table : table.now ≡ bs
  pub permits : tk-card-reads.Learnt κs (bytes, (table, (offset, tt))) a (at_exit tk-card.ended κs (bytes, (table, (offset, tt))) (tt, (ds, (at, tt))))

pub card_is_c : (card bs : List ℕ) (a : ℤ) (ds : List ℕ) (at : ℕ) → PermitsCardInC card bs a ds at → card_left a ds at ≡ card_bytes card bs
card_is_c card bs a ds at p = p.permits ∙ λ j. card_bytes (p.from_bytes j) (p.from_table j)

-- the first k records of the bytes that it leaves
abbrev pub records_of : ℕ → List ℕ → List ℕ → List ℕ → LentBytes
records_of k ds ms ss = record { table = take (record_size * k) ds; images = ms; pads = ss }

pub from_card_c : (card bs ds : List ℕ) (at k : ℕ) (ms ss : List ℕ) → PermitsCardInC card bs (pos k) ds at
    → SizesAsked (of_lent (unpacked_lent (records_of k ds ms ss))) → SetUpBy in_c card k (records_of k ds ms ss)
unfolding set_up_of card_bytes
from_card_c card bs ds at k ms ss p z = by (read_from (capped places) card 0) refl (card_is_c card bs (pos k) ds at p)
  where
    places : ℕ
    places = length bs / record_size

    by : (r : Read) → read_from (capped places) card 0 ≡ r → card_left (pos k) ds at ≡ card_from bs r → SetUpBy in_c card k (records_of k ds ms ss)
    by (none zero q) e f = absurd (let n = ((card_refused (capped places) card zero q).0 e).real in omega arith)
    by (none (suc r) q) e f = absurd (not_below k r (ap (λ (x : CardLeft). x.answer) f))
    by (all cs) e f =
        let m : length cs ≡ k = same (length cs) k (sym (ap (λ (x : CardLeft). x.answer) f)) in
        let h : (set_up_of places card 0 []).answer ≡ chips k = ap (λ (r : Read). (from_read 0 [] r).answer) e ∙ ap chips m in
        let s = sets_up places card 0 [] k h in
        let c : cs ≡ chips_from card 0 k = sym (append-nil cs) ∙ sym (ap (λ (ds : List Chip). cs ++ ds) (nothing_dropped (length cs))) ∙ sym (ap (λ (r : Read). (from_read 0 [] r).table) e) ∙ s.table
        ∙ ap (λ (ds : List Chip). chips_from card 0 k ++ ds) (nothing_dropped k) ∙ append-nil (chips_from card 0 k) in
        let l : length (packed_table cs) ≡ record_size * k = table_length cs ∙ ap (λ (i : ℕ). record_size * i) m in
        let t : take (record_size * k) ds ≡ packed_table cs
        = ap (take (record_size * k)) (ap (λ (x : CardLeft). x.table) f) ∙ take_at (packed_table cs) _ (record_size * k) l in
        let u : unpacked_table (take (record_size * k) ds) ≡ chips_from card 0 k = ap unpacked_table t ∙ unpacked-table cs ∙ c in
        let q : length (unpacked_table (take (record_size * k) ds)) ≡ k = ap length u ∙ length_chips_from card 0 k in
        set_up_by in_c (records_of k ds ms ss) places card 0 [] ms ss k (ap is_table t ∙ (of_table _ cs refl).0) ((λ j. attached (q j) (u j) ms ss) ∙ alone places card ms ss k h) h z
      where
        same : (x y : ℕ) → pos x ≡ pos y → x ≡ y
        same x y w = cc
