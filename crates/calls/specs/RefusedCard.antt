-- "chips taken so far are dropped, table unchanged": of a call that a card refuses, by the contract, in each form.
use Rattle.std.specs.Prelude.{ℕ, suc, List, ◌≡◌, negsuc}
use Rattle.std.proofs.Common.{arith, ◌∙◌, ap, sym}
use Rattle.chip.specs.declared.Chip.{Chip}
use Rattle.line.specs.declared.Table.{Table}
use Rattle.card.specs.Card.{refused, SetUp}
use Rattle.toemsakun.specs.Library.{CardLeft}
use Rattle.refusals.specs.Reading.{refused_card_leaves}
use Rattle.agreement.specs.RefusedCard.{refused_card_leaves_lent, refused_card_leaves_c}
use Rattle.calls.specs.FromCard.{PermitsCard, PermitsCardLent, PermitsCardInC, card_is, card_is_lent, card_is_c}

-- THEOREM: `card::set_up`, refused by r at p, leaves the number of chips and every place
pub refused_card : (card : List ℕ) (places : ℕ) (t : Table) (r p : ℕ) (u : Table) → PermitsCard card places t (refused r p) u → u ≡ t
refused_card card places t r p u c =
    let e = card_is card places t (refused r p) u c in
    let f = e ∙ refused_card_leaves places card t.n t.chips r p (sym (ap (λ (s : SetUp). s.answer) e)) in
    λ j. record { n = (f j).count; chips = (f j).table }

-- THEOREM: `lent::set_up`, every place of the slice
pub refused_card_lent : (card : List ℕ) (cs : List Chip) (r p : ℕ) (ds : List Chip) → PermitsCardLent card cs (refused r p) ds → ds ≡ cs
refused_card_lent card cs r p ds c =
    let e = card_is_lent card cs (refused r p) ds c in
    refused_card_leaves_lent card cs ds c.answer r p (sym c.tells ∙ e.0, e.1) (sym c.tells)

-- THEOREM: `tk_card` that answers a number below 0, every byte of the table
pub refused_card_c : (card bs : List ℕ) (n : ℕ) (ds : List ℕ) (at : ℕ) → PermitsCardInC card bs (negsuc n) ds at → ds ≡ bs
refused_card_c card bs n ds at c =
    let e = card_is_c card bs (negsuc n) ds at c in
    ap (λ (x : CardLeft). x.table) e ∙ refused_card_leaves_c card bs (suc n) (omega arith) (sym (ap (λ (x : CardLeft). x.answer) e))
