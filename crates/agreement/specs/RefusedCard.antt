-- "chips taken so far are dropped, table unchanged": what a refused card leaves of a lent slice, and of a table of bytes in C, by what set-up comes to;
-- by the contracts themselves it is in the crate `calls`.
use Rattle.std.specs.Prelude.{ℕ, zero, suc, ◌/◌, ◌<◌, List, ◌≡◌, refl, length, Result}
use Rattle.std.proofs.Common.{arith, ◌∙◌, ap, sym}
use Rattle.chip.specs.declared.Chip.{Chip}
use Rattle.line.specs.Layout.{capped}
use Rattle.card.specs.Card.{carded, refused, Read, all, none, read_from, SetUp, set_up_of}
use Rattle.card.specs.declared.Refused.{Refused}
use Rattle.packed.specs.Packed.{record_size}
use Rattle.toemsakun.specs.Library.{minus, card_from, card_bytes}
use Rattle.refusals.specs.Reading.{refused_card_leaves}
use Rattle.agreement.specs.InC.{not_below}

-- an answer and a table as the contract of `lent::set_up` has them, refused by r at p, are with the table as it was
pub refused_card_leaves_lent : (s : List ℕ) (cs ks : List Chip) (a : Result ℕ Refused) (r p : ℕ)
    → (carded a ≡ (set_up_of (length cs) s 0 cs).answer) × (ks ≡ (set_up_of (length cs) s 0 cs).table)
    → carded a ≡ refused r p → ks ≡ cs
refused_card_leaves_lent s cs ks a r p (e, f) h =
    f ∙ ap (λ (u : SetUp). u.table) (refused_card_leaves (length cs) s 0 cs r p (sym e ∙ h))

-- what `tk_card` comes to: a result below 0 leaves every byte of the table as it was
pub refused_card_leaves_c : (card bs : List ℕ) (r : ℕ) → 0 < r → (card_bytes card bs).answer ≡ minus r → (card_bytes card bs).table ≡ bs
unfolding card_bytes
refused_card_leaves_c card bs r h = stays (read_from (capped (length bs / record_size)) card 0) r h
  where
    stays : (x : Read) (r : ℕ) → 0 < r → (card_from bs x).answer ≡ minus r → (card_from bs x).table ≡ bs
    stays (none q at) r k e = refl
    stays (all cs) zero k e = absurd (omega arith)
    stays (all cs) (suc m) k e = absurd (not_below (length cs) m e)
