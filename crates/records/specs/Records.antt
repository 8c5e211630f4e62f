-- Document 01, "Card and list program": "A card is a run of records: length (2 bytes, little-endian, counting what follows it),
-- kind (2 bytes)", and a body. The head of a record, whatever its kind.
use Rattle.std.specs.Prelude.{ℕ, ◌+◌, ◌-◌, List, ◌≡◌, ltb, leb, length}
use Rattle.std.proofs.Common.{◌∙◌}
use Rattle.base.specs.Pick.{pick}
use Rattle.records.specs.Numbers.{number_at}
use Rattle.records.specs.declared.Head.{Head}
use Rattle.records.specs.declared.Head.TheVariants.{End, Short, Cut, Whole}

-- what starts at an offset, by a length and a kind: no record; fewer than 4 bytes; a record whose length runs past the end; a
-- whole one, with the offsets of its body and of the next
abbrev head_by : List ℕ → ℕ → ℕ → ℕ → Head
head_by s at size kind =
    pick (leb (length s) at) End
    (pick (ltb (length s - at) 4) Short
    (pick (leb (size + 2) (length s - at)) (Whole size kind (at + 4) (at + (size + 2)))
    (Cut size kind)))

-- the record that starts at an offset
unfoldable pub head_at : List ℕ → ℕ → Head
head_at s at = head_by s at (number_at s at 2) (number_at s (at + 2) 2)

-- that record, by a length and a kind that were read
pub head-by : (s : List ℕ) (at size kind : ℕ) (r : Head) → size ≡ number_at s at 2 → kind ≡ number_at s (at + 2) 2 → r ≡ head_by s at size kind → r ≡ head_at s at
unfolding head_at
head-by s at size kind r e f h = h ∙ (λ j. head_by s at (e j) (f j))
