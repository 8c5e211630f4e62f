-- Laws: what the head of a record shows of the recording, and what a match on what was read comes to.
use Rattle.std.specs.Prelude.{ℕ, ◌+◌, ◌-◌, ◌≤◌, Bool, List, ◌≡◌, refl, eqb, ltb, leb, length, Option, Result}
use Rattle.std.proofs.Common.{arith, subst, eq-eqb, leb-true, leb-false, ltb-false}
use Rattle.base.specs.Along.{along}
use Rattle.base.specs.Pick.{pick, pick_true, pick_if, pick_both}
use Rattle.line.specs.Slots.{bytes_asked}
use Rattle.records.specs.Numbers.{number_at}
use Rattle.records.specs.Records.{head_at}
use Rattle.records.specs.declared.Head.{Head}
use Rattle.records.specs.declared.Head.TheVariants as head
use Rattle.card.specs.declared.Entry.{Entry}
use Rattle.card.specs.declared.Fault.{Fault as CardFault}
use Rattle.recording.specs.declared.Fault.{Fault}
use Rattle.recording.specs.Reading.{length_asked, card_record, found_by, event_head}
use Rattle.recording.specs.declared.Found.{Found}

-- where a head lies: it is there up to the kind, and the body of a whole record lies between it and the next
abbrev HeadLies : List ℕ → ℕ → Head → Type 0
HeadLies s at head.End = Unit
HeadLies s at head.Short = Unit
HeadLies s at (head.Cut size kind) = at + 4 ≤ length s
HeadLies s at (head.Whole size kind body next) = (body ≡ at + 4) × (next ≡ at + (size + 2)) × (next ≤ length s)

-- the head at each offset lies so
head_lies : (s : List ℕ) (at : ℕ) → HeadLies s at (head_at s at)
unfolding head_at
head_lies s at =
    pick_if (HeadLies s at) (leb (length s) at) head.End _ (λ a. tt) (λ a.
    let h = leb-false (length s) at a in
    pick_if (HeadLies s at) (ltb (length s - at) 4) head.Short _ (λ b. tt) (λ b.
    let k = ltb-false (length s - at) 4 b in
    pick_if (HeadLies s at) (leb (number_at s at 2 + 2) (length s - at)) (head.Whole (number_at s at 2) (number_at s (at + 2) 2) (at + 4) (at + (number_at s at 2 + 2))) _
    (λ e. let l = leb-true (number_at s at 2 + 2) (length s - at) e in (refl, refl, omega arith))
    (λ e. omega arith)))

module _ (s : List ℕ) (at size kind : ℕ) where
  -- of a record that is cut off
  pub cut_lies : head_at s at ≡ head.Cut size kind → at + 4 ≤ length s
  cut_lies e = subst (HeadLies s at) e (head_lies s at)

  -- of a whole record
  pub whole_lies : (body next : ℕ) → head_at s at ≡ head.Whole size kind body next → (body ≡ at + 4) × (next ≡ at + (size + 2)) × (next ≤ length s)
  whole_lies body next e = subst (HeadLies s at) e (head_lies s at)

-- the length of a run of slots: its kind, its count, and what that asks
pub slots_asked : (s : List ℕ) (body kind : ℕ) → kind ≡ 16 → length_asked s body kind ≡ 4 + bytes_asked (number_at s body 2)
unfolding length_asked
slots_asked s body kind e = pick_true (eqb kind 16) (4 + bytes_asked (number_at s body 2)) (pick (eqb kind 19) 4 2) (eq-eqb kind 16 e)

-- each length asked counts the kind
pub kind_counted : (s : List ℕ) (body kind : ℕ) → 2 ≤ length_asked s body kind
unfolding length_asked
kind_counted s body kind =
    pick_both (λ (n : ℕ). 2 ≤ n) (eqb kind 16) (4 + bytes_asked (number_at s body 2)) (pick (eqb kind 19) 4 2) (omega arith)
    (pick_both (λ (n : ℕ). 2 ≤ n) (eqb kind 19) 4 2 (omega arith) (omega arith))

-- what stands at an offset, by the head that a match found there
pub found-at : (s : List ℕ) (at room : ℕ) (over more : Bool) (q p : Head) (r : Result Found Fault) → q ≡ p → r ≡ found_by s at room over more p → r ≡ found_by s at room over more q
found-at s at room over more = along (λ (k : Head). found_by s at room over more k)

-- whether a record of one of kinds 16 to 19 starts there, likewise
pub event_at : (q p : Head) (r : Bool) → q ≡ p → r ≡ event_head p → r ≡ event_head q
event_at = along (λ (k : Head). event_head k)

-- a card record, by what the card makes of it
pub card_at : (over : Bool) (q p : Result (Option Entry) CardFault) (r : Result Found Fault) → q ≡ p → r ≡ card_record over p → r ≡ card_record over q
card_at over = along (λ (k : Result (Option Entry) CardFault). card_record over k)
