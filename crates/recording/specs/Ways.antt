-- Laws: what holds of everything that can stand at an offset holds of what stands there.
use Rattle.std.specs.Prelude.{ℕ, ◌+◌, ◌-◌, ◌<◌, ◌≤◌, Bool, List, ◌≡◌, length, take, drop, Option, Result, Ok, Err}
use Rattle.std.proofs.Common.{arith, ◌∙◌}
use Rattle.std.proofs.Math.Bool.{true, false}
use borrow.Author.Tests.{eqb-true, ltb-true}
use Rattle.base.specs.Pick.{pick, pick_if, pick_both}
use Rattle.chip.specs.Kinds.{known_kind}
use Rattle.line.specs.Slots.{bytes_asked}
use Rattle.records.specs.Numbers.{number_at}
use Rattle.card.specs.Card.{whole_entry, entry_length}
use Rattle.card.specs.declared.Entry.{Entry}
use Rattle.card.specs.declared.Fault.{Fault as CardFault}
use Rattle.recording.specs.Reading.{is_event, length_asked, cut_off, may_be_right, cut_record, chip_record, card_record, unused_clear, slots_record, event_in, event_record, at_end, found_at}
use Rattle.recording.specs.Heads.{slots_asked}
use Rattle.recording.specs.There.{size_at, kind_at, next_at, There, nothing, few, head, all, there, found_end, found_short, found_cut, found_whole}
use Rattle.card.specs.declared.Fault.TheVariants as on_card
use Rattle.recording.specs.declared.Fault.{Fault}
use Rattle.recording.specs.declared.Fault.TheVariants as fault
use Rattle.recording.specs.declared.Record.TheVariants as record_of
use Rattle.recording.specs.declared.Found.{Found}
use Rattle.recording.specs.declared.Found.TheVariants as found

-- why more of a record is awaited: its length and kind are not there; it may still be right, of kinds 16 to 19 or of the card
pub data Awaited (s : List ℕ) (at : ℕ) : Type 0 where
  of_head : length s < at + 4 → Awaited s at
  of-event : length s < next_at s at → may_be_right s at (size_at s at) (kind_at s at) ≡ true → Awaited s at
  of-card : length s < next_at s at → size_at s at ≡ entry_length → Awaited s at

-- a whole record is there, which is one of kinds 16 to 19 or not
pub record IsWhole (s : List ℕ) (at : ℕ) (event : Bool) : Type 0 where
  pub headed : at + 4 ≤ length s
  pub within : next_at s at ≤ length s
  pub sort : is_event (kind_at s at) ≡ event

-- the chip, the run of slots and the other event that stand there
abbrev pub chip_at : List ℕ → ℕ → Result Found Fault
chip_at s at = Ok (found.Record (record_of.Chip (number_at s (at + 4) 8) (kind_at s at)) (next_at s at))

abbrev pub slots_at : List ℕ → ℕ → Result Found Fault
slots_at s at = Ok (found.Record (record_of.Slots (number_at s (at + 4) 2) (at + 4 + 2) (next_at s at)) (next_at s at))

abbrev pub other_at : List ℕ → ℕ → Result Found Fault
other_at s at = Ok (found.Record (record_of.Event (event_in s (at + 4) (kind_at s at))) (next_at s at))

-- and the bytes of the run
abbrev pub run_at : List ℕ → ℕ → List ℕ
run_at s at = take (next_at s at - (at + 4 + 2)) (drop (at + 4 + 2) s)

module _ (P : Result Found Fault → Type 0) (s : List ℕ) (at room : ℕ) (over more : Bool) where
  module _ (of_end : more ≡ false → P (Ok found.End)) (of_part : Awaited s at → P (Ok found.Part)) (of_refusal : (f : Fault) → P (Err f))
      (of_chip : IsWhole s at false → known_kind (kind_at s at) ≡ true → size_at s at ≡ entry_length → 0 < room → P (chip_at s at))
      (of_slots : IsWhole s at true → kind_at s at ≡ 16 → size_at s at ≡ 4 + bytes_asked (number_at s (at + 4) 2)
      → unused_clear (number_at s (at + 4) 2) (run_at s at) ≡ true → P (slots_at s at))
      (of_other : IsWhole s at true → size_at s at ≡ length_asked s (at + 4) (kind_at s at) → P (other_at s at)) where
    -- a record that is not all there
    cut_has : (right : Bool) → (right ≡ true → Awaited s at) → P (cut_off right more)
    unfolding cut_off
    cut_has right a = pick_if P _ _ _ (λ e. pick_both P _ _ _ (of_part (a e)) (of_refusal (fault.OnCard on_card.WrongLength))) (λ e. of_refusal (fault.OnCard on_card.WrongLength))

    -- a whole record of kinds 16 to 19, and one of the card
    event_has : IsWhole s at true → P (event_record s (size_at s at) (kind_at s at) (at + 4) (next_at s at))
    unfolding event_record slots_record
    event_has w =
        pick_if P _ _ _
        (λ e. let a = eqb-true (size_at s at) (length_asked s (at + 4) (kind_at s at)) e in
        pick_if P _ _ _
        (λ k. let q = eqb-true (kind_at s at) 16 k in
        pick_if P _ _ _ (of_slots w q (a ∙ slots_asked s (at + 4) (kind_at s at) q)) (λ u. of_refusal fault.UnusedBits))
        (λ k. of_other w a))
        (λ e. of_refusal (fault.OnCard on_card.WrongLength))

    card_has : IsWhole s at false → P (card_record over (whole_entry s room (size_at s at) (kind_at s at) (at + 4) (next_at s at)))
    unfolding whole_entry chip_record
    card_has w =
        by_entry _ _ _
        (λ k. by_entry _ _ _
        (λ t. by_entry _ _ _
        (λ r. pick_both P _ _ _ (of_refusal fault.CardAfterEvent) (of_chip w k (eqb-true (size_at s at) entry_length t) (ltb-true 0 room r)))
        (λ r. of_refusal (fault.OnCard on_card.TooMany)))
        (λ t. of_refusal (fault.OnCard on_card.WrongLength)))
        (λ k. of_refusal (fault.OnCard on_card.UnknownKind))
      where
        by_entry : (b : Bool) (x y : Result (Option Entry) CardFault) → (b ≡ true → P (card_record over x)) → (b ≡ false → P (card_record over y)) → P (card_record over (pick b x y))
        by_entry b x y = pick_if (λ (e : Result (Option Entry) CardFault). P (card_record over e)) b x y

    -- whatever is there
    pub found_has : P (found_at s at room over more)
    unfolding at_end cut_record
    found_has = go (there s at)
      where
        go : There s at → P (found_at s at room over more)
        go (nothing h) = rw (found_end s at room over more h) (pick_if P _ _ _ (λ e. of_part (of_head (omega arith))) of_end)
        go (few h g) = rw (found_short s at room over more h g) (cut_has true (λ e. of_head g))
        go (head h g) =
            rw (found_cut s at room over more h g)
            (pick_both P _ _ _ (cut_has _ (of-event g))
            (pick_both P _ _ _ (cut_has _ (λ e. of-card g (eqb-true (size_at s at) entry_length e))) (of_refusal (fault.OnCard on_card.UnknownKind))))
        go (all h g) =
            rw (found_whole s at room over more h g)
            (pick_if P _ _ _ (λ e. event_has (record { headed = h; within = g; sort = e })) (λ e. card_has (record { headed = h; within = g; sort = e })))
