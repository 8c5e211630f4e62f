-- Laws: the answers of the plain forms as numbers, taken at what a match found.
use Rattle.std.specs.Prelude.{ℕ, ◌<◌, ◌≡◌, ℤ, pos, Result, Ok, Err, Bool}
use Rattle.line.specs.declared.Refusal.{Refusal}
use Rattle.std.proofs.Common.{◌∙◌, ap, to_z, of_z, to_z-of_z}
use Rattle.std.specs.Int.Signed.{mag}
use Rattle.std.specs.Int.{w32}
use Rattle.base.specs.Along.{along}
use Rattle.line.specs.Event.{answered}
use Rattle.line.specs.Slots.{slotted}
use Rattle.card.specs.Card.{Carded, chips, refused, carded}
use Rattle.card.specs.declared.Refused.{Refused}
use Rattle.search.specs.Search.{searched, number_in}
use Rattle.search.specs.declared.Fault.{Fault}
use Rattle.toemsakun.specs.Library.{minus, answer_number, slots_number, search_number}

-- what set-up answers that left n chips, and where the record at fault begins
abbrev pub card_number : ℕ → Carded → ℤ
card_number n (chips m) = pos n
card_number n (refused r at) = minus r

abbrev pub card_offset : Carded → ℕ
card_offset (chips m) = 0
card_offset (refused r at) = at

-- how many slots a run put on the line
abbrev pub slots_put : Result ℕ Refusal → ℕ
slots_put (Ok n) = n
slots_put (Err r) = 0

pub slots-at : (q p : Result ℕ Refusal) (r : ℤ) → q ≡ p → r ≡ slots_number (slotted p) → r ≡ slots_number (slotted q)
slots-at = along (λ (k : Result ℕ Refusal). slots_number (slotted k))

pub event_at : (q p : Result Bool Refusal) (r : ℤ) → q ≡ p → r ≡ answer_number (answered p) → r ≡ answer_number (answered q)
event_at = along (λ (k : Result Bool Refusal). answer_number (answered k))

pub search_at : (n : ℕ) (q p : Result (Unit {0}) Fault) (r : ℤ) → q ≡ p → r ≡ search_number n (searched p) → r ≡ search_number n (searched q)
search_at n = along (λ (k : Result (Unit {0}) Fault). search_number n (searched k))

-- a search that was refused, by its number
pub refused_at : (n : ℕ) (q p : Result (Unit {0}) Fault) (r : ℤ) → q ≡ p → minus (number_in (searched p)) ≡ search_number n (searched p) → r ≡ minus (number_in (searched q)) → r ≡ search_number n (searched q)
refused_at n q p r e h k = k ∙ along (λ (a : Result (Unit {0}) Fault). search_number n (searched a)) q p (minus (number_in (searched q))) e (ap (λ (a : Result (Unit {0}) Fault). minus (number_in (searched a))) e ∙ h)

pub card_at : (n : ℕ) (q p : Result ℕ Refused) (r : ℤ) → q ≡ p → r ≡ card_number n (carded p) → r ≡ card_number n (carded q)
card_at n = along (λ (k : Result ℕ Refused). card_number n (carded k))

-- a number that is handed on stays as it is
pub passed : (z : ℤ) → mag z < 2147483648 → to_z w32 (of_z w32 z) ≡ z
passed z h = to_z-of_z {w = w32} {z = z} (record { sfits = h })
