-- The input at hand: bytes that were read and not taken yet, at the start of a buffer.
use Rattle.std.specs.Prelude.{ℕ, ◌-◌, ◌≤◌, ◌≡◌, min, nat_lt, true, List, ◌++◌, length, take, drop}
use Rattle.console.specs.declared.input.Hand.{Hand}
use Rattle.console.specs.Counting.{counted_on}

-- `&bytes[..n]` is within the bytes, and has n of them
abbrev pub IsPrefixLen : ℕ → List ℕ → Type 0
IsPrefixLen n bytes = (n ≤ length bytes) × (n ≡ length (take n bytes))

-- nothing yet: no byte, at the beginning, and more may come
abbrev pub nothing_yet : Hand
nothing_yet = record { bytes = 0; offset = 0; more = true }

-- what is at hand after a read: what was there and so many bytes more, in their buffer; none is the end of the input, or a full buffer
abbrev pub HasFetched : Hand → List ℕ → Hand → Type 0
HasFetched h bytes n =
    let held = min h.bytes (length bytes) in
    (held ≤ n.bytes) × IsPrefixLen n.bytes bytes × (n.offset ≡ h.offset) × (n.more ≡ nat_lt held n.bytes)

-- what is at hand, with the buffer in which it stands
pub record Holding : Type 0 where
  pub hand : Hand
  pub buffer : List ℕ

abbrev pub holding : Hand → List ℕ → Holding
holding h bs = record { hand = h; buffer = bs }

-- so many bytes from an offset on, moved to the start of their buffer; the places after them stay
unfoldable pub moved_down : ℕ → ℕ → List ℕ → List ℕ
moved_down at n bs = take n (drop at bs) ++ drop n bs

-- what is at hand after so many bytes were taken: as many fewer, moved to the start, and the offset as much further on
unfoldable pub taken_of : Hand → ℕ → List ℕ → Holding
taken_of h at bs =
    let left = min h.bytes (length bs) - at in
    holding (record { bytes = left; offset = counted_on h.offset at; more = h.more }) (moved_down at left bs)
