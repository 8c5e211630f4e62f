-- Laws: a line whose chips each send bits of their own, whatever the values of the slots; what a host reads on it.
use Rattle.std.specs.Prelude.{ℕ, zero, suc, Bool, true, List, [], ◌∷◌, ◌++◌, map, ◌≡◌, refl, length}
use Rattle.std.proofs.Common.{append-nil, ◌∙◌, ap, ap₂, sym, subst}
use Rattle.std.proofs.Math.Seq.{append_snoc}
use Rattle.base.specs.Bits.{both, filled}
use Rattle.chip.specs.Chip.{Whole, takes_of, sends_of}
use Rattle.search.specs.Host.{Host, Played, more, heard, play}
use Rattle.search.specs.Counts.{play_bind}
use Rattle.histories.specs.Histories.{stored_in, stores_of, line_wire}
use Rattle.recovery.specs.Filled.{filled_by}
use Rattle.commands.specs.Streams.{then_ones, Streams}
use Rattle.listing.specs.Slots.{sent, taken, read_played}
use Rattle.rounds.specs.Host.{read_bits, read_bytes}

-- ---- one chip

-- the first bit to be sent, and those after it
abbrev pub first_bit : List Bool → Bool
first_bit [] = true
first_bit (b ∷ bits) = b

abbrev pub other_bits : List Bool → List Bool
other_bits [] = []
other_bits (b ∷ bits) = bits

then_first : (n : ℕ) (bits : List Bool) → then_ones (suc n) bits ≡ first_bit bits ∷ then_ones n (other_bits bits)
then_first n [] = refl
then_first n (b ∷ bits) = refl

module _ (bits : List Bool) (w : Whole) (s : Streams bits w) where
  first_sent : sends_of w ≡ first_bit bits
  first_sent = ap first_bit (s.sends (true ∷ []) ∙ then_first 0 bits)

  -- a slot leaves code, kind and memory
  slot_stays : (v : Bool) → stored_in (takes_of v w) ≡ stored_in w
  slot_stays v = ap stored_in (s.stays (v ∷ []))

  -- and the chip goes on with the other bits
  streams_on : (v : Bool) → Streams (other_bits bits) (takes_of v w)
  streams_on v = record {
    sends = λ vs. ap other_bits (s.sends (v ∷ vs) ∙ then_first (length vs) bits);
    stays = λ vs. s.stays (v ∷ vs) ∙ sym (s.stays (v ∷ []));
  }

-- ---- a line

-- each chip of a line sends bits of its own
pub data Streaming : List (List Bool) → List Whole → Type 0 where
  nobody : Streaming [] []
  also : {bits : List Bool} {w : Whole} {rows : List (List Bool)} {L : List Whole} → Streams bits w → Streaming rows L → Streaming (bits ∷ rows) (w ∷ L)

-- the AND of the first bits
abbrev pub first_and : List (List Bool) → Bool
first_and [] = true
first_and (bits ∷ rows) = both (first_bit bits) (first_and rows)

-- the AND of the bits of n slots
abbrev pub and_rows : ℕ → List (List Bool) → List Bool
and_rows zero rows = []
and_rows (suc n) rows = first_and rows ∷ and_rows n (map other_bits rows)

-- the bits that are left after n slots
abbrev pub rest_rows : ℕ → List (List Bool) → List (List Bool)
rest_rows zero rows = rows
rest_rows (suc n) rows = rest_rows n (map other_bits rows)

line_sends : {rows : List (List Bool)} {L : List Whole} → Streaming rows L → sent L ≡ first_and rows
unfolding sent
line_sends nobody = refl
line_sends (also {bits} {w} s r) = ap₂ both (first_sent bits w s) (line_sends r)

line_on : {rows : List (List Bool)} {L : List Whole} (v : Bool) → Streaming rows L → Streaming (map other_bits rows) (taken v L)
line_on v nobody = nobody
line_on v (also {bits} {w} s r) = also (streams_on bits w s v) (line_on v r)

line_stays : {rows : List (List Bool)} {L : List Whole} (v : Bool) → Streaming rows L → stores_of (taken v L) ≡ stores_of L
line_stays v nobody = refl
line_stays v (also {bits} {w} s r) = ap₂ ◌∷◌ (slot_stays bits w s v) (line_stays v r)

-- what a host came to that read on such a line
pub record Reads (A : Type 0) (a : A) (rows : List (List Bool)) (L : List Whole) (p : Played A (List Whole)) : Type 0 where
  pub result : p.result ≡ a
  pub left : Streaming rows p.line
  pub stores : stores_of p.line ≡ stores_of L

-- n bits
bits-read : (n x : ℕ) (rows : List (List Bool)) (L : List Whole) → Streaming rows L → Reads ℕ (filled_by 0x80 x (and_rows n rows)) (rest_rows n rows) L (play line_wire (read_bits n x) L)
unfolding play read_bits
bits-read zero x rows L s = record { result = refl; left = s; stores = refl }
bits-read (suc n) x rows L s =
    let v = first_and rows in
    let r = bits-read n (filled 0x80 x v) (map other_bits rows) (taken v L) (line_on v s) in
    let e = read_played v (λ a. read_bits n (filled 0x80 x (heard a))) L (line_sends s) in
    record {
      result = ap (λ (p : Played ℕ (List Whole)). p.result) e ∙ r.result;
      left = subst (λ (p : Played ℕ (List Whole)). Streaming (rest_rows n (map other_bits rows)) p.line) (sym e) r.left;
      stores = ap (λ (p : Played ℕ (List Whole)). stores_of p.line) e ∙ r.stores ∙ line_stays v s;
    }

-- the bytes that n times eight slots show, and the bits that are left after them
abbrev pub byte_rows : ℕ → List (List Bool) → List ℕ
byte_rows zero rows = []
byte_rows (suc n) rows = filled_by 0x80 0 (and_rows 8 rows) ∷ byte_rows n (rest_rows 8 rows)

abbrev pub after_bytes : ℕ → List (List Bool) → List (List Bool)
after_bytes zero rows = rows
after_bytes (suc n) rows = after_bytes n (rest_rows 8 rows)

-- n bytes
pub bytes-read : (n : ℕ) (out : List ℕ) (rows : List (List Bool)) (L : List Whole) → Streaming rows L
    → Reads (List ℕ) (out ++ byte_rows n rows) (after_bytes n rows) L (play line_wire (read_bytes n out) L)
unfolding play read_bytes
bytes-read zero out rows L s = record { result = sym (append-nil out); left = s; stores = refl }
bytes-read (suc n) out rows L s =
    let b = bits-read 8 0 rows L s in
    let x = filled_by 0x80 0 (and_rows 8 rows) in
    let g : ℕ → Host (List ℕ) = λ (y : ℕ). read_bytes n (out ++ (y ∷ [])) in
    let p = play line_wire (read_bits 8 0) L in
    let r = bytes-read n (out ++ (x ∷ [])) (rest_rows 8 rows) p.line b.left in
    let e : play line_wire (read_bytes (suc n) out) L ≡ more p.resets p.slots (play line_wire (g x) p.line)
    = play_bind line_wire (read_bits 8 0) g L ∙ ap (λ (y : ℕ). more p.resets p.slots (play line_wire (g y) p.line)) b.result in
    record {
      result = ap (λ (q : Played (List ℕ) (List Whole)). q.result) e ∙ r.result ∙ append_snoc out x (byte_rows n (rest_rows 8 rows));
      left = subst (λ (q : Played (List ℕ) (List Whole)). Streaming (after_bytes n (rest_rows 8 rows)) q.line) (sym e) r.left;
      stores = ap (λ (q : Played (List ℕ) (List Whole)). stores_of q.line) e ∙ r.stores ∙ b.stores;
    }
