-- A run of slots written as a record of kind 16: "a 2-byte count, then host bits packed least significant first, unused bits 0"; and what
-- its bytes are read as.
use Rattle.std.specs.Prelude.{ℕ, ◌+◌, ◌-◌, ◌*◌, ◌/◌, ◌%◌, ◌≤◌, Bool, true, List, [], ◌∷◌, ◌++◌, ◌≡◌, eqb, ltb, leb, length, take, drop, Ok, Err}
use Rattle.std.proofs.Common.{arith, ◌∙◌, sym, length-append, take_at, eq-eqb, le-ltb, le-leb}
use Rattle.std.proofs.Math.Path.{refl, ap}
use Rattle.std.proofs.lemmas.Bool.{lt-leb}
use Rattle.base.specs.Pick.{pick, pick_true, pick_false}
use Rattle.base.specs.Bits.{both}
use Rattle.line.specs.Slots.{bytes_asked}
use Rattle.records.specs.Records.{head_at, head-by}
use Rattle.records.specs.declared.Head.TheVariants as head
use Rattle.recording.specs.Reading.{is_event, length_asked, unused_clear, slots_record, event_record, whole_record, found_by, found_at, starts_event, event_head}
use Rattle.recording.specs.Unpacked.{unused-clear, bytes_length}
use Rattle.recording.specs.declared.Fault.TheVariants.{UnusedBits}
use Rattle.recording.specs.declared.Record.TheVariants as record_of
use Rattle.recording.specs.declared.Found.TheVariants as found
use Rattle.played.specs.Packing.{packed}

-- a number of two bytes, little-endian
abbrev pair_bytes : ℕ → List ℕ
pair_bytes n = n % 256 ∷ n / 256 ∷ []

-- the record: its length, its kind, its count, and the bits
abbrev pub slots_bytes : List Bool → List ℕ
slots_bytes hs = pair_bytes (4 + bytes_asked (length hs)) ++ (pair_bytes 16 ++ (pair_bytes (length hs) ++ packed hs))

-- how many bytes it has
abbrev pub slots_size : List Bool → ℕ
slots_size hs = 6 + bytes_asked (length hs)

-- it has as many bytes
pub written_length : (hs : List Bool) → length (slots_bytes hs) ≡ slots_size hs
written_length hs = let e = bytes_length (bytes_asked (length hs)) hs in omega arith

module _ (hs : List Bool) (few : length hs ≤ 65535) (later : List ℕ) where
  -- the record, and what comes after it
  abbrev whole : List ℕ
  whole = slots_bytes hs ++ later

  -- its count, and its head
  count_back : length hs % 256 + 256 * (length hs / 256) ≡ length hs
  count_back = omega arith

  head_written : head_at whole 0 ≡ head.Whole (4 + bytes_asked (length hs)) 16 4 (slots_size hs)
  head_written =
      let size = 4 + bytes_asked (length hs) in
      let l = bytes_length (bytes_asked (length hs)) hs in
      let m = length-append (packed hs) later in
      let next : 0 + (size + 2) ≡ slots_size hs = omega arith in
      let e : size ≡ size % 256 + 256 * (size / 256) = omega arith in
      sym (head-by whole 0 size 16 (head.Whole size 16 4 (slots_size hs)) e refl
      (sym (pick_false (leb (length whole) 0) _ _ (lt-leb (length whole) 0 (omega arith))
      ∙ pick_false (ltb (length whole - 0) 4) _ _ (le-ltb (length whole - 0) 4 (omega arith))
      ∙ pick_true (leb (size + 2) (length whole - 0)) _ _ (le-leb (size + 2) (length whole - 0) (omega arith))
      ∙ ap (head.Whole size 16 4) next)))

  -- the bytes of its bits
  pub bits_written : take (slots_size hs - 6) (drop 6 whole) ≡ packed hs
  bits_written =
      let e : bytes_asked (length hs) ≡ slots_size hs - 6 = omega arith in
      take_at (packed hs) later (slots_size hs - 6) (bytes_length (bytes_asked (length hs)) hs ∙ e)

  -- it is a run of as many slots
  slots_written : slots_record whole 4 (slots_size hs) ≡ Ok (found.Record (record_of.Slots (length hs) 6 (slots_size hs)) (slots_size hs))
  unfolding slots_record
  slots_written =
      ap (λ (n : ℕ). pick (unused_clear n (take (slots_size hs - 6) (drop 6 whole))) (Ok (found.Record (record_of.Slots n 6 (slots_size hs)) (slots_size hs))) (Err UnusedBits)) count_back
      ∙ pick_true _ _ _ (ap (unused_clear (length hs)) bits_written ∙ unused-clear (bytes_asked (length hs)) hs (omega arith))

  event_written : event_record whole (4 + bytes_asked (length hs)) 16 4 (slots_size hs) ≡ Ok (found.Record (record_of.Slots (length hs) 6 (slots_size hs)) (slots_size hs))
  unfolding event_record length_asked
  event_written =
      pick_true _ _ _ (eq-eqb _ _ (sym (pick_true (eqb 16 16) _ _ refl ∙ ap (λ (n : ℕ). 4 + bytes_asked n) count_back)))
      ∙ pick_true (eqb 16 16) _ _ refl ∙ slots_written

  -- at the beginning of the bytes stands the record, whatever comes after it
  pub found_written : (room : ℕ) (over more : Bool) → found_at whole 0 room over more ≡ Ok (found.Record (record_of.Slots (length hs) 6 (slots_size hs)) (slots_size hs))
  unfolding found_at whole_record is_event both
  found_written room over more =
      ap (found_by whole 0 room over more) head_written
      ∙ pick_true _ _ _ (pick_true (leb 16 16) _ _ refl) ∙ event_written

  -- it ends a card
  pub starts_written : starts_event whole 0 ≡ true
  unfolding starts_event is_event both
  starts_written = ap event_head head_written ∙ pick_true (leb 16 16) _ _ refl
