-- Laws: where two runs of bytes are alike from two offsets on, over a whole record, the same record stands at both.
use Prim.Native.Nat.{ℕ, ◌+◌, ◌-◌, ◌*◌, ◌<◌, ◌≤◌}
use Rattle.std.proofs.Common.{add_assoc, ◌∙◌, ap, sym, length-drop, length-take-le, get_or-take, get_or-drop, ext_get_or}
use Rattle.std.proofs.Math.Nat.{add-zero}
use native.Mathlib.Omega.{arith}
use Rattle.std.specs.Prelude.{Bool, true, false, List, ◌≡◌, eqb, leb, length, drop, get_or, Option, Some, None, Result, Ok, Err}
use Rattle.std.proofs.Math.Path.{refl}
use Rattle.std.proofs.Math.ListN.{take}
use borrow.Author.Tests.{eqb-true, eqb-false, leb-true, leb-false, eq-eqb, ne_eqb}
use Rattle.base.specs.Both.{both_holds}
use Rattle.base.specs.Pick.{pick, pick_true, pick_false, pick_of}
use Rattle.card.specs.Card.{entry_length, taken, whole_entry}
use Rattle.card.specs.declared.Entry.{Entry}
use Rattle.card.specs.declared.Fault.{Fault as CardFault}
use Rattle.line.specs.Events.{outside_event}
use Rattle.line.specs.Slots.{bytes_asked}
use Rattle.records.specs.Numbers.{number_at}
use Rattle.recording.specs.declared.Fault.{Fault}
use Rattle.recording.specs.Reading.{is_event, length_asked, chip_record, card_record, unused_clear, slots_record, event_in, event_record, found_at, starts_event}
use Rattle.recording.specs.There.{size_at, kind_at, next_at, found_whole, starts_by_kind}
use Rattle.recording.specs.declared.Record.{Record}
use Rattle.recording.specs.declared.Record.TheVariants as record_of
use Rattle.recording.specs.declared.Found.{Found}
use Rattle.recording.specs.declared.Found.TheVariants as found
use Rattle.played.specs.Choices.{pick_like, pick_ways}

-- what is found, so many bytes further on
abbrev pub moved_record : ℕ → Record → Record
moved_record k (record_of.Chip code kind) = record_of.Chip code kind
moved_record k (record_of.Slots count from to) = record_of.Slots count (k + from) (k + to)
moved_record k (record_of.Event e) = record_of.Event e

abbrev pub moved : ℕ → Result Found Fault → Result Found Fault
moved k (Ok found.End) = Ok found.End
moved k (Ok found.Part) = Ok found.Part
moved k (Ok (found.Record r next)) = Ok (found.Record (moved_record k r) (k + next))
moved k (Err f) = Err f

-- and a record of a card
abbrev moved_entry : ℕ → Result (Option Entry) CardFault → Result (Option Entry) CardFault
moved_entry k (Ok None) = Ok None
moved_entry k (Ok (Some e)) = taken e.code e.kind (k + e.next)
moved_entry k (Err f) = Err f

-- what it is in a recording
card_moved : (k : ℕ) (over : Bool) (e : Result (Option Entry) CardFault) → card_record over (moved_entry k e) ≡ moved k (card_record over e)
unfolding chip_record
card_moved k over (Ok None) = refl
card_moved k over (Ok (Some e)) = sym (pick_of (moved k) over _ _)
card_moved k over (Err f) = refl

-- the n bytes from the offset to on are those from the offset at on
abbrev pub Alike : List ℕ → ℕ → List ℕ → ℕ → ℕ → Type 0
Alike s at z to n = (i : ℕ) → i < n → get_or z (to + i) 0 ≡ get_or s (at + i) 0

module _ (s : List ℕ) (at : ℕ) (z : List ℕ) (to n : ℕ) (f : Alike s at z to n) where
  -- from a byte further on
  pub alike_on : (j m : ℕ) → j + m ≤ n → Alike s (at + j) z (to + j) m
  alike_on j m h i l =
      ap (λ (x : ℕ). get_or z x 0) (add_assoc to j i) ∙ f (j + i) (omega arith) ∙ ap (λ (x : ℕ). get_or s x 0) (sym (add_assoc at j i))

  -- the numbers there
  pub number_2 : 2 ≤ n → number_at z to 2 ≡ number_at s at 2
  number_2 h = λ j. f 0 (omega arith) j + 256 * f 1 (omega arith) j

  number_8 : 8 ≤ n → number_at z to 8 ≡ number_at s at 8
  number_8 h = λ j. f 0 (omega arith) j + 256 * (f 1 (omega arith) j + 256 * (f 2 (omega arith) j + 256 * (f 3 (omega arith) j + 256 * (f 4 (omega arith) j + 256 * (f 5 (omega arith) j + 256 * (f 6 (omega arith) j + 256 * f 7 (omega arith) j))))))

  -- the bytes there
  bytes_alike : at + n ≤ length s → to + n ≤ length z → take n (drop to z) ≡ take n (drop at s)
  bytes_alike h l =
      let p : length (take n (drop to z)) ≡ n = length-take-le n (drop to z) (rw (length-drop to z) (omega arith)) in
      let q : length (take n (drop at s)) ≡ n = length-take-le n (drop at s) (rw (length-drop at s) (omega arith)) in
      ext_get_or 0 _ _ (p ∙ sym q) (λ i g.
      let b : i < n = omega arith in
      get_or-take n (drop to z) i 0 b ∙ get_or-drop to z i 0 ∙ f i b ∙ sym (get_or-drop at s i 0) ∙ sym (get_or-take n (drop at s) i 0 b))

-- a whole record of size + 2 bytes at an offset, and k bytes further on in other bytes
module _ (s z : List ℕ) (k at size : ℕ) (f : Alike s at z (k + at) (size + 2)) (h : at + (size + 2) ≤ length s) (l : k + at + (size + 2) ≤ length z) where
  -- the count of a run
  count_alike : 4 ≤ size → number_at z (k + at + 4) 2 ≡ number_at s (at + 4) 2
  count_alike b = number_2 s (at + 4) z (k + at + 4) 2 (alike_on s at z (k + at) (size + 2) f 4 2 (omega arith)) (omega arith)

  -- the run
  slots_alike : 4 ≤ size → slots_record z (k + at + 4) (k + at + (size + 2)) ≡ moved k (slots_record s (at + 4) (at + (size + 2)))
  unfolding slots_record
  slots_alike b =
      let c = count_alike b in
      let g = alike_on s at z (k + at) (size + 2) f 4 (size - 2) (omega arith) in
      let a = alike_on s (at + 4) z (k + at + 4) (size - 2) g 2 (size - 4) (omega arith) in
      let m : k + at + (size + 2) - (k + at + 4 + 2) ≡ size - 4 = omega arith in
      let n : at + (size + 2) - (at + 4 + 2) ≡ size - 4 = omega arith in
      let bs : take (k + at + (size + 2) - (k + at + 4 + 2)) (drop (k + at + 4 + 2) z) ≡ take (at + (size + 2) - (at + 4 + 2)) (drop (at + 4 + 2) s)
      = (λ j. take (m j) (drop (k + at + 4 + 2) z)) ∙ bytes_alike s (at + 4 + 2) z (k + at + 4 + 2) (size - 4) a (omega arith) (omega arith) ∙ (λ j. take (sym n j) (drop (at + 4 + 2) s)) in
      let from : k + at + 4 + 2 ≡ k + (at + 4 + 2) = omega arith in
      let to : k + at + (size + 2) ≡ k + (at + (size + 2)) = omega arith in
      pick_like (moved k) _ _ _ _ _ _ (λ j. unused_clear (c j) (bs j)) (λ e. λ j. (Ok (found.Record (record_of.Slots (c j) (from j) (to j)) (to j)))) (λ e. refl)

  module _ (kind : ℕ) where
    -- the length asked is the size in both, or in neither
    asked_alike : eqb size (length_asked z (k + at + 4) kind) ≡ eqb size (length_asked s (at + 4) kind)
    unfolding length_asked
    asked_alike = by_kind (eqb kind 16)
      where
        other : ℕ
        other = pick (eqb kind 19) 4 2

        few : (n : ℕ) → leb 4 size ≡ false → eqb size (4 + n) ≡ false
        few n e = let q = leb-false 4 size e in ne_eqb size (4 + n) (λ p. omega arith)

        by_count : (b : Bool) → leb 4 size ≡ b
            → eqb size (4 + bytes_asked (number_at z (k + at + 4) 2)) ≡ eqb size (4 + bytes_asked (number_at s (at + 4) 2))
        by_count true e = ap (λ (n : ℕ). eqb size (4 + bytes_asked n)) (count_alike (leb-true 4 size e))
        by_count false e = few _ e ∙ sym (few _ e)

        by_kind : (b : Bool) → eqb size (pick b (4 + bytes_asked (number_at z (k + at + 4) 2)) other) ≡ eqb size (pick b (4 + bytes_asked (number_at s (at + 4) 2)) other)
        by_kind true =
            ap (eqb size) (pick_true _ _ _ refl) ∙ by_count (leb 4 size) refl ∙ ap (eqb size) (sym (pick_true _ _ _ refl))
        by_kind false = ap (eqb size) (pick_false _ _ _ refl) ∙ ap (eqb size) (sym (pick_false _ _ _ refl))

    -- the other events
    event_in_alike : (is_event kind ≡ true) → eqb kind 16 ≡ false → size ≡ length_asked s (at + 4) kind → event_in z (k + at + 4) kind ≡ event_in s (at + 4) kind
    unfolding is_event length_asked event_in
    event_in_alike v n e =
        pick_ways _ _ _ _ _ (λ p. refl) (λ p.
        pick_ways _ _ _ _ _ (λ q. refl) (λ q.
        let v = both_holds _ _ v in
        let low = leb-true 16 kind v.0 in
        let high = leb-true kind 19 v.1 in
        let a = eqb-false kind 16 n in
        let b = eqb-false kind 17 p in
        let c = eqb-false kind 18 q in
        let d : kind ≡ 19 = omega (arith, a, b, c) in
        let g : size ≡ 4 = e ∙ pick_false _ _ _ n ∙ pick_true _ _ _ (eq-eqb kind 19 d) in
        let o = alike_on s at z (k + at) (size + 2) f 4 2 (omega arith) in
        let first = simp add-zero at (o 0 (omega arith)) in
        λ j. outside_event (first j) (o 1 (omega arith) j)))

    -- a record of an event
    event_alike : is_event kind ≡ true → event_record z size kind (k + at + 4) (k + at + (size + 2)) ≡ moved k (event_record s size kind (at + 4) (at + (size + 2)))
    unfolding event_record length_asked
    event_alike v =
        let to : k + at + (size + 2) ≡ k + (at + (size + 2)) = omega arith in
        pick_like (moved k) _ _ _ _ _ _ asked_alike
        (λ e.
        let g = eqb-true _ _ e in
        pick_like (moved k) _ _ _ _ _ _ refl
        (λ p. let b : size ≡ 4 + bytes_asked (number_at s (at + 4) 2) = g ∙ pick_true _ _ _ p in slots_alike (omega arith))
        (λ p. λ j. (Ok (found.Record (record_of.Event (event_in_alike v p g j)) (to j)))))
        (λ e. refl)

    -- a record of a card
    entry_alike : (room : ℕ) → whole_entry z room size kind (k + at + 4) (k + at + (size + 2)) ≡ moved_entry k (whole_entry s room size kind (at + 4) (at + (size + 2)))
    unfolding whole_entry
    entry_alike room =
        let to : k + at + (size + 2) ≡ k + (at + (size + 2)) = omega arith in
        pick_like (moved_entry k) _ _ _ _ _ _ refl
        (λ p.
        pick_like (moved_entry k) _ _ _ _ _ _ refl
        (λ q.
        let ten = eqb-true size entry_length q in
        let code = number_8 s (at + 4) z (k + at + 4) 8 (alike_on s at z (k + at) (size + 2) f 4 8 (omega arith)) (omega arith) in
        pick_like (moved_entry k) _ _ _ _ _ _ refl (λ r. λ j. taken (code j) kind (to j)) (λ r. refl))
        (λ q. refl))
        (λ p. refl)

    -- the record, whatever its kind
    whole_alike : (room : ℕ) (over : Bool)
        → pick (is_event kind) (event_record z size kind (k + at + 4) (k + at + (size + 2))) (card_record over (whole_entry z room size kind (k + at + 4) (k + at + (size + 2))))
        ≡ moved k (pick (is_event kind) (event_record s size kind (at + 4) (at + (size + 2))) (card_record over (whole_entry s room size kind (at + 4) (at + (size + 2)))))
    whole_alike room over =
        pick_like (moved k) _ _ _ _ _ _ refl event_alike (λ e. ap (card_record over) (entry_alike room) ∙ card_moved k over (whole_entry s room size kind (at + 4) (at + (size + 2))))

-- all the bytes of s from an offset on, and k bytes further on in other bytes
module _ (s z : List ℕ) (k at : ℕ) (f : Alike s at z (k + at) (length s - at)) (l : k + length s ≤ length z) (h : at + 4 ≤ length s) where
  -- its length and its kind
  pub size_alike : size_at z (k + at) ≡ size_at s at
  size_alike = number_2 s at z (k + at) (length s - at) f (omega arith)

  pub kind_alike : kind_at z (k + at) ≡ kind_at s at
  kind_alike = number_2 s (at + 2) z (k + at + 2) 2 (alike_on s at z (k + at) (length s - at) f 2 2 (omega arith)) (omega arith)

  -- whether an event starts
  pub starts_alike : starts_event z (k + at) ≡ starts_event s at
  starts_alike = starts_by_kind z (k + at) (omega arith) ∙ ap is_event kind_alike ∙ sym (starts_by_kind s at h)

  -- a whole record is the same in both, whatever comes after it
  pub found_alike : (room : ℕ) (over more less : Bool) → next_at s at ≤ length s → found_at z (k + at) room over more ≡ moved k (found_at s at room over less)
  found_alike room over more less g =
      let a = size_alike in
      let b = kind_alike in
      found_whole z (k + at) room over more (omega arith) (omega arith)
      ∙ (λ j. pick (is_event (b j)) (event_record z (a j) (b j) (k + at + 4) (k + at + (a j + 2))) (card_record over (whole_entry z room (a j) (b j) (k + at + 4) (k + at + (a j + 2)))))
      ∙ whole_alike s z k at (size_at s at) (λ i p. f i (omega arith)) g (omega arith) (kind_at s at) room over
      ∙ ap (moved k) (sym (found_whole s at room over less h g))
