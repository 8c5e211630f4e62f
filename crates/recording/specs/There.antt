-- Laws: what stands at an offset, by how many bytes are there from it on.
use Rattle.std.specs.Prelude.{ℕ, ◌+◌, ◌-◌, ◌<◌, ◌≤◌, Bool, List, ◌≡◌, refl, ltb, leb, length, Ok}
use Rattle.std.proofs.Common.{arith, ◌∙◌, ltb-true, ltb-false, leb-true, leb-false, lt-ltb, le-ltb, le-leb}
use Rattle.std.proofs.Math.Bool.{true, false}
use Rattle.std.proofs.Math.Path.{ap}
use Rattle.std.proofs.lemmas.Bool.{lt-leb}
use Rattle.base.specs.Pick.{pick, pick_true, pick_false}
use Rattle.card.specs.Card.{whole_entry, entry_of, entry_at}
use Rattle.records.specs.Numbers.{number_at}
use Rattle.records.specs.Records.{head_at}
use Rattle.records.specs.declared.Head.{Head}
use Rattle.records.specs.declared.Head.TheVariants.{End, Short, Cut, Whole}
use Rattle.recording.specs.Reading.{is_event, cut_off, cut_record, card_record, event_record, whole_record, at_end, found_by, found_at, event_head, starts_event}
use Rattle.recording.specs.declared.Found.TheVariants as found

-- the length and the kind that are read at an offset, and where the record ends by that length
abbrev pub size_at : List ℕ → ℕ → ℕ
size_at s at = number_at s at 2

abbrev pub kind_at : List ℕ → ℕ → ℕ
kind_at s at = number_at s (at + 2) 2

abbrev pub next_at : List ℕ → ℕ → ℕ
next_at s at = at + (size_at s at + 2)

-- no byte; fewer than four; a length and a kind, but not the whole record; the whole record
pub data There (s : List ℕ) (at : ℕ) : Type 0 where
  nothing : length s ≤ at → There s at
  few : at < length s → length s < at + 4 → There s at
  head : at + 4 ≤ length s → length s < next_at s at → There s at
  all : at + 4 ≤ length s → next_at s at ≤ length s → There s at

module _ (s : List ℕ) (at : ℕ) where
  -- one of these is so
  pub there : There s at
  there = by_end (leb (length s) at) refl
    where
      by_whole : at + 4 ≤ length s → (b : Bool) → leb (next_at s at) (length s) ≡ b → There s at
      by_whole h true e = all h (leb-true _ _ e)
      by_whole h false e = head h (leb-false _ _ e)

      by_head : at < length s → (b : Bool) → ltb (length s) (at + 4) ≡ b → There s at
      by_head h true e = few h (ltb-true _ _ e)
      by_head h false e = by_whole (ltb-false _ _ e) (leb (next_at s at) (length s)) refl

      by_end : (b : Bool) → leb (length s) at ≡ b → There s at
      by_end true e = nothing (leb-true _ _ e)
      by_end false e = by_head (leb-false _ _ e) (ltb (length s) (at + 4)) refl

  -- the head of a record, by the bytes there
  head_end : length s ≤ at → head_at s at ≡ End
  unfolding head_at
  head_end h = pick_true _ _ _ (le-leb _ _ h)

  head_short : at < length s → length s < at + 4 → head_at s at ≡ Short
  unfolding head_at
  head_short h l = pick_false _ _ _ (lt-leb _ _ h) ∙ pick_true _ _ _ (lt-ltb (length s - at) 4 (omega arith))

  module _ (h : at + 4 ≤ length s) where
    -- the tests for the end and for a length and a kind
    some : leb (length s) at ≡ false
    some = lt-leb (length s) at (omega arith)

    four : ltb (length s - at) 4 ≡ false
    four = le-ltb (length s - at) 4 (omega arith)

    head_cut : length s < next_at s at → head_at s at ≡ Cut (size_at s at) (kind_at s at)
    unfolding head_at
    head_cut l = pick_false _ _ _ some ∙ pick_false _ _ _ four ∙ pick_false _ _ _ (lt-leb (size_at s at + 2) (length s - at) (omega arith))

    head_whole : next_at s at ≤ length s → head_at s at ≡ Whole (size_at s at) (kind_at s at) (at + 4) (next_at s at)
    unfolding head_at
    head_whole l = pick_false _ _ _ some ∙ pick_false _ _ _ four ∙ pick_true _ _ _ (le-leb (size_at s at + 2) (length s - at) (omega arith))

  -- what is found
  module _ (room : ℕ) (over more : Bool) where
    pub found_end : length s ≤ at → found_at s at room over more ≡ at_end more
    unfolding found_at
    found_end h = ap (found_by s at room over more) (head_end h)

    pub found_short : at < length s → length s < at + 4 → found_at s at room over more ≡ cut_off true more
    unfolding found_at
    found_short h l = ap (found_by s at room over more) (head_short h l)

    pub found_cut : at + 4 ≤ length s → length s < next_at s at → found_at s at room over more ≡ cut_record s at more (size_at s at) (kind_at s at)
    unfolding found_at
    found_cut h l = ap (found_by s at room over more) (head_cut h l)

    pub found_whole : at + 4 ≤ length s → next_at s at ≤ length s
        → found_at s at room over more
        ≡ pick (is_event (kind_at s at)) (event_record s (size_at s at) (kind_at s at) (at + 4) (next_at s at)) (card_record over (whole_entry s room (size_at s at) (kind_at s at) (at + 4) (next_at s at)))
    unfolding found_at whole_record entry_at
    found_whole h l =
        let e = head_whole h l in
        ap (found_by s at room over more) e
        ∙ ap (λ (x : Head). pick (is_event (kind_at s at)) (event_record s (size_at s at) (kind_at s at) (at + 4) (next_at s at)) (card_record over (entry_of s room x))) e

  -- fewer than four bytes, where more may come
  pub found_awaited : (room : ℕ) (over : Bool) → length s < at + 4 → found_at s at room over true ≡ Ok found.Part
  unfolding at_end cut_off pick
  found_awaited room over l = go there
    where
      go : There s at → found_at s at room over true ≡ Ok found.Part
      go (nothing h) = found_end room over true h
      go (few h g) = found_short room over true h g
      go (head h g) = absurd (omega arith)
      go (all h g) = absurd (omega arith)

  -- without a kind no event starts
  pub starts_not : length s < at + 4 → starts_event s at ≡ false
  unfolding starts_event
  starts_not l = go there
    where
      go : There s at → event_head (head_at s at) ≡ false
      go (nothing h) = ap event_head (head_end h)
      go (few h g) = ap event_head (head_short h g)
      go (head h g) = absurd (omega arith)
      go (all h g) = absurd (omega arith)

  -- its kind tells
  pub starts_by_kind : at + 4 ≤ length s → starts_event s at ≡ is_event (kind_at s at)
  unfolding starts_event
  starts_by_kind l = go there
    where
      go : There s at → event_head (head_at s at) ≡ is_event (kind_at s at)
      go (nothing h) = absurd (omega arith)
      go (few h g) = absurd (omega arith)
      go (head h g) = ap event_head (head_cut h g)
      go (all h g) = ap event_head (head_whole h g)
