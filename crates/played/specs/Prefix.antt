-- Laws: a record that is found or refused, though more may come, is found or refused whatever comes.
use Prim.Native.Nat.{ℕ, ◌+◌, ◌-◌, ◌<◌, ◌≤◌}
use Rattle.std.proofs.Common.{zero-add, arith, true≢false, ◌∙◌, sym, length-append}
use Rattle.std.specs.Prelude.{Bool, List, ◌++◌, ◌≡◌, length, Result, Ok, Err}
use Rattle.std.proofs.Math.Bool.{true, false}
use Rattle.std.proofs.Math.Path.{refl, ap}
use Rattle.std.proofs.Math.Dec.{eqb, ltb}
use Rattle.std.proofs.Math.ListN.{get_or-append}
use borrow.Author.Tests.{ltb-false, le-ltb}
use Rattle.base.specs.Bits.{both}
use Rattle.base.specs.Pick.{pick, pick_true, pick_false, pick_if}
use Rattle.card.specs.Card.{entry_length, whole_entry}
use Rattle.chip.specs.Kinds.{known_kind}
use Rattle.line.specs.Slots.{bytes_asked}
use Rattle.records.specs.Numbers.{number_at}
use Rattle.recording.specs.declared.Fault.{Fault}
use Rattle.recording.specs.Reading.{is_event, length_asked, cut_off, may_be_right, cut_record, card_record, event_record, at_end, found_at, starts_event}
use Rattle.recording.specs.There.{size_at, kind_at, next_at, There, nothing, few, head, all, there, found_end, found_short, found_cut, found_whole}
use Rattle.recording.specs.Ways.{found_has}
use Rattle.card.specs.declared.Fault.TheVariants as on_card
use Rattle.recording.specs.declared.Fault.TheVariants as fault
use Rattle.recording.specs.declared.Record.TheVariants as record_of
use Rattle.recording.specs.declared.Found.{Found}
use Rattle.recording.specs.declared.Found.TheVariants as found
use Rattle.played.specs.Alike.{moved, Alike, alike_on, number_2, starts_alike, found_alike}

-- what is found without the rest is found with it; the end is not, and where a part is found, nothing is said
abbrev pub Stays : Result Found Fault → Result Found Fault → Type 0
Stays (Ok found.End) y = ⊥
Stays (Ok found.Part) y = Unit
Stays (Ok (found.Record r next)) y = y ≡ Ok (found.Record r next)
Stays (Err f) y = y ≡ Err f

-- what is the same stays, where it is not the end
abbrev NotEnd : Result Found Fault → Type 0
NotEnd (Ok found.End) = ⊥
NotEnd (Ok found.Part) = Unit
NotEnd (Ok (found.Record r next)) = Unit
NotEnd (Err f) = Unit

same_stays : (x y : Result Found Fault) → NotEnd x → y ≡ x → Stays x y
same_stays (Ok found.End) y n e = n
same_stays (Ok found.Part) y n e = tt
same_stays (Ok (found.Record r next)) y n e = e
same_stays (Err f) y n e = e

-- what is found no byte further on
moved_none : (x : Result Found Fault) → moved 0 x ≡ x
moved_none (Ok found.End) = refl
moved_none (Ok found.Part) = refl
moved_none (Ok (found.Record (record_of.Chip code kind) next)) = λ j. (Ok (found.Record (record_of.Chip code kind) (zero-add next j)))
moved_none (Ok (found.Record (record_of.Slots count from to) next)) = λ j. (Ok (found.Record (record_of.Slots count (zero-add from j) (zero-add to j)) (zero-add next j)))
moved_none (Ok (found.Record (record_of.Event e) next)) = λ j. (Ok (found.Record (record_of.Event e) (zero-add next j)))
moved_none (Err f) = refl

module _ (s t : List ℕ) (at : ℕ) where
  -- the bytes that are there
  kept : Alike s at (s ++ t) at (length s - at)
  kept i h = get_or-append s t 0 (at + i) (omega arith)

  -- no byte further on
  kept_none : Alike s at (s ++ t) (0 + at) (length s - at)
  kept_none = rw (zero-add at) kept

  -- there are no fewer bytes
  within : 0 + length s ≤ length (s ++ t)
  within = let e = length-append s t in omega arith

  -- where more may come, the end is not found
  not_end : (room : ℕ) (over : Bool) → NotEnd (found_at s at room over true)
  not_end room over = found_has NotEnd s at room over true (λ e. true≢false e) (λ a. tt) (λ f. tt) (λ w k t r. tt) (λ w k t u. tt) (λ w t. tt)

  module _ (h : at + 4 ≤ length s) where
    -- the length and the kind of a record
    pub size_stays : size_at (s ++ t) at ≡ size_at s at
    size_stays = number_2 s at (s ++ t) at (length s - at) kept (omega arith)

    kind_stays : kind_at (s ++ t) at ≡ kind_at s at
    kind_stays = number_2 s (at + 2) (s ++ t) (at + 2) 2 (alike_on s at (s ++ t) at (length s - at) kept 2 2 (omega arith)) (omega arith)

    -- whether an event starts is told by a kind
    pub starts_stays : starts_event (s ++ t) at ≡ starts_event s at
    starts_stays = ap (starts_event (s ++ t)) (sym (zero-add at)) ∙ starts_alike s (s ++ t) 0 at kept_none within h

    -- a whole record
    pub whole_stays : (room : ℕ) (over more : Bool) → next_at s at ≤ length s → found_at (s ++ t) at room over more ≡ found_at s at room over true
    whole_stays room over more g =
        ap (λ (x : ℕ). found_at (s ++ t) x room over more) (sym (zero-add at)) ∙ found_alike s (s ++ t) 0 at kept_none within h room over more true g ∙ moved_none (found_at s at room over true)

    -- a length that cannot be right any more
    module _ (size kind : ℕ) (w : may_be_right s at size kind ≡ false) where
      -- is not the one asked when the record is whole
      asked_stays : eqb size (length_asked (s ++ t) (at + 4) kind) ≡ false
      unfolding may_be_right length_asked both pick
      asked_stays = go (eqb kind 16) (ltb (length s - at) 6) refl w
        where
          go : (b c : Bool) → ltb (length s - at) 6 ≡ c → pick (both b c) true (eqb size (pick b (4 + bytes_asked (number_at s (at + 4) 2)) (pick (eqb kind 19) 4 2))) ≡ false
              → eqb size (pick b (4 + bytes_asked (number_at (s ++ t) (at + 4) 2)) (pick (eqb kind 19) 4 2)) ≡ false
          go true true q e = absurd (true≢false e)
          go true false q e =
              let l = ltb-false (length s - at) 6 q in
              let n = number_2 s (at + 4) (s ++ t) (at + 4) 2 (alike_on s at (s ++ t) at (length s - at) kept 4 2 (omega arith)) (omega arith) in
              ap (λ (x : ℕ). eqb size (4 + bytes_asked x)) n ∙ e
          go false c q e = e

      -- and cannot be right when it is not
      wrong_stays : may_be_right (s ++ t) at size kind ≡ false
      unfolding may_be_right both pick
      wrong_stays = go (eqb kind 16) (ltb (length s - at) 6) refl w
        where
          go : (b c : Bool) → ltb (length s - at) 6 ≡ c → pick (both b c) true (eqb size (length_asked s (at + 4) kind)) ≡ false
              → pick (both b (ltb (length (s ++ t) - at) 6)) true (eqb size (length_asked (s ++ t) (at + 4) kind)) ≡ false
          go true true q e = absurd (true≢false e)
          go true false q e =
              let l = ltb-false (length s - at) 6 q in
              let m = within in
              pick_false _ _ _ (le-ltb (length (s ++ t) - at) 6 (omega arith)) ∙ asked_stays
          go false c q e = asked_stays

    -- a record of which not all is there, by its length and kind: what is refused of it is refused by y too
    cut_by : (size kind : ℕ) (y : Result Found Fault) → (is_event kind ≡ true → may_be_right s at size kind ≡ false → y ≡ Err (fault.OnCard on_card.WrongLength))
        → (is_event kind ≡ false → known_kind kind ≡ true → eqb size entry_length ≡ false → y ≡ Err (fault.OnCard on_card.WrongLength))
        → (is_event kind ≡ false → known_kind kind ≡ false → y ≡ Err (fault.OnCard on_card.UnknownKind)) → Stays (cut_record s at true size kind) y
    unfolding cut_record cut_off pick
    cut_by size kind y a b c =
        pick_if (λ (x : Result Found Fault). Stays x y) _ _ _ (λ e. off _ (a e))
        (λ e. pick_if (λ (x : Result Found Fault). Stays x y) _ _ _ (λ f. off _ (b e f)) (c e))
      where
        off : (right : Bool) → (right ≡ false → y ≡ Err (fault.OnCard on_card.WrongLength)) → Stays (cut_off right true) y
        off true f = tt
        off false f = f refl

    -- a record of which not all is there
    cut_stays : (room : ℕ) (over more : Bool) → length s < next_at s at → Stays (found_at s at room over true) (found_at (s ++ t) at room over more)
    unfolding cut_record cut_off event_record whole_entry
    cut_stays room over more g = rw (found_cut s at room over true h g) (go (there (s ++ t) at))
      where
        size : ℕ
        size = size_at s at

        kind : ℕ
        kind = kind_at s at

        go : There (s ++ t) at → Stays (cut_record s at true size kind) (found_at (s ++ t) at room over more)
        go (nothing p) = let m = within in absurd (omega arith)
        go (few p q) = let m = within in absurd (omega arith)
        go (head p q) =
            let e : found_at (s ++ t) at room over more ≡ cut_record (s ++ t) at more size kind
            = found_cut (s ++ t) at room over more p q ∙ (λ j. cut_record (s ++ t) at more (size_stays j) (kind_stays j)) in
            cut_by size kind _ (λ v w. e ∙ pick_true _ _ _ v ∙ pick_false _ _ _ (wrong_stays size kind w))
            (λ v w n. e ∙ pick_false _ _ _ v ∙ pick_true _ _ _ w ∙ pick_false _ _ _ n) (λ v w. e ∙ pick_false _ _ _ v ∙ pick_false _ _ _ w)
        go (all p q) =
            let e : found_at (s ++ t) at room over more
            ≡ pick (is_event kind) (event_record (s ++ t) size kind (at + 4) (at + (size + 2))) (card_record over (whole_entry (s ++ t) room size kind (at + 4) (at + (size + 2))))
            = found_whole (s ++ t) at room over more p q
            ∙ (λ j. pick (is_event (kind_stays j)) (event_record (s ++ t) (size_stays j) (kind_stays j) (at + 4) (at + (size_stays j + 2))) (card_record over (whole_entry (s ++ t) room (size_stays j) (kind_stays j) (at + 4) (at + (size_stays j + 2))))) in
            cut_by size kind _ (λ v w. e ∙ pick_true _ _ _ v ∙ pick_false _ _ _ (asked_stays size kind w))
            (λ v w n. e ∙ pick_false _ _ _ v ∙ ap (card_record over) (pick_true _ _ _ w ∙ pick_false _ _ _ n))
            (λ v w. e ∙ pick_false _ _ _ v ∙ ap (card_record over) (pick_false _ _ _ w))

  -- whatever is there
  pub prefix : (room : ℕ) (over more : Bool) → Stays (found_at s at room over true) (found_at (s ++ t) at room over more)
  unfolding at_end cut_off pick
  prefix room over more = go (there s at)
    where
      go : There s at → Stays (found_at s at room over true) (found_at (s ++ t) at room over more)
      go (nothing h) = rw (found_end s at room over true h) tt
      go (few h g) = rw (found_short s at room over true h g) tt
      go (head h g) = cut_stays h room over more g
      go (all h g) = same_stays _ _ (not_end room over) (whole_stays h room over more g)
