-- Demand 1 for a recording: what the record at an offset gives, "exactly when": 3, 2, 3, 1 in document 01's order, and document 02's "9, a card
-- record after one of kinds 16 to 19; 10, a nonzero unused bit".
use Rattle.std.specs.Prelude.{ℕ, ◌+◌, ◌<◌, Bool, not, List, ◌≡◌, eqb, ltb, Result, Ok, Err}
use Rattle.std.proofs.Common.{arith, true≢false, ◌∙◌, sym, eqb-true}
use Rattle.std.proofs.Math.Bool.{true, false}
use Rattle.std.proofs.Math.Path.{refl, ap}
use Rattle.base.specs.Pick.{pick, pick_true, pick_false, pick_of, pick_if}
use Rattle.base.specs.Bits.{both}
use Rattle.base.specs.Both.{true_both}
use Rattle.base.specs.Exactly.{Iff, then_exactly, apart, by_else, by_first, by_then, by_left, by_either, by_neither}
use Rattle.chip.specs.Kinds.{known_kind}
use Rattle.records.specs.Numbers.{number_at}
use Rattle.records.specs.Records.{head_at}
use Rattle.card.specs.Card.{entry_at}
use Rattle.recording.specs.Reading.{number_of_fault, is_event, length_asked, cut_off, may_be_right, cut_record, chip_record, card_record, unused_clear, slots_record, event_record, whole_record, at_end, found_by, found_at}
use Rattle.recording.specs.There.{size_at, kind_at}
use Rattle.recording.specs.Ways.{chip_at, slots_at, other_at, run_at}
use Rattle.card.specs.declared.Fault.TheVariants as on_card
use Rattle.recording.specs.declared.Fault.{Fault}
use Rattle.recording.specs.declared.Fault.TheVariants as fault
use Rattle.recording.specs.declared.Found.{Found}
use Rattle.recording.specs.declared.Found.TheVariants as found
use Rattle.refusals.specs.Card.{ended, short, known, whole, ten, entry_is}
use Rattle.played.specs.Choices.{pick_ways}

-- a kind of the card is none of kinds 16 to 19, and kind 16 is one of them
known_no_event : (kind : ℕ) → known_kind kind ≡ true → is_event kind ≡ false
unfolding known_kind is_event both pick
known_no_event kind =
    pick_if (λ (t : Bool). t ≡ true → is_event kind ≡ false) (eqb kind 1) true (eqb kind 2)
    (λ e k. ap is_event (eqb-true kind 1 e)) (λ e k. ap is_event (eqb-true kind 2 k))

pub slots_event : (kind : ℕ) → eqb kind 16 ≡ true → is_event kind ≡ true
unfolding is_event both pick
slots_event kind e = ap is_event (eqb-true kind 16 e)

-- the sorts of what stands at an offset, by number: a refusal by its own, the others by numbers that no refusal has
sort : Result Found Fault → ℕ
sort (Ok found.End) = 100
sort (Ok found.Part) = 101
sort (Ok (found.Record r next)) = 102
sort (Err f) = number_of_fault f

-- a choice comes to its second way, which its first never is, exactly when the test fails
fails : {A : Type 0} (t : Bool) (a b : A) → (a ≡ b → ⊥) → Iff (pick t a b ≡ b) (not t ≡ true)
unfolding pick
fails true a b n = ((λ e. absurd (n e)), (λ e. absurd (true≢false (sym e))))
fails false a b n = ((λ e. refl), (λ e. refl))

-- what never comes holds exactly when false does
never : {A : Type 0} → (A → ⊥) → Iff A (false ≡ true)
never n = ((λ a. absurd (n a)), (λ e. absurd (true≢false (sym e))))

-- a choice comes to an end exactly when the choice of the tests of its ways holds
by_tests : {A : Type 0} (t : Bool) (a b c : A) (u v : Bool) → Iff (a ≡ c) (u ≡ true) → Iff (b ≡ c) (v ≡ true) → Iff (pick t a b ≡ c) (pick t u v ≡ true)
unfolding pick
by_tests true a b c u v i j = i
by_tests false a b c u v i j = j

module _ (s : List ℕ) (at room : ℕ) (over more : Bool) where
  -- its length and its kind
  abbrev size : ℕ
  size = size_at s at

  abbrev kind : ℕ
  kind = kind_at s at

  -- the kind is one of 16 to 19
  abbrev pub event : Bool
  event = is_event kind

  -- the kind is 16, a run of slots
  abbrev pub run : Bool
  run = eqb kind 16

  -- the length is the one that the kind, and the count of a run, ask for
  abbrev pub asked : Bool
  asked = eqb size (length_asked s (at + 4) kind)

  -- a cut record of kinds 16 to 19 may still be right
  abbrev pub right : Bool
  right = may_be_right s at size kind

  -- the unused bits of a run are 0
  abbrev pub clear : Bool
  clear = unused_clear (number_at s (at + 4) 2) (run_at s at)

  -- two refusals of document 01
  abbrev wrong : Result Found Fault
  wrong = Err (fault.OnCard on_card.WrongLength)

  abbrev unknown : Result Found Fault
  unknown = Err (fault.OnCard on_card.UnknownKind)

  -- what a whole record gives, of kinds 16 to 19 and of the card; and what a cut one gives
  abbrev of_event : Result Found Fault
  of_event = pick asked (pick run (pick clear (slots_at s at) (Err fault.UnusedBits)) (other_at s at)) wrong

  abbrev of_card : Result Found Fault
  of_card =
      pick (known s at room)
      (pick (ten s at room) (pick (ltb 0 room) (pick over (Err fault.CardAfterEvent) (chip_at s at)) (Err (fault.OnCard on_card.TooMany))) wrong)
      unknown

  abbrev of_cut : Result Found Fault
  of_cut = pick event (pick (both right more) (Ok found.Part) wrong) (pick (known s at room) (pick (both (ten s at room) more) (Ok found.Part) wrong) unknown)

  -- what stands there, by what it is judged by
  abbrev judged : Result Found Fault
  judged =
      pick (ended s at room) (pick more (Ok found.Part) (Ok found.End))
      (pick (short s at room) (pick more (Ok found.Part) wrong)
      (pick (whole s at room) (pick event of_event of_card) of_cut))

  -- a record that is not all there is awaited, or refused by 3
  cut_is : (r : Bool) → cut_off r more ≡ pick (both r more) (Ok found.Part) wrong
  unfolding cut_off both pick
  cut_is true = refl
  cut_is false = refl

  -- a card record that is whole
  card_is : ended s at room ≡ false → short s at room ≡ false → whole s at room ≡ true → card_record over (entry_at s at room) ≡ of_card
  unfolding chip_record
  card_is e f g =
      ap (card_record over) (entry_is s at room ∙ pick_false _ _ _ e ∙ pick_false _ _ _ f ∙ pick_true _ _ _ g)
      ∙ pick_of (card_record over) _ _ _
      ∙ ap (λ (x : Result Found Fault). pick (known s at room) x unknown)
      (pick_of (card_record over) _ _ _ ∙ ap (λ (x : Result Found Fault). pick (ten s at room) x wrong) (pick_of (card_record over) _ _ _))

  -- what is found is what it is judged to
  found_is : found_at s at room over more ≡ judged
  unfolding found_at head_at at_end cut_record whole_record event_record slots_record
  found_is =
      pick_of (found_by s at room over more) _ _ _
      ∙ pick_ways (ended s at room) _ _ _ _ (λ e. refl)
      (λ e. pick_of (found_by s at room over more) _ _ _
      ∙ pick_ways (short s at room) _ _ _ _ (λ f. cut_is true ∙ ap (λ (b : Bool). pick b (Ok found.Part) wrong) (true_both more))
      (λ f. pick_of (found_by s at room over more) _ _ _
      ∙ pick_ways (whole s at room) _ _ _ _
      (λ g. pick_ways event _ _ _ _ (λ h. refl) (λ h. card_is e f g))
      (λ g. pick_ways event _ _ _ _ (λ h. cut_is right) (λ h. pick_ways (known s at room) _ _ _ _ (λ k. cut_is (ten s at room)) (λ k. refl)))))

  gives : (x : Result Found Fault) {B : Type 0} → Iff (judged ≡ x) B → Iff (found_at s at room over more ≡ x) B
  gives x i = ((λ e. i.0 (sym found_is ∙ e)), (λ b. found_is ∙ i.1 b))

  -- a run or another event of the length asked is refused by 10 alone, a chip of the right length by 1 and 9
  right_event : (f : Fault) → (10 ≡ number_of_fault f → ⊥) → number_of_fault f < 100 → pick run (pick clear (slots_at s at) (Err fault.UnusedBits)) (other_at s at) ≡ Err f → ⊥
  unfolding sort
  right_event f a c =
      by_neither run _ _ _
      (by_neither clear _ _ _ (apart sort (slots_at s at) (Err f) (λ p. omega arith)) (apart sort (Err fault.UnusedBits) (Err f) a))
      (apart sort (other_at s at) (Err f) (λ p. omega arith))

  right_chip : (f : Fault) → (1 ≡ number_of_fault f → ⊥) → (9 ≡ number_of_fault f → ⊥) → number_of_fault f < 100
      → pick (ltb 0 room) (pick over (Err fault.CardAfterEvent) (chip_at s at)) (Err (fault.OnCard on_card.TooMany)) ≡ Err f → ⊥
  unfolding sort
  right_chip f a b c =
      by_neither (ltb 0 room) _ _ _
      (by_neither over _ _ _ (apart sort (Err fault.CardAfterEvent) (Err f) b) (apart sort (chip_at s at) (Err f) (λ p. omega arith)))
      (apart sort (Err (fault.OnCard on_card.TooMany)) (Err f) a)

  -- a whole record of kinds 16 to 19 is refused by 3 and 10 alone
  whole_event : (f : Fault) → (3 ≡ number_of_fault f → ⊥) → (10 ≡ number_of_fault f → ⊥) → number_of_fault f < 100 → of_event ≡ Err f → ⊥
  unfolding sort
  whole_event f a b c = by_neither asked _ _ _ (right_event f b c) (apart sort wrong (Err f) a)

  -- a record that is not whole, by 3 and 2 alone: so each other refusal is of a whole record
  of_whole : (f : Fault) (B : Type 0) → (2 ≡ number_of_fault f → ⊥) → (3 ≡ number_of_fault f → ⊥) → number_of_fault f < 100 → Iff (pick event of_event of_card ≡ Err f) B
      → Iff (found_at s at room over more ≡ Err f) ((ended s at room ≡ false) × ((short s at room ≡ false) × ((whole s at room ≡ true) × B)))
  unfolding sort
  of_whole f B a b c i =
      let part = apart sort (Ok found.Part) (Err f) (λ p. omega arith) in
      let three = apart sort wrong (Err f) b in
      gives (Err f)
      (by_left _ (ended s at room) _ _ _ (by_neither more _ _ _ part (apart sort (Ok found.End) (Err f) (λ p. omega arith)))
      (by_left _ (short s at room) _ _ _ (by_neither more _ _ _ part three)
      (by_then _ (whole s at room) _ _ _
      (by_neither event _ _ _ (by_neither (both right more) _ _ _ part three)
      (by_neither (known s at room) _ _ _ (by_neither (both (ten s at room) more) _ _ _ part three) (apart sort unknown (Err f) a)))
      i)))

  -- a record of a kind of the card
  of-card : (x : Result Found Fault) (B : Type 0) → (of_event ≡ x → ⊥) → Iff (of_card ≡ x) ((known s at room ≡ true) × B) → Iff (pick event of_event of_card ≡ x) ((known s at room ≡ true) × B)
  of-card x B n i = then_exactly (by_left _ event _ _ _ n i) ((λ p. p.1), (λ q. (known_no_event kind q.0, q)))

  -- 2: there is a head, and "a kind not named", whatever its length says
  pub refused_2 : Iff (found_at s at room over more ≡ Err (fault.OnCard on_card.UnknownKind))
      ((ended s at room ≡ false) × ((short s at room ≡ false) × ((event ≡ false) × (known s at room ≡ false))))
  unfolding sort
  refused_2 =
      let part = apart sort (Ok found.Part) unknown (λ p. omega arith) in
      let three = apart sort wrong unknown (λ p. omega arith) in
      gives unknown
      (by_left _ (ended s at room) _ _ _ (by_neither more _ _ _ part (apart sort (Ok found.End) unknown (λ p. omega arith)))
      (by_left _ (short s at room) _ _ _ (by_neither more _ _ _ part three)
      (by_either _ (whole s at room) _ _ _
      (by_left _ event _ _ _ (whole_event (fault.OnCard on_card.UnknownKind) (λ p. omega arith) (λ p. omega arith) (omega arith))
      (by_else (known s at room) _ _ (by_neither (ten s at room) _ _ _ (right_chip (fault.OnCard on_card.UnknownKind) (λ p. omega arith) (λ p. omega arith) (omega arith)) three)))
      (by_left _ event _ _ _ (by_neither (both right more) _ _ _ part three) (by_else (known s at room) _ _ (by_neither (both (ten s at room) more) _ _ _ part three))))))

  -- 1: a whole record of a kind of the card and the right length, and no place for it
  pub refused_1 : Iff (found_at s at room over more ≡ Err (fault.OnCard on_card.TooMany))
      ((ended s at room ≡ false) × ((short s at room ≡ false) × ((whole s at room ≡ true) × ((known s at room ≡ true) × ((ten s at room ≡ true) × (ltb 0 room ≡ false))))))
  unfolding sort
  refused_1 =
      let x = (Err (fault.OnCard on_card.TooMany)) in
      of_whole (fault.OnCard on_card.TooMany) _ (λ p. omega arith) (λ p. omega arith) (omega arith)
      (of-card x _ (whole_event (fault.OnCard on_card.TooMany) (λ p. omega arith) (λ p. omega arith) (omega arith))
      (by_then _ (known s at room) _ _ _ (apart sort unknown x (λ p. omega arith))
      (by_then _ (ten s at room) _ _ _ (apart sort wrong x (λ p. omega arith))
      (by_else (ltb 0 room) _ _ (by_neither over _ _ _ (apart sort (Err fault.CardAfterEvent) x (λ p. omega arith)) (apart sort (chip_at s at) x (λ p. omega arith)))))))

  -- 9: a record that the card could have held, with a place for it, where a record of kinds 16 to 19 came before
  pub refused_9 : Iff (found_at s at room over more ≡ Err fault.CardAfterEvent)
      ((ended s at room ≡ false) × ((short s at room ≡ false) × ((whole s at room ≡ true) × ((known s at room ≡ true) × ((ten s at room ≡ true) × ((ltb 0 room ≡ true) × (over ≡ true)))))))
  unfolding sort
  refused_9 =
      let x = (Err fault.CardAfterEvent) in
      of_whole fault.CardAfterEvent _ (λ p. omega arith) (λ p. omega arith) (omega arith)
      (of-card x _ (whole_event fault.CardAfterEvent (λ p. omega arith) (λ p. omega arith) (omega arith))
      (by_then _ (known s at room) _ _ _ (apart sort unknown x (λ p. omega arith))
      (by_then _ (ten s at room) _ _ _ (apart sort wrong x (λ p. omega arith))
      (by_then _ (ltb 0 room) _ _ _ (apart sort (Err (fault.OnCard on_card.TooMany)) x (λ p. omega arith))
      (by_first over _ _ (apart sort (chip_at s at) x (λ p. omega arith)))))))

  -- 10: a whole run of slots of the length that its count asks, one of whose unused bits is not 0
  pub refused_10 : Iff (found_at s at room over more ≡ Err fault.UnusedBits)
      ((ended s at room ≡ false) × ((short s at room ≡ false) × ((whole s at room ≡ true) × ((run ≡ true) × ((asked ≡ true) × (clear ≡ false))))))
  unfolding sort
  refused_10 =
      let x = (Err fault.UnusedBits) in
      of_whole fault.UnusedBits _ (λ p. omega arith) (λ p. omega arith) (omega arith)
      (then_exactly
      (by_then _ event _ _ _
      (by_neither (known s at room) _ _ _
      (by_neither (ten s at room) _ _ _ (right_chip fault.UnusedBits (λ p. omega arith) (λ p. omega arith) (omega arith)) (apart sort wrong x (λ p. omega arith)))
      (apart sort unknown x (λ p. omega arith)))
      (by_then _ asked _ _ _ (apart sort wrong x (λ p. omega arith))
      (by_then _ run _ _ _ (apart sort (other_at s at) x (λ p. omega arith))
      (by_else clear _ _ (apart sort (slots_at s at) x (λ p. omega arith))))))
      ((λ p. (p.1.1.0, (p.1.0, p.1.1.1))), (λ q. (slots_event kind q.0, (q.1.0, (q.0, q.1.1))))))

  -- a fault of the length: fewer than 4 bytes; a whole record of another length than its kind asks; or a cut one. What is cut is awaited
  -- instead where more may come and it may still be right
  abbrev pub length_fault : Bool
  length_fault =
      pick (short s at room) (not more)
      (pick (whole s at room) (pick event (not asked) (pick (known s at room) (not (ten s at room)) false))
      (pick event (not (both right more)) (pick (known s at room) (not (both (ten s at room) more)) false)))

  -- 3: there is a record, and a fault of its length
  pub refused_3 : Iff (found_at s at room over more ≡ Err (fault.OnCard on_card.WrongLength)) ((ended s at room ≡ false) × (length_fault ≡ true))
  unfolding sort
  refused_3 =
      let part = apart sort (Ok found.Part) wrong (λ p. omega arith) in
      let two = never (apart sort unknown wrong (λ p. omega arith)) in
      gives wrong
      (by_left _ (ended s at room) _ _ _ (by_neither more _ _ _ part (apart sort (Ok found.End) wrong (λ p. omega arith)))
      (by_tests (short s at room) _ _ _ _ _ (fails more _ _ part)
      (by_tests (whole s at room) _ _ _ _ _
      (by_tests event _ _ _ _ _
      (fails asked _ _ (right_event (fault.OnCard on_card.WrongLength) (λ p. omega arith) (omega arith)))
      (by_tests (known s at room) _ _ _ _ _
      (fails (ten s at room) _ _ (right_chip (fault.OnCard on_card.WrongLength) (λ p. omega arith) (λ p. omega arith) (omega arith))) two))
      (by_tests event _ _ _ _ _ (fails (both right more) _ _ part)
      (by_tests (known s at room) _ _ _ _ _ (fails (both (ten s at room) more) _ _ part) two)))))
