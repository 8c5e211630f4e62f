-- Demand 1 for a card: what the record at an offset gives, "exactly when": 3, 2, 3, 1 in document 01's order.
use Rattle.std.specs.Prelude.{ℕ, ◌+◌, ◌-◌, Bool, true, false, not, List, ◌≡◌, refl, eqb, ltb, leb, length, Option, Some, None, Result, Ok, Err}
use Rattle.std.proofs.Common.{arith, true≢false, ◌∙◌, sym}
use Rattle.std.proofs.Math.Path.{ap}
use Rattle.base.specs.Pick.{pick, pick_of}
use Rattle.base.specs.Exactly.{Iff, apart, by_else, by_then, by_left, by_either, by_neither}
use Rattle.chip.specs.Kinds.{known_kind}
use Rattle.records.specs.Numbers.{number_at}
use Rattle.records.specs.Records.{head_at}
use Rattle.card.specs.Card.{taken, cut_entry, whole_entry, entry_of, entry_at}
use Rattle.card.specs.declared.Entry.{Entry}
use Rattle.card.specs.declared.Fault.{Fault}
use Rattle.card.specs.declared.Fault.TheVariants.{TooMany, UnknownKind, WrongLength}

-- the sorts of entries, by number
sort : Result (Option Entry) Fault → ℕ
sort (Ok None) = 0
sort (Ok (Some e)) = 1
sort (Err TooMany) = 2
sort (Err UnknownKind) = 3
sort (Err WrongLength) = 4

-- a fault of the length: fewer than 4 bytes; or, of a known kind, a wrong length or a cut body
abbrev pub length_fault : Bool → Bool → Bool → Bool → Bool
length_fault short known whole ten = pick short true (pick known (pick whole (not ten) true) false)

module _ (s : List ℕ) (at room : ℕ) where
  -- no record starts here
  abbrev pub ended : Bool
  ended = leb (length s) at

  -- "fewer than 4 bytes left"
  abbrev pub short : Bool
  short = ltb (length s - at) 4

  -- the kind is 1 or 2
  abbrev pub known : Bool
  known = known_kind (number_at s (at + 2) 2)

  -- the record is not cut
  abbrev pub whole : Bool
  whole = leb (number_at s at 2 + 2) (length s - at)

  -- its length is 10
  abbrev pub ten : Bool
  ten = eqb (number_at s at 2) 10

  abbrev chip : Result (Option Entry) Fault
  chip = taken (number_at s (at + 4) 8) (number_at s (at + 2) 2) (at + (number_at s at 2 + 2))

  -- what the record gives, by what it is judged by
  abbrev pub judged : Result (Option Entry) Fault
  judged =
      pick ended (Ok None)
      (pick short (Err WrongLength)
      (pick whole
      (pick known (pick ten (pick (ltb 0 room) chip (Err TooMany)) (Err WrongLength)) (Err UnknownKind))
      (pick known (Err WrongLength) (Err UnknownKind))))

  pub entry_is : entry_at s at room ≡ judged
  unfolding entry_at head_at whole_entry cut_entry
  entry_is =
      pick_of (entry_of s room) _ _ _
      ∙ ap (λ (x : Result (Option Entry) Fault). pick ended (Ok None) x)
      (pick_of (entry_of s room) _ _ _ ∙ ap (λ (x : Result (Option Entry) Fault). pick short (Err WrongLength) x) (pick_of (entry_of s room) _ _ _))

  gives : (p : Result (Option Entry) Fault) {B : Type 0} → Iff (judged ≡ p) B → Iff (entry_at s at room ≡ p) B
  gives p i = ((λ e. i.0 (sym entry_is ∙ e)), (λ b. entry_is ∙ i.1 b))

  -- 2: there is a head, and "a record's kind is neither 1 nor 2", whatever its length says
  pub refused_2 : Iff (entry_at s at room ≡ Err UnknownKind) ((ended ≡ false) × ((short ≡ false) × (known ≡ false)))
  unfolding sort
  refused_2 =
      gives (Err UnknownKind)
      (by_left _ ended _ _ _ (apart sort (Ok None) (Err UnknownKind) (λ p. omega arith))
      (by_left _ short _ _ _ (apart sort (Err WrongLength) (Err UnknownKind) (λ p. omega arith))
      (by_either _ whole _ _ _
      (by_else known _ _ (by_neither ten _ _ _ (by_neither (ltb 0 room) _ _ _ (apart sort chip (Err UnknownKind) (λ p. omega arith)) (apart sort (Err TooMany) (Err UnknownKind) (λ p. omega arith))) (apart sort (Err WrongLength) (Err UnknownKind) (λ p. omega arith))))
      (by_else known _ _ (apart sort (Err WrongLength) (Err UnknownKind) (λ p. omega arith))))))

  -- 1: a whole record of a known kind and the right length, and no place for it
  pub refused_1 : Iff (entry_at s at room ≡ Err TooMany) ((ended ≡ false) × ((short ≡ false) × ((whole ≡ true) × ((known ≡ true) × ((ten ≡ true) × (ltb 0 room ≡ false))))))
  unfolding sort
  refused_1 =
      gives (Err TooMany)
      (by_left _ ended _ _ _ (apart sort (Ok None) (Err TooMany) (λ p. omega arith))
      (by_left _ short _ _ _ (apart sort (Err WrongLength) (Err TooMany) (λ p. omega arith))
      (by_then _ whole _ _ _ (by_neither known _ _ _ (apart sort (Err WrongLength) (Err TooMany) (λ p. omega arith)) (apart sort (Err UnknownKind) (Err TooMany) (λ p. omega arith)))
      (by_then _ known _ _ _ (apart sort (Err UnknownKind) (Err TooMany) (λ p. omega arith))
      (by_then _ ten _ _ _ (apart sort (Err WrongLength) (Err TooMany) (λ p. omega arith))
      (by_else (ltb 0 room) _ _ (apart sort chip (Err TooMany) (λ p. omega arith))))))))

  -- 3: there is a record, and a fault of its length
  pub refused_3 : Iff (entry_at s at room ≡ Err WrongLength) ((ended ≡ false) × (length_fault short known whole ten ≡ true))
  unfolding sort pick
  refused_3 = gives (Err WrongLength) (by_left _ ended _ _ _ (apart sort (Ok None) (Err WrongLength) (λ p. omega arith)) (lengths short whole known ten (ltb 0 room)))
    where
      no : {A B : Type 0} → (A → ⊥) → (B → ⊥) → Iff A B
      no f g = ((λ a. absurd (f a)), (λ b. absurd (g b)))

      yes : {A B : Type 0} → A → B → Iff A B
      yes a b = ((λ x. b), (λ x. a))

      off : false ≡ true → ⊥
      off e = true≢false (sym e)

      lengths : (a b c d e : Bool) → Iff (pick a (Err WrongLength) (pick b (pick c (pick d (pick e chip (Err TooMany)) (Err WrongLength)) (Err UnknownKind)) (pick c (Err WrongLength) (Err UnknownKind))) ≡ Err WrongLength) (length_fault a c b d ≡ true)
      lengths true b c d e = yes refl refl
      lengths false true true true true = no (apart sort chip (Err WrongLength) (λ p. omega arith)) off
      lengths false true true true false = no (apart sort (Err TooMany) (Err WrongLength) (λ p. omega arith)) off
      lengths false true true false e = yes refl refl
      lengths false true false d e = no (apart sort (Err UnknownKind) (Err WrongLength) (λ p. omega arith)) off
      lengths false false true d e = yes refl refl
      lengths false false false d e = no (apart sort (Err UnknownKind) (Err WrongLength) (λ p. omega arith)) off
