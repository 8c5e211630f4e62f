-- Laws: what a record is judged to be, and what its bytes then are; both ways.
use Rattle.std.specs.Prelude.{ℕ, ◌+◌, ◌-◌, Bool, true, false, not, List, ◌≡◌, refl, eqb, ltb, length, Result, Ok, Err}
use Rattle.std.proofs.Common.{arith, true≢false, ◌∙◌, ap, subst, eqb-true, eq-eqb, ne_eqb, ltb-true, lt-ltb}
use Rattle.std.proofs.Math.Path.{sym}
use Rattle.std.proofs.lemmas.Bool.{eqb-false, not-false}
use Rattle.base.specs.Bits.{both}
use Rattle.base.specs.Both.{both_holds}
use Rattle.base.specs.Exactly.{No}
use Rattle.base.specs.Pick.{pick, pick_true, pick_false, pick_if, pick_both}
use Rattle.intelhex.specs.Faults.{last_address}
use Rattle.intelhex.specs.Bytes.{sum_of}
use Rattle.intelhex.specs.Lines.{count_in, address_in, type_in, is_bad_end, is_above, judged}
use Rattle.intelhex.specs.declared.Fault.{Fault}
use Rattle.intelhex.specs.declared.Fault.TheVariants.{WrongSize, TooLong, NoLineEnd, NoColon, NoDigit, OddDigits, FewBytes, WrongCount, EndNotZero, CheckByte, UnknownType, AboveImage, NoEndRecord, AfterEnd}
use Rattle.intelhex.specs.declared.record.Judged.{Judged}
use Rattle.intelhex.specs.declared.record.Judged.TheVariants.{Data, End}
use Rattle.roundtrip.specs.Grammar.{IsAbove}

-- ---- an end record whose count or address is not 0
abbrev pub EndsWell : List ℕ → Type 0
EndsWell bytes = type_in bytes ≡ 1 → (count_in bytes ≡ 0) × (address_in bytes ≡ 0)

good_end : (bytes : List ℕ) → is_bad_end (type_in bytes) (count_in bytes) (address_in bytes) ≡ false → EndsWell bytes
unfolding is_bad_end both
good_end bytes e t =
    let n : not (pick (eqb (count_in bytes) 0) (eqb (address_in bytes) 0) false) ≡ false = sym (pick_true _ _ _ (eq-eqb (type_in bytes) 1 t)) ∙ e in
    let b = both_holds (eqb (count_in bytes) 0) (eqb (address_in bytes) 0) (not-false _ n) in
    (eqb-true _ _ b.0, eqb-true _ _ b.1)

end_good : (bytes : List ℕ) → EndsWell bytes → is_bad_end (type_in bytes) (count_in bytes) (address_in bytes) ≡ false
unfolding is_bad_end both
end_good bytes w = by (eqb (type_in bytes) 1) refl
  where
    by : (t : Bool) → eqb (type_in bytes) 1 ≡ t → both t (not (both (eqb (count_in bytes) 0) (eqb (address_in bytes) 0))) ≡ false
    by true e =
        let p = w (eqb-true _ _ e) in
        pick_true _ _ _ refl ∙ ap not (pick_true _ _ _ (eq-eqb (count_in bytes) 0 p.0) ∙ eq-eqb (address_in bytes) 0 p.1)
    by false e = pick_false _ _ _ refl

-- ---- a data byte above the last address
none_above : (bytes : List ℕ) → is_above (count_in bytes) (address_in bytes) ≡ false → No (IsAbove bytes)
unfolding is_above
none_above bytes e p =
    let h = p.1 in
    let k = p.2 in
    let n : ltb last_address (address_in bytes + (count_in bytes - 1)) ≡ false = sym (pick_false _ _ _ (ne_eqb (count_in bytes) 0 (λ z. omega arith))) ∙ e in
    true≢false (sym (lt-ltb last_address (address_in bytes + (count_in bytes - 1)) (omega arith)) ∙ n)

some_above : (bytes : List ℕ) → is_above (count_in bytes) (address_in bytes) ≡ true → IsAbove bytes
unfolding is_above
some_above bytes e = by (eqb (count_in bytes) 0) refl e
  where
    by : (t : Bool) → eqb (count_in bytes) 0 ≡ t → pick t false (ltb last_address (address_in bytes + (count_in bytes - 1))) ≡ true → IsAbove bytes
    by true z q = absurd (true≢false (sym q ∙ pick_true _ _ _ refl))
    by false z q =
        let n : count_in bytes ≡ 0 → ⊥ = eqb-false _ _ z in
        (count_in bytes - 1, omega arith, ltb-true _ _ (sym (pick_false _ _ _ refl) ∙ q))

is-above : (bytes : List ℕ) → IsAbove bytes → is_above (count_in bytes) (address_in bytes) ≡ true
unfolding is_above
is-above bytes p =
    let h = p.1 in
    let k = p.2 in
    pick_false _ _ _ (ne_eqb (count_in bytes) 0 (λ z. omega arith)) ∙ lt-ltb last_address (address_in bytes + (count_in bytes - 1)) (omega arith)

not_above : (bytes : List ℕ) → No (IsAbove bytes) → is_above (count_in bytes) (address_in bytes) ≡ false
not_above bytes n = by (is_above (count_in bytes) (address_in bytes)) refl
  where
    by : (t : Bool) → is_above (count_in bytes) (address_in bytes) ≡ t → t ≡ false
    by true e = absurd (n (some_above bytes e))
    by false e = refl

-- ---- what the bytes are, by what the record is judged to be

-- the count is that of the data bytes, and an end record has count and address 0
abbrev pub Formed : List ℕ → Type 0
Formed bytes = (length bytes ≡ count_in bytes + 5) × EndsWell bytes

abbrev pub FaultSays : List ℕ → Fault → Type 0
FaultSays bytes WrongCount = Unit {0}
FaultSays bytes EndNotZero = Unit {0}
FaultSays bytes CheckByte = Formed bytes × No (sum_of bytes ≡ 0)
FaultSays bytes UnknownType = Formed bytes × ((sum_of bytes ≡ 0) × (No (type_in bytes ≡ 0) × No (type_in bytes ≡ 1)))
FaultSays bytes AboveImage = Formed bytes × ((sum_of bytes ≡ 0) × ((type_in bytes ≡ 0) × IsAbove bytes))
FaultSays bytes WrongSize = ⊥
FaultSays bytes TooLong = ⊥
FaultSays bytes NoLineEnd = ⊥
FaultSays bytes NoColon = ⊥
FaultSays bytes NoDigit = ⊥
FaultSays bytes OddDigits = ⊥
FaultSays bytes FewBytes = ⊥
FaultSays bytes NoEndRecord = ⊥
FaultSays bytes AfterEnd = ⊥

abbrev pub RecordSays : List ℕ → Result Judged Fault → Type 0
RecordSays bytes (Ok (Data address count)) =
    (address ≡ address_in bytes) × (Formed bytes × ((sum_of bytes ≡ 0) × ((type_in bytes ≡ 0) × No (IsAbove bytes))))
RecordSays bytes (Ok End) = Formed bytes × ((sum_of bytes ≡ 0) × (type_in bytes ≡ 1))
RecordSays bytes (Err f) = FaultSays bytes f

pub record_says : (bytes : List ℕ) → RecordSays bytes (judged bytes)
unfolding judged
record_says bytes =
    pick_if (RecordSays bytes) (eqb (length bytes) (count_in bytes + 5)) _ _
    (λ l.
    pick_if (RecordSays bytes) (is_bad_end (type_in bytes) (count_in bytes) (address_in bytes)) _ _ (λ b. tt)
    (λ b.
    let f : Formed bytes = (eqb-true _ _ l, good_end bytes b) in
    pick_if (RecordSays bytes) (eqb (sum_of bytes) 0) _ _
    (λ s.
    let z = eqb-true _ _ s in
    pick_if (RecordSays bytes) (eqb (type_in bytes) 1) _ _ (λ t. (f, (z, eqb-true _ _ t)))
    (λ t.
    pick_if (RecordSays bytes) (eqb (type_in bytes) 0) _ _
    (λ u.
    pick_if (RecordSays bytes) (is_above (count_in bytes) (address_in bytes)) _ _ (λ a. (f, (z, (eqb-true _ _ u, some_above bytes a))))
    (λ a. (refl, (f, (z, (eqb-true _ _ u, none_above bytes a))))))
    (λ u. (f, (z, (eqb-false _ _ u, eqb-false _ _ t))))))
    (λ s. (f, eqb-false _ _ s))))
    (λ l. tt)

-- ---- what it is judged to be, by its bytes
module _ (bytes : List ℕ) (f : Formed bytes) where
  formed : (j : Result Judged Fault)
      → j ≡ pick (eqb (sum_of bytes) 0) (pick (eqb (type_in bytes) 1) (Ok End) (pick (eqb (type_in bytes) 0) (pick (is_above (count_in bytes) (address_in bytes)) (Err AboveImage) (Ok (Data (address_in bytes) (count_in bytes)))) (Err UnknownType))) (Err CheckByte)
      → j ≡ judged bytes
  unfolding judged
  formed j e = e ∙ sym (pick_true _ _ _ (eq-eqb (length bytes) (count_in bytes + 5) f.0) ∙ pick_false _ _ _ (end_good bytes f.1))

  -- it is judged to be one of five things
  pub formed_chain : (P : Result Judged Fault → Type 0) → P (Err CheckByte) → P (Ok End) → P (Err UnknownType) → P (Err AboveImage) → P (Ok (Data (address_in bytes) (count_in bytes))) → P (judged bytes)
  formed_chain P c e u a d =
      subst P (formed _ refl)
      (pick_both P (eqb (sum_of bytes) 0) _ _
      (pick_both P (eqb (type_in bytes) 1) _ _ e
      (pick_both P (eqb (type_in bytes) 0) _ _ (pick_both P (is_above (count_in bytes) (address_in bytes)) _ _ a d) u))
      c)

  pub judged_17 : No (sum_of bytes ≡ 0) → Err CheckByte ≡ judged bytes
  judged_17 n = formed _ (sym (pick_false _ _ _ (ne_eqb (sum_of bytes) 0 n)))

  module _ (s : sum_of bytes ≡ 0) where
    summed : (j : Result Judged Fault)
        → j ≡ pick (eqb (type_in bytes) 1) (Ok End) (pick (eqb (type_in bytes) 0) (pick (is_above (count_in bytes) (address_in bytes)) (Err AboveImage) (Ok (Data (address_in bytes) (count_in bytes)))) (Err UnknownType))
        → j ≡ judged bytes
    summed j e = formed j (e ∙ sym (pick_true _ _ _ (eq-eqb (sum_of bytes) 0 s)))

    pub judged_end : type_in bytes ≡ 1 → Ok End ≡ judged bytes
    judged_end t = summed _ (sym (pick_true _ _ _ (eq-eqb (type_in bytes) 1 t)))

    pub judged_18 : No (type_in bytes ≡ 0) → No (type_in bytes ≡ 1) → Err UnknownType ≡ judged bytes
    judged_18 n m = summed _ (sym (pick_false _ _ _ (ne_eqb (type_in bytes) 1 m) ∙ pick_false _ _ _ (ne_eqb (type_in bytes) 0 n)))

    module _ (t : type_in bytes ≡ 0) where
      typed : (j : Result Judged Fault) → j ≡ pick (is_above (count_in bytes) (address_in bytes)) (Err AboveImage) (Ok (Data (address_in bytes) (count_in bytes))) → j ≡ judged bytes
      typed j e = summed j (e ∙ sym (pick_false _ _ _ (ne_eqb (type_in bytes) 1 (λ z. omega arith)) ∙ pick_true _ _ _ (eq-eqb (type_in bytes) 0 t)))

      pub judged_19 : IsAbove bytes → Err AboveImage ≡ judged bytes
      judged_19 a = typed _ (sym (pick_true _ _ _ (is-above bytes a)))

      pub judged_data : No (IsAbove bytes) → Ok (Data (address_in bytes) (count_in bytes)) ≡ judged bytes
      judged_data n = typed _ (sym (pick_false _ _ _ (not_above bytes n)))
