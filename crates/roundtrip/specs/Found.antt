-- Laws: what stands next in a text, and what the text then is.
use Prim.Native.Char.{code as letter}
use Rattle.std.specs.Prelude.{ℕ, suc, ◌+◌, ◌-◌, ◌*◌, ◌/◌, ◌%◌, ◌<◌, ◌≤◌, Bool, true, false, ◌⊎◌, ◌≡◌, refl, eqb, ltb, length, get_or, take, Result, Ok, Err}
use native.Mathlib.Omega.{arith}
use Rattle.std.proofs.Common.{add-one, inl, inr, ◌∙◌, sym, take-append-drop, drop_of_length-le, length-drop, get_or-take, take-take, length-take-le, eqb-true, ltb-true}
use mathlib.Core.List.{List, [], ◌∷◌, ◌++◌}
use Rattle.std.proofs.Math.Path.{ap, subst}
use Rattle.std.proofs.Math.ListN.{drop}
use Rattle.std.proofs.Math.Seq.{drop-cons}
use Rattle.std.proofs.lemmas.Bool.{eqb-false}
use Rattle.base.specs.Bits.{both}
use Rattle.base.specs.Both.{both_holds}
use Rattle.base.specs.Exactly.{No}
use Rattle.base.specs.Pick.{pick, pick_true, pick_false, pick_if, pick_both}
use Rattle.intelhex.specs.Faults.{line_most, number_of_fault}
use Rattle.intelhex.specs.Bytes.{is_digit, byte_of, bytes_of, sum_of}
use Rattle.intelhex.specs.Written.{line_feed}
use Rattle.intelhex.specs.Lines.{before, carriage_return, without_return, standing, all_digits, form_of, count_in, address_in, type_in, data_in, judged}
use Rattle.intelhex.specs.Reading.{given, Next, data-record, end-record, stop, next_by, next_in, next_of, next}
use Rattle.intelhex.specs.Ends.{bytes_length}
use Rattle.intelhex.specs.Sound.{most_within, FormFits, form_fits}
use Rattle.intelhex.specs.declared.Ending.{Ending}
use Rattle.intelhex.specs.declared.Ending.TheVariants as ending
use Rattle.intelhex.specs.declared.Fault.{Fault}
use Rattle.intelhex.specs.declared.Fault.TheVariants.{WrongSize, TooLong, NoLineEnd, NoColon, NoDigit, OddDigits, FewBytes, WrongCount, EndNotZero, CheckByte, UnknownType, AboveImage, NoEndRecord, AfterEnd}
use Rattle.intelhex.specs.declared.lines.Standing.{Standing}
use Rattle.intelhex.specs.declared.lines.Standing.TheVariants.{Nothing, Unended, Endless, Line}
use Rattle.intelhex.specs.declared.record.Judged.{Judged}
use Rattle.intelhex.specs.declared.record.Judged.TheVariants as judged-as
use Rattle.roundtrip.specs.Digits.{is-digit}
use Rattle.roundtrip.specs.Grammar.{Spells, nothing, a_byte, LineEnd, lf, cr_lf, IsLineOf, IsDataRecord, IsEndRecord, IsAbove, Begins}
use Rattle.roundtrip.specs.Records.{FaultSays, RecordSays, record_says}

-- ---- where the first LF stands
before_feed : (cs : List ℕ) → before cs < length cs → get_or cs (before cs) 0 ≡ line_feed
before_feed [] h = absurd (omega arith)
before_feed (c ∷ cs) h = by (eqb c line_feed) refl h (before_feed cs)
  where
    by : (t : Bool) → eqb c line_feed ≡ t → pick t 0 (suc (before cs)) < suc (length cs) → (before cs < length cs → get_or cs (before cs) 0 ≡ line_feed)
        → get_or (c ∷ cs) (pick t 0 (suc (before cs))) 0 ≡ line_feed
    by true e k later = ap (λ (n : ℕ). get_or (c ∷ cs) n 0) (pick_true _ _ _ refl) ∙ eqb-true c line_feed e
    by false e k later =
        let p : pick false 0 (suc (before cs)) ≡ suc (before cs) = pick_false _ _ _ refl in
        ap (λ (n : ℕ). get_or (c ∷ cs) n 0) p ∙ later (omega arith)

-- how many characters the line has, of those before its LF
Return : List ℕ → ℕ → ℕ → Type 0
Return text m n = (n ≡ m) ⊎ ((n + 1 ≡ m) × (get_or text n 0 ≡ carriage_return))

return_is : (text : List ℕ) (m : ℕ) → Return text m (without_return text m)
unfolding without_return Return
return_is text m =
    pick_if (Return text m) (eqb m 0) _ _ (λ e. inl refl)
    (λ z.
    let n : m ≡ 0 → ⊥ = eqb-false _ _ z in
    pick_if (Return text m) (eqb (get_or text (m - 1) 0) carriage_return) _ _ (λ c. inr (omega arith, eqb-true _ _ c)) (λ c. inl refl))

abbrev LineStands : List ℕ → Standing → Type 0
LineStands text Nothing = text ≡ []
LineStands text Unended = No (text ≡ [])
LineStands text Endless = No (text ≡ [])
LineStands text (Line n size) = (m : ℕ) × (size ≡ m + 1) × (Return text m n) × (m < length text) × (get_or text m 0 ≡ line_feed)

no_length : (text : List ℕ) → length text ≡ 0 → text ≡ []
no_length [] e = refl
no_length (c ∷ cs) e = absurd (omega arith)

line_stands : (text : List ℕ) → LineStands text (standing text)
unfolding standing
line_stands text =
    pick_if (LineStands text) (eqb (length text) 0) _ _ (λ e. no_length text (eqb-true _ _ e))
    (λ z.
    let some : No (text ≡ []) = λ e. eqb-false _ _ z (ap length e) in
    pick_if (LineStands text) (ltb (before (take line_most text)) (length (take line_most text))) _ _
    (λ t.
    let h : before (take line_most text) < length (take line_most text) = ltb-true _ _ t in
    let w = most_within text in
    let a = w.0 in
    let b = w.1 in (
      before (take line_most text),
      refl,
      return_is text (before (take line_most text)),
      omega arith,
      sym (get_or-take line_most text (before (take line_most text)) 0 (omega arith)) ∙ before_feed (take line_most text) h,
    ))
    (λ t. pick_both (LineStands text) (ltb (length text) line_most) _ _ some some))

-- ---- the line of a text
module _ (text : List ℕ) (m n : ℕ) (r : Return text m n) (h : m < length text) (f : get_or text m 0 ≡ line_feed) where
  full : length (take (m + 1) text) ≡ m + 1
  full = length-take-le (m + 1) text (omega arith)

  last : drop m (take (m + 1) text) ≡ line_feed ∷ []
  last =
      let l = full in
      drop-cons (take (m + 1) text) m 0 (omega arith)
      ∙ (λ j. get_or-take (m + 1) text m 0 (omega arith) j ∷ drop_of_length-le (take (m + 1) text) {i = suc m} (omega arith) j)
      ∙ ap (λ (c : ℕ). c ∷ []) f

  -- what stands behind its characters is its end
  line_end : LineEnd (drop n (take (m + 1) text))
  unfolding Return
  line_end = by r
    where
      by : (n ≡ m) ⊎ ((n + 1 ≡ m) × (get_or text n 0 ≡ carriage_return)) → LineEnd (drop n (take (m + 1) text))
      by (inl e) = subst LineEnd (sym (ap (λ (k : ℕ). drop k (take (m + 1) text)) e ∙ last)) lf
      by (inr p) =
          let l = full in
          let e = p.0 in
          subst LineEnd
          (sym (
          drop-cons (take (m + 1) text) n 0 (omega arith)
          ∙ (λ j. (get_or-take (m + 1) text n 0 (omega arith) ∙ p.1) j ∷ drop ((sym (add-one n) ∙ e) j) (take (m + 1) text))
          ∙ ap (λ (x : List ℕ). carriage_return ∷ x) last))
          cr_lf

  within : n ≤ m + 1
  unfolding Return
  within = by r
    where
      by : (n ≡ m) ⊎ ((n + 1 ≡ m) × (get_or text n 0 ≡ carriage_return)) → n ≤ m + 1
      by (inl e) = omega arith
      by (inr p) = let e = p.0 in omega arith

  -- its characters, and its end
  line_split : take (m + 1) text ≡ take n text ++ drop n (take (m + 1) text)
  line_split = sym (take-append-drop n (take (m + 1) text)) ∙ ap (λ (x : List ℕ). x ++ drop n (take (m + 1) text)) (take-take n (m + 1) text within)

-- ---- its digits
colon_first : (line : List ℕ) → get_or line 0 0 ≡ letter ":" → line ≡ letter ":" ∷ drop 1 line
colon_first [] e = absurd (let z : 0 ≡ 58 = e in omega arith)
colon_first (c ∷ cs) e = ap (λ (x : ℕ). x ∷ cs) e

spelt : (cs : List ℕ) (k : ℕ) → length cs ≡ 2 * k → all_digits cs ≡ true → Spells cs (bytes_of cs)
unfolding byte_of
spelt [] k l e = nothing
spelt (a ∷ []) k l e = absurd (omega arith)
spelt (a ∷ b ∷ cs) k l e =
    let p = both_holds (is_digit a) (both (is_digit b) (all_digits cs)) e in
    let q = both_holds (is_digit b) (all_digits cs) p.1 in
    a_byte (is-digit a p.0) (is-digit b q.0) (spelt cs (k - 1) (omega arith) q.1)

abbrev pub FormSays : List ℕ → Result ℕ Fault → Type 0
FormSays line (Ok n) = (get_or line 0 0 ≡ letter ":") × (all_digits (drop 1 line) ≡ true)
FormSays line (Err f) = number_of_fault f ≡ 16

pub form_says : (line : List ℕ) → FormSays line (form_of line)
unfolding form_of
form_says line =
    pick_if (FormSays line) (eqb (get_or line 0 0) (letter ":")) _ _
    (λ c.
    pick_if (FormSays line) (all_digits (drop 1 line)) _ _
    (λ d.
    pick_both (FormSays line) (eqb ((length line - 1) % 2) 0) _ _
    (pick_both (FormSays line) (ltb ((length line - 1) / 2) 5) _ _ refl (eqb-true _ _ c, d))
    refl)
    (λ d. refl))
    (λ c. refl)

-- ---- what stands next
pub data Stops (text : List ℕ) : ℕ → Type 0 where
  stops_16 : No (text ≡ []) → Stops text 16
  stops_17 : {bytes more : List ℕ} → Begins text bytes more → No (sum_of bytes ≡ 0) → Stops text 17
  stops_18 : {bytes more : List ℕ} → Begins text bytes more → sum_of bytes ≡ 0 → No (type_in bytes ≡ 0) → No (type_in bytes ≡ 1) → Stops text 18
  stops_19 : {bytes more : List ℕ} → Begins text bytes more → sum_of bytes ≡ 0 → type_in bytes ≡ 0 → IsAbove bytes → Stops text 19
  stops_20 : text ≡ [] → Stops text 20

abbrev pub NextSays : List ℕ → Next → Type 0
NextSays text (data-record size g) =
    (bytes : List ℕ) × (line : List ℕ) × IsLineOf bytes line × IsDataRecord bytes × (text ≡ line ++ drop size text) × (g ≡ given (address_in bytes) (data_in bytes))
NextSays text (end-record size) = (bytes : List ℕ) × (line : List ℕ) × IsLineOf bytes line × IsEndRecord bytes × (text ≡ line ++ drop size text)
NextSays text (stop (Ok ending.End)) = ⊥
NextSays text (stop (Ok ending.Part)) = ⊥
NextSays text (stop (Err f)) = Stops text (number_of_fault f)

-- by a record
module _ (text bytes line : List ℕ) (size : ℕ) (f : IsLineOf bytes line) (five : 5 ≤ length bytes) (is : text ≡ line ++ drop size text) (some : No (text ≡ [])) where
  begins : (length bytes ≡ count_in bytes + 5) × (type_in bytes ≡ 1 → (count_in bytes ≡ 0) × (address_in bytes ≡ 0)) → Begins text bytes (drop size text)
  begins g = record { line = line; formed = f; form = (five, g); is = is }

  fault_says : (x : Fault) → FaultSays bytes x → Stops text (number_of_fault x)
  fault_says WrongCount r = stops_16 some
  fault_says EndNotZero r = stops_16 some
  fault_says CheckByte r = stops_17 (begins r.0) r.1
  fault_says UnknownType r = stops_18 (begins r.0) r.1.0 r.1.1.0 r.1.1.1
  fault_says AboveImage r = stops_19 (begins r.0) r.1.0 r.1.1.0 r.1.1.1
  fault_says WrongSize r = absurd r
  fault_says TooLong r = absurd r
  fault_says NoLineEnd r = absurd r
  fault_says NoColon r = absurd r
  fault_says NoDigit r = absurd r
  fault_says OddDigits r = absurd r
  fault_says FewBytes r = absurd r
  fault_says NoEndRecord r = absurd r
  fault_says AfterEnd r = absurd r

  by_record : (j : Result Judged Fault) → RecordSays bytes j → NextSays text (next_by size bytes j)
  by_record (Ok (judged-as.Data address count)) r =
      (bytes, line, f, ((five, r.1.0), r.1.1), is, ap (λ (a : ℕ). given a (data_in bytes)) r.0)
  by_record (Ok judged-as.End) r = (bytes, line, f, ((five, r.0), r.1), is)
  by_record (Err x) r = fault_says x r

-- by a line's characters
module _ (text : List ℕ) (n m : ℕ) (r : Return text m n) (h : m < length text) (c : get_or text m 0 ≡ line_feed) where
  by_form : (x : Result ℕ Fault) → x ≡ form_of (take n text) → FormSays (take n text) x → FormFits (take n text) x → NextSays text (next_in (m + 1) (take n text) x)
  by_form (Ok k) e s l =
      let d = drop 1 (take n text) in
      let E = drop n (take (m + 1) text) in
      let a : length (take n text) ≡ 2 * k + 1 = l.0 in
      let five = l.1 in
      let b = length-drop 1 (take n text) in
      let g = bytes_length d in
      let formed : IsLineOf (bytes_of d) (take (m + 1) text) = record {
        digits = d;
        end = E;
        spells = spelt d k (omega arith) s.1;
        ends = line_end text m n r h c;
        is = line_split text m n r h c ∙ ap (λ (x : List ℕ). x ++ E) (colon_first (take n text) s.0);
      } in
      by_record text (bytes_of d) (take (m + 1) text) (m + 1) formed (omega arith) (sym (take-append-drop (m + 1) text)) (λ z. let y = ap length z in omega arith) (judged (bytes_of d)) (record_says (bytes_of d))
  by_form (Err f) e s l = subst (Stops text) (sym s) (stops_16 (λ z. let y = ap length z in omega arith))

by_standing : (text : List ℕ) (x : Standing) → LineStands text x → NextSays text (next_of false text x)
by_standing text Nothing e = subst (λ (y : Result Ending Fault). NextSays text (stop y)) (sym (pick_false _ _ _ refl)) (stops_20 e)
by_standing text Unended e = subst (λ (y : Result Ending Fault). NextSays text (stop y)) (sym (pick_false _ _ _ refl)) (stops_16 e)
by_standing text Endless e = stops_16 e
by_standing text (Line n size) (m, e, r, h, c) =
    subst (λ (k : ℕ). NextSays text (next_in k (take n text) (form_of (take n text)))) (sym e)
    (by_form text n m r h c (form_of (take n text)) refl (form_says (take n text)) (form_fits (take n text)))

-- what stands next in a text before its end record
pub next_says : (text : List ℕ) → NextSays text (next false false text)
unfolding next
next_says text = subst (NextSays text) (sym (pick_false _ _ _ refl)) (by_standing text (standing text) (line_stands text))
