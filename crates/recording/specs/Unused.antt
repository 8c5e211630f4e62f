-- Laws: the bits of a run past its slots are those of its last byte.
use Rattle.std.specs.Prelude.{ℕ, zero, suc, ◌+◌, ◌-◌, ◌/◌, ◌%◌, ◌^◌, ◌<◌, Bool, true, false, not, List, [], ◌∷◌, ◌++◌, ◌≡◌, refl, eqb, ltb, length, drop, get_or}
use Rattle.std.proofs.Common.{arith, lt_of_lt_of_le, pow_mono, shr-shr, ◌∙◌, ap, sym, subst, drop-drop, eqb-true, eq-eqb, ne_eqb, ltb-true, ltb-false}
use Rattle.std.proofs.Math.Nat.{pow-succ', div-eq_of_lt}
use Rattle.std.proofs.Math.ListN.{get_or-eq_default}
use Rattle.std.proofs.lemmas.Bool.{eqb-false}
use Rattle.base.specs.Pick.{pick}
use Rattle.base.specs.Bits.{both}
use Rattle.line.specs.Slots.{bits_of, bits_in, bytes_asked}
use Rattle.recording.specs.Reading.{none_set, unused_clear}

-- a number is 0 where its lowest bit and its half are
none_halved : (x : ℕ) → both (not (eqb (x % 2) 1)) (eqb (x / 2) 0) ≡ eqb x 0
unfolding both pick
none_halved x = go (eqb (x % 2) 1) (eqb (x / 2) 0) refl refl
  where
    go : (a b : Bool) → eqb (x % 2) 1 ≡ a → eqb (x / 2) 0 ≡ b → both (not a) b ≡ eqb x 0
    go true b e f = let h = eqb-true (x % 2) 1 e in sym (ne_eqb x 0 (λ z. omega arith))
    go false true e f = let h = eqb-false (x % 2) 1 e in let k = eqb-true (x / 2) 0 f in sym (eq-eqb x 0 (omega arith))
    go false false e f = let k = eqb-false (x / 2) 0 f in sym (ne_eqb x 0 (λ z. k (omega arith)))

-- of a number's bits none is 1 where the number is 0
none-set : (n x : ℕ) → x < 2 ^ n → none_set (bits_of n x) ≡ eqb x 0
none-set zero x h = sym (eq-eqb x 0 (omega arith))
none-set (suc n) x h =
    let p = pow-succ' 2 n in
    ap (both (not (eqb (x % 2) 1))) (none-set n (x / 2) (omega arith)) ∙ none_halved x

-- and of those from a place on, where what is left of it there is 0
pub none_from : (k n x : ℕ) → x < 2 ^ n → none_set (drop k (bits_of n x)) ≡ eqb (x / 2 ^ k) 0
none_from zero n x h = none-set n x h ∙ ap (λ (y : ℕ). eqb y 0) (whole x)
  where
    whole : (y : ℕ) → y ≡ y / 2 ^ 0
    whole y = omega arith
none_from (suc k) zero x h = sym (eq-eqb (x / 2 ^ suc k) 0 (div-eq_of_lt (lt_of_lt_of_le h (pow_mono {i = 0} {j = suc k} (omega arith)))))
none_from (suc k) (suc n) x h =
    let p = pow-succ' 2 n in
    none_from k n (x / 2) (omega arith) ∙ ap (λ (y : ℕ). eqb y 0) (shr-shr x 1 k ∙ ap (λ (m : ℕ). x / 2 ^ m) (one_more k))
  where
    one_more : (m : ℕ) → 1 + m ≡ suc m
    one_more m = omega arith

-- nothing is left where there are no bytes
pub no_bytes : (xs : List ℕ) → length xs ≡ 0 → xs ≡ []
no_bytes [] e = refl
no_bytes (x ∷ xs) e = absurd (omega arith)

-- the bits past so many slots, by the byte that the next slot would have
pub unused_last : (count : ℕ) (xs : List ℕ) → length xs ≡ bytes_asked count → unused_clear count xs ≡ none_set (drop (count % 8) (bits_of 8 (get_or xs (count / 8) 0)))
unfolding unused_clear both pick
unused_last count [] h = subst (λ (n : ℕ). none_set (drop n []) ≡ none_set (drop (n % 8) (bits_of 8 (get_or [] (n / 8) 0)))) (zero_is count h) refl
  where
    zero_is : (n : ℕ) → 0 ≡ bytes_asked n → 0 ≡ n
    zero_is n e = omega arith
unused_last count (x ∷ xs) h = go (ltb count 8) refl (λ l. unused_last (count - 8) xs l)
  where
    go : (a : Bool) → ltb count 8 ≡ a
        → (length xs ≡ bytes_asked (count - 8) → unused_clear (count - 8) xs ≡ none_set (drop ((count - 8) % 8) (bits_of 8 (get_or xs ((count - 8) / 8) 0))))
        → none_set (drop count (bits_of 8 x ++ bits_in xs)) ≡ none_set (drop (count % 8) (bits_of 8 (get_or (x ∷ xs) (count / 8) 0)))
    go true e f =
        let l = ltb-true count 8 e in
        let n = no_bytes xs (omega arith) in
        let d : count / 8 ≡ 0 = omega arith in
        let m : count % 8 ≡ count = omega arith in
        ap (λ (ys : List ℕ). none_set (drop count (bits_of 8 x ++ bits_in ys))) n ∙ (λ j. none_set (drop (sym m j) (bits_of 8 (get_or (x ∷ xs) (sym d j) 0))))
    go false e f =
        let l = ltb-false count 8 e in
        let d : suc ((count - 8) / 8) ≡ count / 8 = omega arith in
        let m : (count - 8) % 8 ≡ count % 8 = omega arith in
        let w : count ≡ 8 + (count - 8) = omega arith in
        ap (λ (n : ℕ). none_set (drop n (bits_of 8 x ++ bits_in xs))) w
        ∙ ap none_set (sym (drop-drop (count - 8) 8 (bits_of 8 x ++ bits_in xs)))
        ∙ f (omega arith)
        ∙ (λ j. none_set (drop (m j) (bits_of 8 (get_or (x ∷ xs) (d j) 0))))

-- where they fill their bytes there are none
pub unused_none : (count : ℕ) (xs : List ℕ) → length xs ≡ bytes_asked count → count % 8 ≡ 0 → unused_clear count xs ≡ true
unfolding both pick
unused_none count xs h e =
    let d : get_or xs (count / 8) 0 ≡ 0 = get_or-eq_default xs 0 {n = count / 8} (omega arith) in
    unused_last count xs h ∙ (λ j. none_set (drop (e j) (bits_of 8 (d j))))
