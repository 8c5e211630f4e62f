-- Laws: a character is a hex digit by the definition exactly when it is one by its own account, and is worth the same.
use Prim.Native.Char.{code as letter}
use Rattle.std.specs.Prelude.{ℕ, ◌+◌, ◌-◌, ◌<◌, ◌≤◌, Bool, true, false, ◌≡◌, refl, leb}
use Rattle.std.proofs.Common.{arith, true≢false, ◌∙◌, sym, subst, le-leb}
use Rattle.std.proofs.lemmas.Bool.{lt-leb}
use Rattle.base.specs.Bits.{both}
use Rattle.base.specs.Both.{both_true'}
use Rattle.base.specs.Pick.{pick, pick_true, pick_false}
use Rattle.intelhex.specs.Bytes.{between, is_digit, worth}
use Rattle.intelhex.specs.Digits.{between_ends}
use Rattle.roundtrip.specs.Grammar.{Digit, decimal, capital, small}

-- a character between two others, and one that is not
within : (least c most : ℕ) → least ≤ c → c ≤ most → between least c most ≡ true
unfolding between
within least c most h k = both_true' _ _ (le-leb least c h) (le-leb c most k)

above : (least c most : ℕ) → most < c → between least c most ≡ false
unfolding between both
above least c most h = by (leb least c)
  where
    by : (t : Bool) → pick t (leb c most) false ≡ false
    by true = pick_true _ _ _ refl ∙ lt-leb c most h
    by false = pick_false _ _ _ refl

-- ---- its own account, and so the definition
pub digit_is : (c w : ℕ) → Digit c w → (is_digit c ≡ true) × (worth c ≡ w)
unfolding is_digit worth
digit_is c w (decimal {n = n} h) =
    let b = within (letter "0") (letter "0" + n) (letter "9") (omega arith) (omega arith) in
    let e : letter "0" + n - letter "0" ≡ n = omega arith in
    (pick_true _ _ _ b, pick_true _ _ _ b ∙ e)
digit_is c w (capital {n = n} h) =
    let a = above (letter "0") (letter "A" + n) (letter "9") (omega arith) in
    let b = within (letter "A") (letter "A" + n) (letter "F") (omega arith) (omega arith) in
    let e : letter "A" + n - letter "A" + 10 ≡ 10 + n = omega arith in
    (pick_false _ _ _ a ∙ pick_true _ _ _ b, pick_false _ _ _ a ∙ pick_true _ _ _ b ∙ e)
digit_is c w (small {n = n} h) =
    let a = above (letter "0") (letter "a" + n) (letter "9") (omega arith) in
    let b = above (letter "A") (letter "a" + n) (letter "F") (omega arith) in
    let d = within (letter "a") (letter "a" + n) (letter "f") (omega arith) (omega arith) in
    let e : letter "a" + n - letter "a" + 10 ≡ 10 + n = omega arith in
    (pick_false _ _ _ a ∙ pick_false _ _ _ b ∙ d, pick_false _ _ _ a ∙ pick_false _ _ _ b ∙ pick_true _ _ _ d ∙ e)

pub digit_small : (c w : ℕ) → Digit c w → w < 16
digit_small c w (decimal h) = omega arith
digit_small c w (capital h) = omega arith
digit_small c w (small h) = omega arith

-- ---- the definition, and so its own account
pub is-digit : (c : ℕ) → is_digit c ≡ true → Digit c (worth c)
unfolding is_digit worth
is-digit c t = by (between (letter "0") c (letter "9")) (between (letter "A") c (letter "F")) (between (letter "a") c (letter "f")) refl refl refl t
  where
    by : (p q r : Bool) → between (letter "0") c (letter "9") ≡ p → between (letter "A") c (letter "F") ≡ q → between (letter "a") c (letter "f") ≡ r → pick p true (pick q true r) ≡ true
        → Digit c (pick p (c - letter "0") (pick q (c - letter "A" + 10) (pick r (c - letter "a" + 10) 0)))
    by true q r e f g t =
        let b = between_ends _ _ _ e in
        let h = b.0 in
        let k = b.1 in
        let m : letter "0" + (c - letter "0") ≡ c = omega arith in
        subst (Digit c) (sym (pick_true _ _ _ refl)) (subst (λ (x : ℕ). Digit x (c - letter "0")) m (decimal (omega arith)))
    by false true r e f g t =
        let b = between_ends _ _ _ f in
        let h = b.0 in
        let k = b.1 in
        let m : letter "A" + (c - letter "A") ≡ c = omega arith in
        let w : 10 + (c - letter "A") ≡ c - letter "A" + 10 = omega arith in
        subst (Digit c) (w ∙ sym (pick_false _ _ _ refl ∙ pick_true _ _ _ refl)) (subst (λ (x : ℕ). Digit x (10 + (c - letter "A"))) m (capital (omega arith)))
    by false false true e f g t =
        let b = between_ends _ _ _ g in
        let h = b.0 in
        let k = b.1 in
        let m : letter "a" + (c - letter "a") ≡ c = omega arith in
        let w : 10 + (c - letter "a") ≡ c - letter "a" + 10 = omega arith in
        subst (Digit c) (w ∙ sym (pick_false _ _ _ refl ∙ pick_false _ _ _ refl ∙ pick_true _ _ _ refl)) (subst (λ (x : ℕ). Digit x (10 + (c - letter "a"))) m (small (omega arith)))
    by false false false e f g t = absurd (true≢false (sym t ∙ pick_false _ _ _ refl ∙ pick_false _ _ _ refl))
