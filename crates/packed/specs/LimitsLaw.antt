-- Law: a chip that can be in a step with such fields has a level of its own, in its range, that packs to them again.
use Rattle.std.specs.Prelude.{ℕ, suc, ◌<◌, ◌≤◌, Bool, true, false, ◌≡◌, refl, eqb, ltb, leb}
use Rattle.std.proofs.Common.{arith, ◌∙◌, sym}
use borrow.Author.Tests.{ltb-true, ltb-false, leb-true, eqb-true, eqb-false, lt-ltb, le-ltb, le-leb, ne_eqb}
use Rattle.base.specs.Pick.{pick, pick_true, pick_false}
use Rattle.base.specs.Bits.{both}
use Rattle.base.specs.Both.{both_holds}
use Rattle.memory.specs.Part.{map_of}
use Rattle.chip.specs.Kinds.{part_of, has_memory, has_switch}
use Rattle.chip.specs.Range.{level_in_range}
use Rattle.packed.specs.declared.Step.{Step}
use Rattle.packed.specs.declared.Limits.{Limits}
use Rattle.packed.specs.Step.{step, flag, level_packed, rom_unpacked, copy_unpacked, memory_unpacked, switch_unpacked, level_unpacked}
use Rattle.packed.specs.Limits.{up_to, any_limits, memory_limits, switch_limits, limits_of, can_be, within, step_stands}

-- two bits are both 1 where each is
pub holds_both : (a b : Bool) → a ≡ true → b ≡ true → both a b ≡ true
unfolding both pick
holds_both a b p q = rw p q

-- a number of 0 or 1 is the flag of whether it is 1
pub flag_is : (x : ℕ) → x ≤ 1 → flag (eqb x 1) ≡ x
flag_is x h = go (eqb x 1) (eqb-true x 1) (eqb-false x 1)
  where
    go : (t : Bool) → (t ≡ true → x ≡ 1) → (t ≡ false → x ≡ 1 → ⊥) → flag t ≡ x
    go true f g = sym (f refl)
    go false f g = let n = g refl in omega arith

pub flag_small : (t : Bool) → flag t ≤ 1
flag_small true = omega arith
flag_small false = omega arith

-- a number below a bound is the greatest, or below that
last_or_below : (P : ℕ → Type 0) (k n : ℕ) → n < suc k → P k → (n < k → P n) → P n
last_or_below P k n h p q = go (eqb n k) (eqb-true n k) (eqb-false n k)
  where
    go : (t : Bool) → (t ≡ true → n ≡ k) → (t ≡ false → n ≡ k → ⊥) → P n
    go true f g = rw (f refl) p
    go false f g = let e = g refl in q (omega arith)

-- the fields of a step within their limits
module _ (s : Step) (most : Limits) where
  fields : within s most ≡ true → (s.w ≤ most.w) × (s.a ≤ most.a) × (s.b ≤ most.b) × (s.c ≤ most.c)
  unfolding within
  fields e =
      let h = both_holds (leb s.w most.w) _ e in
      let k = both_holds (leb s.a most.a) _ h.1 in
      let m = both_holds (leb s.b most.b) _ k.1 in
      (leb-true _ _ h.0, leb-true _ _ k.0, leb-true _ _ m.0, leb-true _ _ m.1)

  pub fits : s.w ≤ most.w → s.a ≤ most.a → s.b ≤ most.b → s.c ≤ most.c → within s most ≡ true
  unfolding within
  fits w a b c =
      holds_both _ _ (le-leb _ _ w) (holds_both _ _ (le-leb _ _ a) (holds_both _ _ (le-leb _ _ b) (le-leb _ _ c)))

-- a test holds together with what a kind has, where it holds by itself
owned : {A : Type 0} (t u x : Bool) → (u ≡ true → A × (x ≡ true)) → both t u ≡ true → A × (both t x ≡ true)
owned t u x f e =
    let h = both_holds t u e in
    let k = f h.1 in
    (k.0, holds_both t x h.0 k.1)

none : (x : ℕ) → x ≤ 0 → 0 ≡ x
none x h = omega arith

below : (x k : ℕ) → x ≤ k → ltb x (suc k) ≡ true
below x k h = lt-ltb x (suc k) (omega arith)

-- fields within their limits come back from the level that they stand for
module _ (kind w a b c : ℕ) where
  abbrev Back : ℕ → Type 0
  Back n = step_stands kind (step n w a b c) ≡ true
      → (level_packed (level_unpacked (step n w a b c)) ≡ step n w a b c) × (level_in_range kind (level_unpacked (step n w a b c)) ≡ true)

  -- by what a step names: nothing, a count, a count and a byte, a count and a word
  bare : (n : ℕ) → within (step n w a b c) (up_to 0 0 0 0) ≡ true → (step n 0 0 0 0 ≡ step n w a b c) × (true ≡ true)
  bare n e =
      let h = fields (step n w a b c) (up_to 0 0 0 0) e in
      ((λ j. step n (none w h.0 j) (none a h.1 j) (none b h.2 j) (none c h.3 j)), refl)

  counts : (n k : ℕ) → within (step n w a b c) (up_to 0 k 0 0) ≡ true → (step n 0 a 0 0 ≡ step n w a b c) × (ltb a (suc k) ≡ true)
  counts n k e =
      let h = fields (step n w a b c) (up_to 0 k 0 0) e in
      ((λ j. step n (none w h.0 j) a (none b h.2 j) (none c h.3 j)), below a k h.1)

  bytes : (n : ℕ) → within (step n w a b c) (up_to 0 7 255 0) ≡ true → (step n 0 a b 0 ≡ step n w a b c) × (ltb a 8 ≡ true)
  bytes n e =
      let h = fields (step n w a b c) (up_to 0 7 255 0) e in
      ((λ j. step n (none w h.0 j) a b (none c h.3 j)), below a 7 h.1)

  words : (n k : ℕ) → within (step n w a b c) (up_to 65535 k 0 0) ≡ true → (step n w a 0 0 ≡ step n w a b c) × (ltb a (suc k) ≡ true)
  words n k e =
      let h = fields (step n w a b c) (up_to 65535 k 0 0) e in
      ((λ j. step n w a (none b h.2 j) (none c h.3 j)), below a k h.1)

  -- and by the steps that are like no other
  searches : within (step 4 w a b c) (up_to 0 63 2 0) ≡ true → (step 4 0 a b 0 ≡ step 4 w a b c) × (both (ltb a 64) (ltb b 3) ≡ true)
  searches e =
      let h = fields (step 4 w a b c) (up_to 0 63 2 0) e in
      ((λ j. step 4 (none w h.0 j) a b (none c h.3 j)), holds_both _ _ (below a 63 h.1) (below b 2 h.2))

  writes : within (step 18 w a b c) (up_to 65535 31 7 255) ≡ true → (step 18 w a b c ≡ step 18 w a b c) × (both (ltb a 32) (ltb b 8) ≡ true)
  writes e =
      let h = fields (step 18 w a b c) (up_to 65535 31 7 255) e in
      (refl, holds_both _ _ (below a 31 h.1) (below b 7 h.2))

  reads : within (step 21 w a b c) (up_to 65535 31 7 0) ≡ true → (step 21 w a b 0 ≡ step 21 w a b c) × (both (ltb a 32) (ltb b 8) ≡ true)
  reads e =
      let h = fields (step 21 w a b c) (up_to 65535 31 7 0) e in
      ((λ j. step 21 w a b (none c h.3 j)), holds_both _ _ (below a 31 h.1) (below b 7 h.2))

  ends : within (step 23 w a b c) (up_to 65535 7 255 0) ≡ true → (step 23 w a b 0 ≡ step 23 w a b c) × (ltb a 8 ≡ true)
  ends e =
      let h = fields (step 23 w a b c) (up_to 65535 7 255 0) e in
      ((λ j. step 23 w a b (none c h.3 j)), below a 7 h.1)

  answers : within (step 24 w a b c) (up_to 0 1 0 0) ≡ true → (step 24 0 (flag (eqb a 1)) 0 0 ≡ step 24 w a b c) × (true ≡ true)
  answers e =
      let h = fields (step 24 w a b c) (up_to 0 1 0 0) e in
      ((λ j. step 24 (none w h.0 j) (flag_is a h.1 j) (none b h.2 j) (none c h.3 j)), refl)

  sends : (last : ℕ) → within (step 26 w a b c) (up_to last 7 0 0) ≡ true → (step 26 w a 0 0 ≡ step 26 w a b c) × (both (leb w last) (ltb a 8) ≡ true)
  sends last e =
      let h = fields (step 26 w a b c) (up_to last 7 0 0) e in
      ((λ j. step 26 w a (none b h.2 j) (none c h.3 j)), holds_both _ _ (le-leb w last h.0) (below a 7 h.1))

  back_any : (n : ℕ) → n < 6 → Back n
  unfolding step_stands can_be limits_of any_limits pick both level_unpacked rom_unpacked
  back_any n h =
      last_or_below Back 5 n h (bytes 5) (λ h.
      last_or_below Back 4 n h searches (λ h.
      last_or_below Back 3 n h (counts 3 63) (λ h.
      last_or_below Back 2 n h (counts 2 63) (λ h.
      last_or_below Back 1 n h (bytes 1) (λ h.
      last_or_below Back 0 n h (bare 0) (λ h. absurd (omega arith)))))))

  back_memory : (n : ℕ) → 15 < n → n < 27 → Back n
  unfolding step_stands can_be limits_of memory_limits pick both level_unpacked memory_unpacked copy_unpacked
  back_memory n k h =
      last_or_below Back 26 n h (owned (has_memory kind) _ _ (sends (map_of (part_of kind)).last)) (λ h.
      last_or_below Back 25 n h (owned (has_memory kind) _ _ (words 25 15)) (λ h.
      last_or_below Back 24 n h (owned (has_memory kind) _ _ answers) (λ h.
      last_or_below Back 23 n h (owned (has_memory kind) _ _ ends) (λ h.
      last_or_below Back 22 n h (owned (has_memory kind) _ _ (words 22 15)) (λ h.
      last_or_below Back 21 n h (owned (has_memory kind) _ _ reads) (λ h.
      last_or_below Back 20 n h (owned (has_memory kind) _ _ (counts 20 23)) (λ h.
      last_or_below Back 19 n h (owned (has_memory kind) _ _ (words 19 15)) (λ h.
      last_or_below Back 18 n h (owned (has_memory kind) _ _ writes) (λ h.
      last_or_below Back 17 n h (owned (has_memory kind) _ _ (words 17 15)) (λ h.
      last_or_below Back 16 n h (owned (has_memory kind) _ _ (bare 16)) (λ h. absurd (omega arith))))))))))))

  back_switch : (n : ℕ) → 31 < n → n < 37 → Back n
  unfolding step_stands can_be limits_of switch_limits pick both level_unpacked switch_unpacked
  back_switch n k h =
      last_or_below Back 36 n h (owned (has_switch kind) _ _ (bytes 36)) (λ h.
      last_or_below Back 35 n h (owned (has_switch kind) _ _ (counts 35 7)) (λ h.
      last_or_below Back 34 n h (owned (has_switch kind) _ _ (words 34 15)) (λ h.
      last_or_below Back 33 n h (owned (has_switch kind) _ _ (bytes 33)) (λ h.
      last_or_below Back 32 n h (owned (has_switch kind) _ _ (bare 32)) (λ h. absurd (omega arith))))))

  can : (n : ℕ) → 6 ≤ n → step_stands kind (step n w a b c) ≡ true → can_be kind n ≡ true
  unfolding step_stands
  can n h e = (both_holds (can_be kind n) _ (sym (pick_false (eqb n 0) _ _ (ne_eqb n 0 (λ (q : n ≡ 0). omega arith))) ∙ e)).0

  of_memory : (n : ℕ) → 6 ≤ n → n < 27 → can_be kind n ≡ true → 15 < n
  unfolding can_be
  of_memory n h k e =
      let f = both_holds (ltb 15 n) (has_memory kind) (sym (pick_false (ltb n 6) _ _ (le-ltb n 6 h) ∙ pick_true (ltb n 27) _ _ (lt-ltb n 27 k)) ∙ e) in
      ltb-true 15 n f.0

  of_switch : (n : ℕ) → 27 ≤ n → can_be kind n ≡ true → (n < 37) × (31 < n)
  unfolding can_be
  of_switch n h e =
      let f = both_holds (both (ltb n 37) (ltb 31 n)) (has_switch kind) (sym (pick_false (ltb n 6) _ _ (le-ltb n 6 (omega arith)) ∙ pick_false (ltb n 27) _ _ (le-ltb n 27 h)) ∙ e) in
      let g = both_holds (ltb n 37) (ltb 31 n) f.0 in
      (ltb-true n 37 g.0, ltb-true 31 n g.1)

  pub step_back : (n : ℕ) → Back n
  step_back n e = go (ltb n 6) (ltb n 27) (ltb-true n 6) (ltb-false n 6) (ltb-true n 27) (ltb-false n 27)
    where
      go : (s t : Bool) → (s ≡ true → n < 6) → (s ≡ false → 6 ≤ n) → (t ≡ true → n < 27) → (t ≡ false → 27 ≤ n)
          → (level_packed (level_unpacked (step n w a b c)) ≡ step n w a b c) × (level_in_range kind (level_unpacked (step n w a b c)) ≡ true)
      go true t f g h k = back_any n (f refl) e
      go false true f g h k = back_memory n (of_memory n (g refl) (h refl) (can n (g refl) e)) (h refl) e
      go false false f g h k = let s = of_switch n (k refl) (can n (g refl) e) in back_switch n s.1 s.0 e
