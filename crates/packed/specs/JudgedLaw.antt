-- Law: bytes that are judged one by one stand exactly where they are a record whose fields lie in their ranges.
use Rattle.std.specs.Prelude.{ℕ, zero, suc, ◌+◌, ◌*◌, ◌/◌, ◌%◌, ◌<◌, ◌≤◌, Bool, false, ◌≡◌, refl, eqb, leb, length, drop, replicate}
use native.Mathlib.Omega.{arith}
use Rattle.std.proofs.Math.Bool.{true}
use Rattle.std.proofs.Common.{true≢false, ◌∙◌, drop_of_length-le, drop-cons}
use mathlib.Core.List.{List, [], ◌∷◌, ◌++◌}
use Rattle.std.proofs.Math.Path.{ap, sym}
use Rattle.std.proofs.Math.ListN.{get_or}
use borrow.Author.Tests.{eqb-true, leb-true, le-leb}
use Rattle.base.specs.Bits.{both}
use Rattle.base.specs.Both.{both_holds}
use Rattle.base.specs.Bytes.{same_bytes}
use Rattle.base.specs.Pick.{pick}
use Rattle.chip.specs.Range.{in_range}
use Rattle.records.specs.Numbers.{number_at}
use Rattle.packed.specs.declared.Step.{Step}
use Rattle.packed.specs.Step.{step, flag, level_packed, level_unpacked}
use Rattle.packed.specs.Packed.{record_size, bytes_of, step_at, packed_with, packed, unpacked, is_record}
use Rattle.packed.specs.Laws.{same_true, same_refl, packed_length}
use Rattle.packed.specs.Limits.{step_stands}
use Rattle.packed.specs.LimitsLaw.{holds_both, flag_is, flag_small, step_back}
use Rattle.packed.specs.LevelLimits.{Bytes, level_fits}
use Rattle.packed.specs.Judged.{stands, fields_stand, are_zero, rest_is_zero, bytes_stand}

-- two tests, each of which holds where the other does
alike : (a b : Bool) → (a ≡ true → b ≡ true) → (b ≡ true → a ≡ true) → a ≡ b
alike true b f g = sym (f refl)
alike false true f g = g refl
alike false false f g = refl

-- so many bytes from a place on
abbrev read : ℕ → ℕ → List ℕ → List ℕ
read k zero bs = []
read k (suc n) bs = get_or bs k 0 ∷ read (suc k) n bs

read_all : (bs : List ℕ) (n k : ℕ) → k + n ≡ length bs → read k n bs ≡ drop k bs
read_all bs zero k e = sym (drop_of_length-le bs {i = k} (omega arith))
read_all bs (suc n) k e = ap (λ (l : List ℕ). get_or bs k 0 ∷ l) (read_all bs n (suc k) (omega arith)) ∙ sym (drop-cons bs k 0 (omega arith))

-- the number of a byte and so many above it, and the bytes that it has
abbrev number : ℕ → ℕ → List ℕ → ℕ
number k zero bs = get_or bs k 0
number k (suc n) bs = get_or bs k 0 + 256 * number (suc k) n bs

bytes_next : (n x y : ℕ) → x < 256 → bytes_of (suc n) (x + 256 * y) ≡ x ∷ bytes_of n y
bytes_next n x y h =
    let low : (x + 256 * y) % 256 ≡ x = omega arith in
    let high : (x + 256 * y) / 256 ≡ y = omega arith in
    λ j. low j ∷ bytes_of n (high j)

-- two bytes are 0
zeros : (x y : ℕ) → are_zero x y ≡ true → (x ≡ 0) × (y ≡ 0)
unfolding are_zero
zeros x y e = let h = eqb-true (x + 256 * y) 0 e in (omega arith, omega arith)

module _ (bs : List ℕ) (byte : (i : ℕ) → get_or bs i 0 < 256) where
  number_bytes : (n k : ℕ) → bytes_of n (number k n bs) ≡ read k (suc n) bs
  number_bytes zero k = refl
  number_bytes (suc n) k = bytes_next n (get_or bs k 0) (number (suc k) n bs) (byte k) ∙ ap (λ (l : List ℕ). get_or bs k 0 ∷ l) (number_bytes n (suc k))

  rest_back : rest_is_zero bs ≡ true → replicate 11 0 ≡ read 21 11 bs
  unfolding rest_is_zero
  rest_back e =
      let h = both_holds _ _ e in
      let k = both_holds _ _ h.1 in
      let low = both_holds _ _ h.0 in
      let mid = both_holds _ _ k.0 in
      let high = both_holds _ _ k.1 in
      let a = zeros (get_or bs 21 0) (get_or bs 22 0) low.0 in
      let b = zeros (get_or bs 23 0) (get_or bs 24 0) low.1 in
      let c = zeros (get_or bs 25 0) (get_or bs 26 0) mid.0 in
      let d = zeros (get_or bs 27 0) (get_or bs 28 0) mid.1 in
      let f = zeros (get_or bs 29 0) (get_or bs 30 0) high.0 in
      let g = eqb-true (get_or bs 31 0) 0 high.1 in
      λ j. sym a.0 j ∷ sym a.1 j ∷ sym b.0 j ∷ sym b.1 j ∷ sym c.0 j ∷ sym c.1 j ∷ sym d.0 j ∷ sym d.1 j ∷ sym f.0 j ∷ sym f.1 j ∷ sym g j ∷ []

  -- bytes come back, where flag, step and rest do
  packs : length bs ≡ record_size → get_or bs 9 0 ≤ 1 → level_packed (level_unpacked (step_at bs)) ≡ step_at bs → rest_is_zero bs ≡ true → packed (unpacked bs) ≡ bs
  unfolding packed unpacked
  packs l rc s z =
      ap (λ (x : Step). packed_with (unpacked bs) x) s
      ∙ (λ j. number_bytes 7 0 j
      ++ (get_or bs 8 0 ∷ flag_is (get_or bs 9 0) rc j ∷ [])
      ++ number_bytes 1 10 j
      ++ (get_or bs 12 0 ∷ get_or bs 13 0 ∷ get_or bs 14 0 ∷ get_or bs 15 0 ∷ [])
      ++ number_bytes 1 16 j
      ++ (get_or bs 18 0 ∷ get_or bs 19 0 ∷ get_or bs 20 0 ∷ rest_back z j))
      ∙ read_all bs 32 0 (sym l)

  -- judged byte by byte, then a record
  forth : length bs ≡ record_size → bytes_stand bs ≡ true → stands bs ≡ true
  unfolding bytes_stand fields_stand stands is_record in_range unpacked
  forth l e =
      let h = both_holds (fields_stand bs) _ e in
      let k = both_holds (rest_is_zero bs) _ h.1 in
      let f = both_holds _ _ h.0 in
      let p = both_holds _ (leb (get_or bs 9 0) 1) f.1 in
      let s = step_back (get_or bs 8 0) (number_at bs 16 2) (get_or bs 18 0) (get_or bs 19 0) (get_or bs 20 0) (get_or bs 15 0) k.1 in
      let same : packed (unpacked bs) ≡ bs = packs l (leb-true (get_or bs 9 0) 1 p.1) s.0 k.0 in
      holds_both _ _ (ap (λ (x : List ℕ). same_bytes x bs) same ∙ same_refl bs) (holds_both _ _ f.0 (holds_both _ _ p.0 s.1))

  -- a record, then judged so
  module _ (e : bs ≡ packed (unpacked bs)) where
    the_step : step_at bs ≡ level_packed (level_unpacked (step_at bs))
    unfolding packed unpacked
    the_step =
        let s = level_packed (level_unpacked (step_at bs)) in
        let w : s.w % 256 + 256 * (s.w / 256) ≡ s.w = omega arith in
        ap (λ (x : List ℕ). step_at x) e ∙ (λ j. step s.number (w j) s.a s.b s.c)

    the_flag : get_or bs 9 0 ≤ 1
    unfolding packed unpacked
    the_flag =
        let q : get_or bs 9 0 ≡ flag (eqb (get_or bs 9 0) 1) = ap (λ (x : List ℕ). get_or x 9 0) e in
        let h = flag_small (eqb (get_or bs 9 0) 1) in
        omega arith

    the_rest : rest_is_zero bs ≡ true
    unfolding rest_is_zero are_zero packed both pick
    the_rest = ap (λ (x : List ℕ). rest_is_zero x) e

    the_bytes : Bytes (level_packed (level_unpacked (step_at bs)))
    the_bytes = rw (sym the_step) (record {
      w_small = let h = byte 16 in let k = byte 17 in omega arith;
      b_small = let h = byte 19 in omega arith;
      c_small = let h = byte 20 in omega arith;
    })

    back : in_range (unpacked bs) ≡ true → bytes_stand bs ≡ true
    unfolding bytes_stand fields_stand in_range unpacked
    back r =
        let h = both_holds _ _ r in
        let k = both_holds _ _ h.1 in
        let s : step_stands (get_or bs 8 0) (step_at bs) ≡ true
        = ap (λ (x : Step). step_stands (get_or bs 8 0) x) the_step ∙ level_fits (get_or bs 8 0) (level_unpacked (step_at bs)) k.1 the_bytes in
        holds_both _ _ (holds_both _ _ h.0 (holds_both _ _ k.0 (le-leb (get_or bs 9 0) 1 the_flag))) (holds_both _ _ the_rest s)

  again : stands bs ≡ true → bytes_stand bs ≡ true
  unfolding stands is_record
  again e =
      let h = both_holds (is_record bs) _ e in
      back (sym (same_true (packed (unpacked bs)) bs h.0)) h.1

  pub bytes_judged : length bs ≡ record_size → bytes_stand bs ≡ stands bs
  bytes_judged l = alike (bytes_stand bs) (stands bs) (forth l) again

-- bytes of another number than a record's never stand
stands_length : (bs : List ℕ) → stands bs ≡ true → length bs ≡ record_size
unfolding stands is_record
stands_length bs e =
    let h = both_holds (is_record bs) _ e in
    ap (λ (x : List ℕ). length x) (sym (same_true (packed (unpacked bs)) bs h.0)) ∙ packed_length (unpacked bs)

pub never_stands : (bs : List ℕ) → (length bs ≡ record_size → ⊥) → false ≡ stands bs
never_stands bs n = alike false (stands bs) (λ e. absurd (true≢false (sym e))) (λ e. absurd (n (stands_length bs e)))
