-- Laws: the characters of answers in a text, and the loop that puts those of packed answers.
use Rattle.std.specs.Prelude.{ℕ, suc, ◌+◌, ◌*◌, ◌<◌, ◌≤◌, Bool, List, [], ◌∷◌, ◌++◌, ◌≡◌, refl, length, drop, set}
use Rattle.std.proofs.Common.{arith, add-one, ◌∙◌, ap, sym, length-set, drop_of_length-le}
use Rattle.line.specs.Packing.{host_rest}
use Rattle.line.specs.Runs.{host_many}
use Rattle.line.specs.Slots.{host_bits, slot_bit}
use Rattle.recording.specs.Playing.{digit, put_digits}

-- the text stays as long as it is
pub put_length : (bs : List Bool) (place : ℕ) (out : List ℕ) → length (put_digits bs place out) ≡ length out
put_length [] place out = refl
put_length (b ∷ bs) place out = put_length bs (suc place) (set out place (digit b)) ∙ length-set out place (digit b)

-- answers after others
pub put_append : (bs cs : List Bool) (place : ℕ) (out : List ℕ) → put_digits (bs ++ cs) place out ≡ put_digits cs (place + length bs) (put_digits bs place out)
put_append [] cs place out = ap (λ (k : ℕ). put_digits cs k out) (same place)
  where
    same : (n : ℕ) → n ≡ n + 0
    same n = omega arith
put_append (b ∷ bs) cs place out =
    let e : suc place + length bs ≡ place + suc (length bs) = omega arith in
    put_append bs cs (suc place) (set out place (digit b)) ∙ ap (λ (k : ℕ). put_digits cs k (put_digits bs (suc place) (set out place (digit b)))) e

-- where the loop over n packed answers stands after i of them
pub record Digits (answers : List ℕ) (n place : ℕ) (out₀ out : List ℕ) (i : ℕ) : Type 0 where
  pub left : put_digits (drop i (host_bits n answers)) (place + i) out ≡ put_digits (host_bits n answers) place out₀
  pub within : i ≤ n
  pub there : n ≤ 8 * length answers
  pub room : place + n ≤ length out
  pub long : length out ≡ length out₀

-- it stands so at the beginning
pub digits_start : (answers : List ℕ) (n place : ℕ) (out : List ℕ) → n ≤ 8 * length answers → place + n ≤ length out → Digits answers n place out out 0
digits_start answers n place out h l =
    let z : place + 0 ≡ place = omega arith in
    record { left = ap (λ (k : ℕ). put_digits (host_bits n answers) k out) z; within = omega arith; there = h; room = l; long = refl }

module _ (answers : List ℕ) (n place : ℕ) (out₀ out : List ℕ) (i : ℕ) (g : Digits answers n place out₀ out i) where
  -- the character of the next answer is put
  pub digits_next : (b : Bool) (d : ℕ) (more : List ℕ) → i < n → b ≡ slot_bit answers i → d ≡ digit b → more ≡ set out (place + i) d → Digits answers n place out₀ more (i + 1)
  digits_next b d more h e f m =
      let bs = host_bits n answers in
      let rest = drop (suc i) bs in
      let s : place + (i + 1) ≡ suc (place + i) = omega arith in
      let l : length more ≡ length out = ap length m ∙ length-set out (place + i) d in
      let r = g.room in
      record {
        left =
            (λ j. put_digits (drop (add-one i j) bs) (s j) (m j))
            ∙ (λ j. put_digits rest (suc (place + i)) (set out (place + i) (f j)))
            ∙ ap (λ (x : Bool). put_digits (x ∷ rest) (place + i) out) e
            ∙ ap (λ (l : List Bool). put_digits l (place + i) out) (sym (host_rest n answers i g.there h))
            ∙ g.left;
        within = omega arith;
        there = g.there;
        room = omega arith;
        long = l ∙ g.long;
      }

  -- all are put
  pub digits_end : n ≤ i → out ≡ put_digits (host_bits n answers) place out₀
  digits_end h =
      let m = host_many n answers g.there in
      ap (λ (l : List Bool). put_digits l (place + i) out) (sym (drop_of_length-le (host_bits n answers) {i = i} (omega arith))) ∙ g.left
