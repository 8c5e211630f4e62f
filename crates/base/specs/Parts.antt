-- A byte of a part of a list: the part begins at an offset and has a size, and lies in the list or is none.
use Rattle.std.specs.Prelude.{ℕ, ◌+◌, ◌-◌, ◌<◌, ◌≤◌, List, ◌≡◌, ltb, leb, length, get_or, set}
use Rattle.std.proofs.Common.{arith, ◌∙◌, ap, le-leb, lt-ltb, le-ltb}
use Rattle.std.proofs.Math.Path.{sym}
use Rattle.std.proofs.lemmas.Bool.{lt-leb}
use Rattle.base.specs.Pick.{pick, pick_true, pick_false, pick_same}

-- the byte i of the part, 0 where there is none
unfoldable pub part_byte : List ℕ → ℕ → ℕ → ℕ → ℕ
part_byte s at size i = pick (leb (at + size) (length s)) (pick (ltb i size) (get_or s (at + i) 0) 0) 0

-- the list with another byte there
unfoldable pub put_in_part : List ℕ → ℕ → ℕ → ℕ → ℕ → List ℕ
put_in_part s at size i b = pick (leb (at + size) (length s)) (pick (ltb i size) (set s (at + i) b) s) s

-- the byte of a part, and a part with another byte, are those of the list
module _ (s : List ℕ) (at size i : ℕ) where
  inside : {A : Type 0} (a b c : A) → at ≤ length s → size ≤ length s - at → i < size → pick (leb (at + size) (length s)) (pick (ltb i size) a b) c ≡ a
  inside a b c h k l = pick_true (leb (at + size) (length s)) _ _ (le-leb (at + size) (length s) (omega arith)) ∙ pick_true (ltb i size) _ _ (lt-ltb i size l)

  past : {A : Type 0} (a b : A) → size ≤ i → pick (leb (at + size) (length s)) (pick (ltb i size) a b) b ≡ b
  past a b h = ap (λ x. pick (leb (at + size) (length s)) x b) (pick_false (ltb i size) _ _ (le-ltb i size h)) ∙ pick_same (leb (at + size) (length s)) b

  outside : {A : Type 0} (a b : A) → length s < at + size → pick (leb (at + size) (length s)) a b ≡ b
  outside a b h = pick_false (leb (at + size) (length s)) _ _ (lt-leb (at + size) (length s) h)

  pub byte_inside : at ≤ length s → size ≤ length s - at → i < size → get_or s (at + i) 0 ≡ part_byte s at size i
  unfolding part_byte
  byte_inside h k l = sym (inside _ _ _ h k l)

  pub byte_past : size ≤ i → 0 ≡ part_byte s at size i
  unfolding part_byte
  byte_past h = sym (past _ _ h)

  pub byte_outside : length s < at + size → 0 ≡ part_byte s at size i
  unfolding part_byte
  byte_outside h = sym (outside _ _ h)

  module _ (b : ℕ) where
    pub put_inside : at ≤ length s → size ≤ length s - at → i < size → set s (at + i) b ≡ put_in_part s at size i b
    unfolding put_in_part
    put_inside h k l = sym (inside _ _ _ h k l)

    pub put_past : size ≤ i → s ≡ put_in_part s at size i b
    unfolding put_in_part
    put_past h = sym (past _ _ h)

    pub put_outside : length s < at + size → s ≡ put_in_part s at size i b
    unfolding put_in_part
    put_outside h = sym (outside _ _ h)
