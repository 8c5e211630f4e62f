-- Laws: a byte of a part that lies in a buffer is that of the part on its own.
use Rattle.std.specs.Prelude.{ℕ, ◌+◌, ◌<◌, ◌≤◌, Bool, true, false, List, ◌++◌, ◌≡◌, refl, ltb, length, drop, take, get_or, set}
use Rattle.std.proofs.Common.{arith, ◌∙◌, ap, sym, length-drop, take-append-drop, get_or-take, get_or-drop, length-take-le, drop-set-lt, ltb-true, ltb-false}
use Rattle.std.proofs.Math.ListN.{get_or-eq_default}
use Rattle.std.proofs.lemmas.List.{take-set-le, drop-set-add}
use Rattle.std.proofs.Math.Seq.{take-set-lt, set_out}
use Rattle.base.specs.Parts.{part_byte, put_in_part, byte_inside, byte_past, put_inside, put_past}
use Rattle.line.specs.Bridge.{part_of, put_part}
use Rattle.packed.specs.Within.{back}

module _ (s : List ℕ) (at size i : ℕ) (h : at + size ≤ length s) where
  size_of_part : length (take size (drop at s)) ≡ size
  size_of_part = length-take-le size (drop at s) (simp length-drop (omega arith))

  within : i < size → part_byte s at size i ≡ get_or (part_of s at size) i 0
  within l = sym (byte_inside s at size i (omega arith) (omega arith) l) ∙ sym (get_or-drop at s i 0) ∙ sym (get_or-take size (drop at s) i 0 l)

  past : size ≤ i → part_byte s at size i ≡ get_or (part_of s at size) i 0
  past l =
      let n = size_of_part in
      sym (byte_past s at size i l) ∙ sym (get_or-eq_default (take size (drop at s)) 0 {n = i} (omega arith))

  pub byte_of_part : part_byte s at size i ≡ get_or (part_of s at size) i 0
  byte_of_part = go (ltb i size) refl
    where
      go : (t : Bool) → ltb i size ≡ t → part_byte s at size i ≡ get_or (part_of s at size) i 0
      go true e = within (ltb-true i size e)
      go false e = past (ltb-false i size e)

  -- and one put into it
  module _ (b : ℕ) where
    put_within : i < size → put_in_part s at size i b ≡ put_part s at size (set (part_of s at size) i b)
    put_within l =
        sym (put_inside s at size i b (omega arith) (omega arith) l)
        ∙ sym (take-append-drop at (set s (at + i) b))
        ∙ (λ j. take-set-le at s (at + i) b (omega arith) j ++ drop-set-add at s i b j)
        ∙ ap (λ (x : List ℕ). take at s ++ x)
        (sym (take-append-drop size (set (drop at s) i b)) ∙ (λ j. take-set-lt size (drop at s) i b l j ++ drop-set-lt size (drop at s) i b l j))

    put_beyond : size ≤ i → put_in_part s at size i b ≡ put_part s at size (set (part_of s at size) i b)
    put_beyond l =
        let n = size_of_part in
        sym (put_past s at size i b l)
        ∙ sym (back s at size)
        ∙ ap (λ (x : List ℕ). put_part s at size x) (sym (set_out (take size (drop at s)) i b (omega arith)))

    pub put_of_part : put_in_part s at size i b ≡ put_part s at size (set (part_of s at size) i b)
    put_of_part = go (ltb i size) refl
      where
        go : (t : Bool) → ltb i size ≡ t → put_in_part s at size i b ≡ put_part s at size (set (part_of s at size) i b)
        go true e = put_within (ltb-true i size e)
        go false e = put_beyond (ltb-false i size e)
