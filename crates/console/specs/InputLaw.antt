-- Laws of bytes that are moved to the start of their buffer: none, all, and one more.
use Rattle.std.specs.Prelude.{ℕ, suc, ◌+◌, ◌<◌, ◌≡◌}
use Rattle.std.proofs.Math.Nat.{add_comm}
use Rattle.std.proofs.Common.{arith, add-one, ◌∙◌, length-take-le, drop-cons, take-suc}
use mathlib.Core.List.{List, ◌++◌}
use Rattle.std.proofs.Math.Path.{ap, sym}
use Rattle.std.proofs.Math.ListN.{length, take, drop, get_or, set, take-append-drop, length-drop}
use Rattle.std.proofs.Math.Seq.{get_or-append-add, get_or-drop, set_at, append_snoc}
use Rattle.console.specs.Input.{moved_down}

module _ (at n : ℕ) (bs : List ℕ) where
  pub moved_none : n ≡ 0 → bs ≡ moved_down at n bs
  unfolding moved_down
  moved_none e = sym (ap (λ (k : ℕ). take k (drop at bs) ++ drop k bs) e)

  pub moved_whole : at ≡ 0 → bs ≡ moved_down at n bs
  unfolding moved_down
  moved_whole e = sym (ap (λ (k : ℕ). take n (drop k bs) ++ drop n bs) e ∙ take-append-drop n bs)

module _ (at k : ℕ) (bs : List ℕ) (h : at + k < length bs) where
  front : length (take k (drop at bs)) ≡ k
  front = length-take-le k (drop at bs) (simp length-drop (omega arith))

  byte_there : get_or (moved_down at k bs) (at + k) 0 ≡ get_or (drop at bs) k 0
  unfolding moved_down
  byte_there =
      let place : at + k ≡ length (take k (drop at bs)) + at = add_comm at k ∙ ap (λ (n : ℕ). n + at) (sym front) in
      ap (λ (n : ℕ). get_or (take k (drop at bs) ++ drop k bs) n 0) place
      ∙ get_or-append-add (take k (drop at bs)) (drop k bs) at 0
      ∙ get_or-drop k bs at 0
      ∙ ap (λ (n : ℕ). get_or bs n 0) (add_comm k at)
      ∙ sym (get_or-drop at bs k 0)

  pub moved_next : (x : List ℕ) → x ≡ moved_down at k bs → set x k (get_or x (at + k) 0) ≡ moved_down at (k + 1) bs
  unfolding moved_down
  moved_next x e =
      let xs = take k (drop at bs) in
      let v = get_or (drop at bs) k 0 in
      let rest = drop (suc k) bs in
      let in_rest : k < length (drop at bs) = simp length-drop (omega arith) in
      ap (λ (l : List ℕ). set l k (get_or l (at + k) 0)) e
      ∙ ap (λ (b : ℕ). set (xs ++ drop k bs) k b) byte_there
      ∙ ap (λ (l : List ℕ). set (xs ++ l) k v) (drop-cons bs k 0 (omega arith))
      ∙ set_at xs (get_or bs k 0) rest v k front
      ∙ sym (append_snoc xs v rest)
      ∙ ap (λ (l : List ℕ). l ++ rest) (sym (take-suc (drop at bs) k 0 in_rest))
      ∙ ap (λ (n : ℕ). take n (drop at bs) ++ drop n bs) (sym (add-one k))
